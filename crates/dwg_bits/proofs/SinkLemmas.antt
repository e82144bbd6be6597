-- What holds of every sink that grows.
use Rattle.std.proofs.Common.{sym, ◌∙◌, ap, arith, Bool, List, [], ◌++◌}
use Rattle.std.proofs.lemmas.List.{append_assoc, append-nil, length-append}
use Rattle.dwg_bits.specs.Sink.{Written, Extends}

-- a sink that stays grew by no bits
pub extends_by_none : (sink : Written) → Extends sink sink []
extends_by_none sink = record {
  bits = sym (append-nil sink.written);
  spare = omega arith;
}

-- a sink that grew by some bits and then by others grew by both
pub extends_by_both : (first second third : Written) (some others : List Bool) → Extends first second some → Extends second third others → Extends first third (some ++ others)
extends_by_both first second third some others by_some by_others = record {
  bits = by_others.bits ∙ ap (λ prefix. prefix ++ others) by_some.bits ∙ append_assoc first.written some others;
  spare = omega (arith, by_some.spare, by_others.spare, length-append some others);
}
