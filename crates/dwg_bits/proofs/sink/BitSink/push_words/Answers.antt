use Rattle.std.proofs.Common.{◌+◌, ◌∙◌, ap, arith, ◌++◌}
use Rattle.dwg_bits.specs.Cursor.{bits_between}
use Rattle.dwg_bits.proofs.BitLaws.{length_of_bits_between, length_of_low_bits}
use Rattle.dwg_bits.proofs.Pushing.{none_placed, word_placed}
use Rattle.dwg_bits.proofs.WordParts.{count_fits}
use Rattle.dwg_bits.proofs.sink.BitSink.push_words.Goals as goal

pub words-init : goal.words-init
words-init c =
    record {
      ordered = omega arith;
      inside = c.requires.ordered;
      bits = none_placed _ _ _;
      spare = omega arith;
    }

pub push-requires-clause-value : goal.push-requires-clause-value
push-requires-clause-value c = count_fits c.args.bytes.now c.words.place c.next_count-count.result _ (omega arith) c.number_at.ensures

pub words-preserved : goal.words-preserved
words-preserved c =
    record {
      ordered = omega arith;
      inside = omega arith;
      bits = word_placed _ _ _ c.args.bytes.now _ c.words.place _ _ (omega arith) (omega arith) c.number_at.ensures c.push.ensures.bits c.words.invariant.bits ∙ ap (λ n. c.args.self.now.written ++ bits_between c.args.bytes.now c.args.from (c.words.place + n)) (omega arith);
      spare = omega (arith, c.push.ensures.spare, c.words.invariant.spare, length_of_low_bits c.next_count-count.result c.number_at.result);
    }

pub returns : goal.returns
returns c =
    record {
      bits = c.words.invariant.bits ∙ ap (λ to. c.args.self.now.written ++ bits_between c.args.bytes.now c.args.from to) (omega arith);
      spare = omega (arith, c.words.invariant.spare, length_of_bits_between c.args.bytes.now c.args.from c.args.to c.requires.within);
    }
