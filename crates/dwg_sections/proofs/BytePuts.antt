-- Bytes that are appended piece by piece.
use Rattle.std.proofs.Common.{◌≡◌, ℕ, ◌%◌, ◌<◌, List, [], ◌++◌, length, get_or, sym, ap, subst, ◌∙◌, arith, length-append}
use Rattle.dwg_base.specs.Bytes.{AreBytes}
use Rattle.dwg_base.proofs.ByteLists.{are_bytes, joined_are_bytes}
use Rattle.dwg_bits.specs.Bits.{bits}
use Rattle.dwg_bits.proofs.BitLaws.{bits_joined, bits_same, length_of_bits}
use Rattle.dwg_bits.specs.Sink.{Written, Extends}
use Rattle.dwg_bits.proofs.SinkLemmas.{extends_by_none, extends_by_both}
use Rattle.dwg_sections.specs.Writing.{Puts}

-- a sink that grew by the bits of bytes in hand grew by these bytes
pub puts_bytes : (old new : Written) (bytes : List ℕ) → ((i : ℕ) → get_or bytes i 0 < 256) → Extends old new (bits bytes) → Puts old new bytes
puts_bytes old new bytes small grew = record {
  written = grew;
  spare = omega (arith, grew.spare, length_of_bits bytes);
  small = are_bytes bytes small;
}

-- a sink that stays grew by no bytes
pub puts_none : (sink : Written) → Puts sink sink []
unfolding bits
puts_none sink = record {
  written = extends_by_none sink;
  spare = omega arith;
  small = tt;
}

-- a sink that grew by some bytes and then by others grew by both
pub puts_both : (first second third : Written) (some others : List ℕ) → Puts first second some → Puts second third others → Puts first third (some ++ others)
puts_both first second third some others by_some by_others = record {
  written = subst (Extends first third) (sym (bits_joined some others)) (extends_by_both first second third (bits some) (bits others) by_some.written by_others.written);
  spare = omega (arith, by_some.spare, by_others.spare, length-append some others);
  small = joined_are_bytes some others by_some.small by_others.small;
}

-- a sink that was empty holds whole bytes
pub whole_bytes : (old new : Written) (bytes : List ℕ) → old.written ≡ [] → Puts old new bytes → length new.written % 8 ≡ 0
whole_bytes old new bytes empty puts =
    let all : new.written ≡ bits bytes = puts.written.bits ∙ ap (λ prefix. prefix ++ bits bytes) empty in
    omega (arith, ap length all, length_of_bits bytes)

-- and these are the bytes that it grew by
pub held_bytes : (old new : Written) (bytes held : List ℕ) → old.written ≡ [] → Puts old new bytes → AreBytes held → bits held ≡ new.written → held ≡ bytes
held_bytes old new bytes held empty puts small same =
    bits_same held bytes small puts.small (same ∙ puts.written.bits ∙ ap (λ prefix. prefix ++ bits bytes) empty)
