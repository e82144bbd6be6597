-- Parts of objects that fit and are written by few bits: words, references, variants.
use Rattle.std.proofs.Common.{◌≡◌, refl, sym, subst, ℕ, ◌^◌, ◌≤◌, ◌<◌, Bool, true, List, [], ◌∷◌, ◌++◌, length, Option, Some, arith}
use Rattle.std.specs.Prelude.{nat_lt, nat_le, ◌&&◌, decimal, codes}
use Rattle.std.specs.Option.{option_map_or}
use Rattle.std.proofs.lemmas.Bool.Decides.{nat_tests}
use Rattle.std.proofs.lemmas.Fmt.{length-decimal-le, IsAscii-decimal}
use Rattle.dwg_base.specs.Bytes.{AreBytes}
use Rattle.dwg_base.proofs.ByteLists.{are_bytes}
use Rattle.dwg_grammar.specs.Codes.{tv}
use Rattle.dwg_grammar.proofs.TableLemmas.{tv_has}
use Rattle.dwg_grammar.specs.Bodies.{BodyGrammar}
use Rattle.dwg_grammar.specs.MakingBodies.{variant}
use Rattle.dwg_grammar.specs.ReferenceCodes.{reference}
use Rattle.dwg_make.proofs.CodeSizes.{Few, tv_few}

-- a part of an object that fits, and is written by few bits
pub record IsMade {V : Type 0} (body : BodyGrammar V) (value : V) : Type 0 where
  pub fits : body.Fits value
  pub main : Few 65536 (body.short_main value)
  pub refs : Few 65536 (body.short_references value)

-- so is it as one variant of an enum
pub variant_made : {V W : Type 0} (into : V → W) (back : W → Option V) (inner : BodyGrammar V) (value : V) → back (into value) ≡ Some value → IsMade inner value → IsMade (variant into back inner) (into value)
variant_made {V} {W} into back inner value same is = record {
  fits = (value, refl, is.fits);
  main = subst (λ (found : Option V). Few 65536 (option_map_or inner.short_main found [])) (sym same) is.main;
  refs = subst (λ (found : Option V). Few 65536 (option_map_or inner.short_references found [])) (sym same) is.refs;
}

-- a short text
pub record IsWord (text : List ℕ) : Type 0 where
  pub short : length text ≤ 32
  pub are : AreBytes text

-- bytes by a test of each
abbrev pub all_bytes : List ℕ → Bool
all_bytes [] = true
all_bytes (byte ∷ bytes) = nat_lt byte 256 && all_bytes bytes

bytes_passed : (bytes : List ℕ) → all_bytes bytes ≡ true → AreBytes bytes
bytes_passed [] passed = tt
bytes_passed (byte ∷ bytes) passed = (grind (arith, nat_tests), bytes_passed bytes (grind (arith, nat_tests)))

-- a text that passes is a word
pub word_passed : (text : List ℕ) → nat_le (length text) 32 ≡ true → all_bytes text ≡ true → IsWord text
word_passed text short are = record { short = grind (arith, nat_tests); are = bytes_passed text are }

-- the text of a further entity is a word
pub numbered_word : (number : ℕ) → number < 10 ^ 7 → IsWord (codes "T" ++ decimal number)
numbered_word number small =
    let short : length (decimal number) ≤ 7 = length-decimal-le 7 number (omega arith) small (omega arith) in
    let ascii = IsAscii-decimal number (omega arith) in
    record { short = omega (arith, short); are = (omega arith, are_bytes (decimal number) (λ i. omega (arith, ascii i))) }

-- a word has a spelling, of few bits
pub word_fits : (text : List ℕ) → IsWord text → tv.IsValue text
word_fits text is = tv_has text (omega (arith, is.short)) is.are

pub word_few : (text : List ℕ) → IsWord text → Few 274 (tv.short text)
word_few text is = tv_few 32 text is.short

-- a code below 6 reaches each target
pub ref_fits : (base code target : ℕ) → code < 6 → target < 2 ^ 63 → (reference base).IsValue (record { code = code; target = target })
unfolding reference
ref_fits base code target low small = grind (arith, nat_tests)

-- no text is a word
pub no_word : IsWord []
no_word = record { short = omega arith; are = tt }
