-- The numbers and the alignment of a text are codes in each version.
use Rattle.std.proofs.Common.{ℕ, ◌^◌, ◌<◌, Bool, true, false, Option, arith}
use Rattle.std.specs.Prelude.{not}
use Rattle.dwg_base.specs.declared.version.Version.{Version}
use Rattle.dwg_base.specs.declared.version.Version.TheVariants.{Ac1014, Ac1015}
use Rattle.dwg_grammar.specs.Codes.{rc, rd, bd}
use Rattle.dwg_grammar.specs.Combinators.{when}
use Rattle.dwg_grammar.specs.Flags.{has}
use Rattle.dwg_grammar.specs.Grammar.{Grammar, IsCode, AnyLetters}
use Rattle.dwg_grammar.specs.Points.{IsPoint2, rd2, dd2}
use Rattle.dwg_grammar.specs.Versions.{since_1015}
use Rattle.dwg_grammar.specs.declared.points.Point2.{Point2}
use Rattle.dwg_grammar.proofs.NumberLemmas.{rd_is_code}
use Rattle.dwg_grammar.proofs.PointLemmas.{rd2_is_code, dd2_is_code}
use Rattle.dwg_grammar.proofs.TableLemmas.{bd_is_code}
use Rattle.dwg_grammar.proofs.VersionLemmas.{in_version_is_code}
use Rattle.dwg_entities.specs.Flags.{unless}
use Rattle.dwg_entities.specs.TextBody.{Inscription, word, aligned, text_main}

-- a number
pub word_is_code : (version : Version) → IsCode AnyLetters (word version)
word_is_code version = in_version_is_code AnyLetters version bd rd bd_is_code rd_is_code

-- an alignment
pub aligned_is_code : (version : Version) (insertion : Point2) → IsPoint2 insertion → IsCode AnyLetters (aligned version insertion)
aligned_is_code version insertion is = in_version_is_code AnyLetters version rd2 (dd2 insertion) rd2_is_code (dd2_is_code insertion is)

-- so for each insertion that was read
pub aligned_of_read : (version : Version) (insertion : Point2) → rd2.IsValue insertion → IsCode AnyLetters (aligned version insertion)
aligned_of_read version insertion fits = aligned_is_code version insertion (record { x = fits.0; y = fits.1 })

-- a word is a number of a text
pub word_value : (version : Version) (number : ℕ) → number < 2 ^ 64 → (word version).IsValue number
word_value Ac1014 number small = small
word_value Ac1015 number small = small

-- a point is an alignment
pub aligned_value : (version : Version) (insertion point : Point2) → IsPoint2 point → (aligned version insertion).IsValue point
aligned_value Ac1014 insertion point is = (is.x, is.y)
aligned_value Ac1015 insertion point is = (is.x, is.y)

-- and only a point
pub aligned_point : (version : Version) (insertion point : Point2) → (aligned version insertion).IsValue point → IsPoint2 point
aligned_point Ac1014 insertion point fits = record { x = fits.0; y = fits.1 }
aligned_point Ac1015 insertion point fits = record { x = fits.0; y = fits.1 }

-- flags are a byte
pub flags_small : (version : Version) (flags : ℕ) → (since_1015 version 0 rc).IsValue flags → flags < 2 ^ 8
flags_small Ac1014 flags none = omega (arith, none)
flags_small Ac1015 flags small = small

-- a part that stands where a test holds stands there by another code too
when_narrower : {V : Type 0} (test : Bool) (older newer : Grammar Bool V) → ((value : V) → older.IsValue value → newer.IsValue value) → (part : Option V)
    → (when test older).IsValue part → (when test newer).IsValue part
when_narrower true older newer wider part (inner, same, fits) = (inner, same, wider inner fits)
when_narrower false older newer wider part none = none

-- so does one unless a flag is set
unless_narrower : {V : Type 0} (flags weight : ℕ) (older newer : Grammar Bool V) → ((value : V) → older.IsValue value → newer.IsValue value) → (part : Option V)
    → (unless flags weight older).IsValue part → (unless flags weight newer).IsValue part
unless_narrower flags weight older newer wider part fits = when_narrower (not (has flags weight)) older newer wider part fits

-- what AC1014 can spell of a text, AC1015 can spell
pub inscription_narrower : (parsed : Inscription) → (text_main Ac1014).IsValue parsed → (text_main Ac1015).IsValue parsed
unfolding text_main
inscription_narrower (flags, ((elevation, (insertion, (alignment, shown))), ((oblique, (rotation, (height, width))), worded))) (none, (placed, (lettered, words))) = (
  flags_small Ac1014 flags none,
  (
    (number 0x01 elevation placed.0, (placed.1.0, (unless_narrower flags 0x02 rd2 (dd2 insertion) (λ point fits. fits) alignment placed.1.1.0, placed.1.1.1))),
    ((number 0x04 oblique lettered.0, (number 0x08 rotation lettered.1.0, (lettered.1.1.0, number 0x10 width lettered.1.1.1))), words),
  ),
)
  where
    number : (weight : ℕ) (part : Option ℕ) → (unless flags weight bd).IsValue part → (unless flags weight rd).IsValue part
    number weight part fits = unless_narrower flags weight bd rd (λ value fits. fits) part fits
