-- Points of the plane are codes.
use Rattle.std.proofs.Common.{refl}
use Rattle.dwg_grammar.specs.Codes.{rd, dd}
use Rattle.dwg_grammar.proofs.CombinatorLemmas.{any_letters_closed, seq_is_code}
use Rattle.dwg_grammar.proofs.DefaultLemmas.{dd_is_code}
use Rattle.dwg_grammar.specs.Grammar.{IsCode, AnyLetters}
use Rattle.dwg_grammar.proofs.NumberLemmas.{rd_is_code}
use Rattle.dwg_grammar.specs.declared.points.Point2.{Point2}
use Rattle.dwg_grammar.proofs.Shaped.{shaped_is_code}
use Rattle.dwg_grammar.specs.Points.{IsPoint2, rd2, dd2}

-- a 2RD is a code
pub rd2_is_code : IsCode AnyLetters rd2
rd2_is_code = shaped_is_code _ _ _ (seq_is_code AnyLetters rd _ any_letters_closed rd_is_code (λ x fits. rd_is_code)) (λ words fits. refl) (λ point. refl)

-- a 2DD is a code for each default of two words
pub dd2_is_code : (default : Point2) → IsPoint2 default → IsCode AnyLetters (dd2 default)
dd2_is_code default is =
    shaped_is_code _ _ _
    (seq_is_code AnyLetters (dd default.x) _ any_letters_closed (dd_is_code default.x is.x) (λ x fits. dd_is_code default.y is.y))
    (λ words fits. refl) (λ point. refl)

-- so for each that was read
pub dd2_of_read : (default : Point2) → rd2.IsValue default → IsCode AnyLetters (dd2 default)
dd2_of_read default fits = dd2_is_code default (record { x = fits.0; y = fits.1 })
