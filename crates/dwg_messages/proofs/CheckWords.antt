-- Check words as the formatter of std prints them.
use Rattle.std.proofs.Common.{◌≡◌, ◌∙◌, ap, ℕ, ◌-◌, ◌^◌, true, false, [], ◌++◌, length, replicate, append-nil, arith}
use Rattle.std.specs.Fmt.{digits, padded_integral, format_spec, char_count}
use Rattle.dwg_messages.specs.DrillText.{check_text}

-- a number of at most four digits with zeros before it
pub check_padded : (word : ℕ) → padded_integral (format_spec 32 0 4 4 (2 ^ 64 - 1)) false [] (digits 16 true word) ≡ check_text word
unfolding padded_integral char_count check_text
check_padded word =
    let none : 4 - length (digits 16 true word) - 0 - 0 ≡ 4 - length (digits 16 true word) = omega arith in
    ap (λ count. replicate count 48 ++ (digits 16 true word ++ [])) none ∙ ap (λ after. replicate (4 - length (digits 16 true word)) 48 ++ after) (append-nil (digits 16 true word))
