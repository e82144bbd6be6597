-- Reading and writing three BDs.
use Rattle.std.proofs.Common.{◌≡◌, refl, subst, ℕ, Bool, List, Option, Some, None}
use Rattle.dwg_grammar.specs.declared.points.Point3.{Point3}
use Rattle.dwg_grammar.specs.Grammar.{Grammar, BeginsWith, Reads}
use Rattle.dwg_grammar.specs.Combinators.{seq}
use Rattle.dwg_grammar.specs.Codes.{bd, bd3, be_by, IsPoint3}
use Rattle.dwg_grammar.proofs.TableLemmas.{bd_is_code}
use Rattle.dwg_codes.proofs.SeqReading.{unread_through, seq_read, first_unread, second_unread}

-- two BDs
abbrev two_words : Grammar Bool (ℕ × ℕ)
two_words = seq bd (λ y. bd)

-- three BDs
abbrev three_words : Grammar Bool (ℕ × (ℕ × ℕ))
three_words = seq bd (λ x. two_words)

-- three words that were read give a point
pub point_read : (x y z : ℕ) (point : Point3) (old after_x after_y new : List Bool) → point ≡ record { x = x; y = y; z = z }
    → Reads bd (Some x) old after_x → Reads bd (Some y) after_x after_y → Reads bd (Some z) after_y new → Reads bd3 (Some point) old new
point_read x y z point old after_x after_y new same one two three =
    let others = seq_read bd (λ y. bd) y z after_x after_y new two three in
    let all = seq_read bd (λ x. two_words) x (y, z) old after_x new one others in
    (all.0, ((x, (y, z)), same, all.1), all.2)

-- where there aren't three words, there is no point
none_read : (result : Option Point3) (old : List Bool) → result ≡ None → (BeginsWith three_words old → ⊥) → Reads bd3 result old old
none_read result old none unread = unread_through three_words bd3 result old old (λ value prefix spelled. (spelled.0, spelled.2)) none unread refl

-- there is no x
pub x_unread : (result : Option Point3) (old left : List Bool) → result ≡ None → Reads bd None old left → Reads bd3 result old old
x_unread result old left none one = none_read result old none (first_unread bd (λ x. two_words) old one.0)

-- there is no y after x
pub y_unread : (x : ℕ) (result : Option Point3) (old after_x left : List Bool) → result ≡ None → Reads bd (Some x) old after_x → Reads bd None after_x left → Reads bd3 result old old
y_unread x result old after_x left none one two =
    none_read result old none (second_unread bd (λ x. two_words) x old after_x bd_is_code one (first_unread bd (λ y. bd) after_x two.0))

-- there is no z after these
pub z_unread : (x y : ℕ) (result : Option Point3) (old after_x after_y left : List Bool) → result ≡ None
    → Reads bd (Some x) old after_x → Reads bd (Some y) after_x after_y → Reads bd None after_y left → Reads bd3 result old old
z_unread x y result old after_x after_y left none one two three =
    none_read result old none
    (second_unread bd (λ x. two_words) x old after_x bd_is_code one (second_unread bd (λ y. bd) y after_x after_y bd_is_code two three.0))

-- after the tag 0 stands a point of words
pub point_at : (tag : ℕ) (point : Point3) → tag ≡ 0 → (be_by tag).IsValue point → IsPoint3 point
point_at tag point at fits = subst (λ n. (be_by n).IsValue point) at fits
