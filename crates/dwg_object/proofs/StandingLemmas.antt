-- What stands at a place of a list: its parts, what is after the place, and how far the list reaches.
use Rattle.std.proofs.Common.{◌≡◌, refl, sym, ◌∙◌, ap, subst, ℕ, ◌+◌, ◌^◌, ◌<◌, ◌≤◌, List, ◌++◌, length, take, drop, arith}
use Rattle.std.proofs.lemmas.List.{append_assoc, length-append, length-take-le, take-append-drop, take_at, drop_at}
use Rattle.std.proofs.lemmas.List.Elements.{All-from_recursion, recursion_from_All, All-take, All-drop}
use Rattle.dwg_base.specs.Bytes.{AreBytes, StandsAt}

-- what is after a place begins with what stands there
pub drop_stands : {A : Type 0} (letters : List A) (place : ℕ) (piece : List A) (stands : StandsAt letters place piece) → drop place letters ≡ piece ++ stands.after
drop_stands letters place piece stands = ap (drop place) stands.whole ∙ drop_at stands.before (piece ++ stands.after) place stands.far

-- so many letters after a place are what stands there
pub take_stands : {A : Type 0} (letters : List A) (place : ℕ) (piece : List A) (count : ℕ) → StandsAt letters place piece → length piece ≡ count → take count (drop place letters) ≡ piece
take_stands letters place piece count stands long = ap (take count) (drop_stands letters place piece stands) ∙ take_at piece stands.after count long

-- what begins what is after a place within the list stands there
pub stands_drop : {A : Type 0} (letters : List A) (place : ℕ) (piece after : List A) → place ≤ length letters → drop place letters ≡ piece ++ after → StandsAt letters place piece
stands_drop letters place piece after within same = record {
  before = take place letters;
  after = after;
  whole = sym (take-append-drop place letters) ∙ ap (λ more. take place letters ++ more) same;
  far = length-take-le place letters within;
}

-- the list reaches to the end of what stands in it
pub stands_within : {A : Type 0} (letters : List A) (place : ℕ) (piece : List A) → StandsAt letters place piece → place + length piece ≤ length letters
stands_within letters place piece stands =
    omega (arith, ap length stands.whole, length-append stands.before (piece ++ stands.after), length-append piece stands.after, stands.far)

-- the first part of what stands at a place stands there
pub stands_first : {A : Type 0} (letters : List A) (place : ℕ) (piece more : List A) → StandsAt letters place (piece ++ more) → StandsAt letters place piece
stands_first letters place piece more stands = record {
  before = stands.before;
  after = more ++ stands.after;
  whole = stands.whole ∙ ap (λ all. stands.before ++ all) (append_assoc piece more stands.after);
  far = stands.far;
}

-- the other part stands after it
pub stands_next : {A : Type 0} (letters : List A) (place : ℕ) (piece more : List A) → StandsAt letters place (piece ++ more) → StandsAt letters (place + length piece) more
stands_next letters place piece more stands = record {
  before = stands.before ++ piece;
  after = stands.after;
  whole = stands.whole ∙ ap (λ all. stands.before ++ all) (append_assoc piece more stands.after) ∙ sym (append_assoc stands.before piece (more ++ stands.after));
  far = length-append stands.before piece ∙ ap (λ n. n + length piece) stands.far;
}

-- pieces of one length that stand at one place are one
pub stands_same : {A : Type 0} (letters : List A) (place : ℕ) (piece other : List A) → StandsAt letters place piece → StandsAt letters place other → length piece ≡ length other → piece ≡ other
stands_same letters place piece other stands others long =
    sym (take_stands letters place piece (length other) stands long) ∙ take_stands letters place other (length other) others refl

-- what stands in bytes are bytes
pub stands_bytes : (bytes : List ℕ) (place : ℕ) (piece : List ℕ) → AreBytes bytes → StandsAt bytes place piece → AreBytes piece
stands_bytes bytes place piece are stands =
    let is_byte = λ (byte : ℕ). byte < 2 ^ 8 in
    subst AreBytes (take_stands bytes place piece (length piece) stands refl)
    (recursion_from_All is_byte _ (All-take is_byte (length piece) _ (All-drop is_byte place _ (All-from_recursion is_byte bytes are))))
