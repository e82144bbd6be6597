-- A part of a list is exchanged for another of its length: what doesn't overlap it stays, and what holds it is exchanged in it.
use Rattle.std.proofs.Common.{◌≡◌, refl, sym, ◌∙◌, ap, ap₂, ℕ, ◌+◌, ◌-◌, ◌≤◌, List, [], ◌∷◌, ◌++◌, length, drop, inl, inr, arith, length-append, length-drop, append_assoc}
use Rattle.std.specs.Prelude.{◌⊎◌}
use Rattle.std.proofs.lemmas.List.{length-take-le, take-append-drop}
use Rattle.dwg_base.specs.Bytes.{StandsAt}
use Rattle.dwg_object.specs.FrameLines.{bytes_from}
use Rattle.dwg_object.proofs.StandingLemmas.{stands_drop, take_stands}

-- the further of two cuttings of a list is the nearer one and what lies between
pub further_cut : {A : Type 0} (a b c d : List A) → a ++ b ≡ c ++ d → length a ≤ length c → (between : List A) × (c ≡ a ++ between) × (b ≡ between ++ d)
further_cut [] b c d same few = (c, refl, same)
further_cut (x ∷ a) b [] d same few = absurd (omega arith)
further_cut (x ∷ a) b (y ∷ c) d same few =
    let first : x ≡ y = cc in
    let rest : a ++ b ≡ c ++ d = cc in
    let more = further_cut a b c d rest (omega arith) in
    (more.0, ap₂ (λ one others. one ∷ others) (sym first) more.1, more.2)

-- one list has in the middle another part of the same length
pub record IsSpliced {A : Type 0} (one other : List A) (from to : ℕ) : Type 0 where
  pub before : List A
  pub here : List A
  pub there : List A
  pub after : List A
  pub first : one ≡ before ++ here ++ after
  pub second : other ≡ before ++ there ++ after
  pub long : length here ≡ length there
  pub begins : from ≡ length before
  pub ends : to ≡ length before + length here

-- both are equally long
pub spliced_long : {A : Type 0} (one other : List A) (from to : ℕ) → IsSpliced one other from to → length other ≡ length one
spliced_long {A} one other from to is =
    omega (
      arith,
      ap length is.first,
      ap length is.second,
      is.long,
      length-append (is.before ++ is.here) is.after,
      length-append is.before is.here,
      length-append (is.before ++ is.there) is.after,
      length-append is.before is.there,
    )

-- what stands before the exchanged part stays
stands_before : {A : Type 0} (one other : List A) (from to : ℕ) → IsSpliced one other from to → (place : ℕ) (piece : List A) → StandsAt one place piece → place + length piece ≤ from
    → StandsAt other place piece
stands_before {A} one other from to is place piece stands within =
    let cut =
    further_cut (stands.before ++ piece) stands.after is.before (is.here ++ is.after)
    (append_assoc stands.before piece stands.after ∙ sym stands.whole ∙ is.first ∙ append_assoc is.before is.here is.after)
    (omega (arith, length-append stands.before piece, stands.far, is.begins, within)) in
    let rest : List A = is.there ++ is.after in
    record {
      before = stands.before;
      after = cut.0 ++ rest;
      whole =
          is.second ∙ append_assoc is.before is.there is.after ∙ ap (λ prefix. prefix ++ rest) cut.1 ∙ append_assoc (stands.before ++ piece) cut.0 rest
          ∙ append_assoc stands.before piece (cut.0 ++ rest);
      far = stands.far;
    }

-- so does what stands after it
stands_after : {A : Type 0} (one other : List A) (from to : ℕ) → IsSpliced one other from to → (place : ℕ) (piece : List A) → StandsAt one place piece → to ≤ place → StandsAt other place piece
stands_after {A} one other from to is place piece stands beyond =
    let cut =
    further_cut (is.before ++ is.here) is.after stands.before (piece ++ stands.after) (sym is.first ∙ stands.whole)
    (omega (arith, length-append is.before is.here, stands.far, is.ends, beyond)) in
    record {
      before = is.before ++ is.there ++ cut.0;
      after = stands.after;
      whole = is.second ∙ ap (λ more. is.before ++ is.there ++ more) cut.2 ∙ sym (append_assoc (is.before ++ is.there) cut.0 (piece ++ stands.after));
      far =
          omega (
            arith,
            stands.far,
            is.long,
            ap length cut.1,
            length-append (is.before ++ is.here) cut.0,
            length-append is.before is.here,
            length-append (is.before ++ is.there) cut.0,
            length-append is.before is.there,
          );
    }

-- what lies before the exchanged part or after it stays
pub stands_still : {A : Type 0} (one other : List A) (from to : ℕ) → IsSpliced one other from to → (place : ℕ) (piece : List A) → StandsAt one place piece
    → (place + length piece ≤ from) ⊎ (to ≤ place) → StandsAt other place piece
stands_still {A} one other from to is place piece stands (inl within) = stands_before one other from to is place piece stands within
stands_still {A} one other from to is place piece stands (inr beyond) = stands_after one other from to is place piece stands beyond

-- so the bytes from one place to another are the same
pub same_part : (one other : List ℕ) (from to : ℕ) → IsSpliced one other from to → (first last : ℕ) → first ≤ last → last ≤ length one → (last ≤ from) ⊎ (to ≤ first)
    → bytes_from other first last ≡ bytes_from one first last
same_part one other from to is first last order within apart =
    take_stands other first piece (last - first) (stands_still one other from to is first piece stands (of_side apart)) count
  where
    piece : List ℕ
    piece = bytes_from one first last

    count : length piece ≡ last - first
    count = length-take-le (last - first) (drop first one) (omega (arith, length-drop first one))

    stands : StandsAt one first piece
    stands = stands_drop one first piece (drop (last - first) (drop first one)) (omega arith) (sym (take-append-drop (last - first) (drop first one)))

    of_side : (last ≤ from) ⊎ (to ≤ first) → (first + length piece ≤ from) ⊎ (to ≤ first)
    of_side (inl ends) = inl (omega (arith, ends, count))
    of_side (inr begins) = inr begins

-- what stands in the other list for a piece of the one that holds the exchanged part
pub record PieceIsSpliced {A : Type 0} (one other : List A) (from to : ℕ) (is : IsSpliced one other from to) (prefix piece rest : List A) : Type 0 where
  pub ahead : List A
  pub after : List A
  pub first : piece ≡ ahead ++ is.here ++ after
  pub whole : other ≡ prefix ++ ((ahead ++ is.there ++ after) ++ rest)

-- a list in three parts, the outer ones cut once more
cut_again : {A : Type 0} (whole before middle after prefix ahead inner rest : List A) → whole ≡ before ++ middle ++ after → before ≡ prefix ++ ahead → after ≡ inner ++ rest
    → whole ≡ prefix ++ ((ahead ++ middle ++ inner) ++ rest)
cut_again whole before middle after prefix ahead inner rest same first last =
    same ∙ ap₂ (λ one other. one ++ middle ++ other) first last ∙ append_assoc (prefix ++ ahead) middle (inner ++ rest) ∙ append_assoc prefix ahead (middle ++ (inner ++ rest))
    ∙ ap (λ more. prefix ++ more) (sym (append_assoc (ahead ++ middle) inner rest ∙ append_assoc ahead middle (inner ++ rest)))

-- it is the piece with that part exchanged
pub piece_spliced : {A : Type 0} (one other : List A) (from to : ℕ) (is : IsSpliced one other from to) (prefix piece rest : List A) → one ≡ prefix ++ (piece ++ rest)
    → length prefix ≤ from → to ≤ length prefix + length piece → PieceIsSpliced one other from to is prefix piece rest
piece_spliced {A} one other from to is prefix piece rest whole begins ends =
    let near =
    further_cut prefix (piece ++ rest) is.before (is.here ++ is.after) (sym whole ∙ is.first ∙ append_assoc is.before is.here is.after) (omega (arith, begins, is.begins)) in
    of_near near.0 near.1 near.2
  where
    of_near : (ahead : List A) → is.before ≡ prefix ++ ahead → piece ++ rest ≡ ahead ++ (is.here ++ is.after) → PieceIsSpliced one other from to is prefix piece rest
    of_near ahead first last =
        let far =
        further_cut (ahead ++ is.here) is.after piece rest (append_assoc ahead is.here is.after ∙ sym last)
        (omega (arith, ends, is.ends, ap length first, length-append prefix ahead, length-append ahead is.here)) in
        record { ahead = ahead; after = far.0; first = far.1; whole = cut_again other is.before is.there is.after prefix ahead far.0 rest is.second first far.2 }
