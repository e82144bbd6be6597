-- Seven pieces, one after the other: how long they are together, and where each stands.
use Rattle.std.proofs.Common.{◌≡◌, refl, sym, ◌∙◌, ap, ℕ, ◌+◌, List, [], ◌++◌, length, length-append, append_assoc, arith}
use Rattle.std.proofs.lemmas.List.{append-nil}
use Rattle.dwg_base.specs.Bytes.{AreBytes, StandsAt}
use Rattle.dwg_object.proofs.LengthLemmas.{bytes_joined}
use Rattle.dwg_object.proofs.StandingLemmas.{stands_first, stands_next}

-- the length of seven pieces
pub length_of_seven : (a b c d e f g : List ℕ)
    → length (a ++ b ++ c ++ d ++ e ++ f ++ g) ≡ length a + length b + length c + length d + length e + length f + length g
length_of_seven a b c d e f g =
    omega (
      arith,
      length-append (a ++ b ++ c ++ d ++ e ++ f) g,
      length-append (a ++ b ++ c ++ d ++ e) f,
      length-append (a ++ b ++ c ++ d) e,
      length-append (a ++ b ++ c) d,
      length-append (a ++ b) c,
      length-append a b,
    )

-- seven pieces of bytes are bytes
pub seven_are_bytes : (a b c d e f g : List ℕ) → AreBytes a → AreBytes b → AreBytes c → AreBytes d → AreBytes e → AreBytes f → AreBytes g
    → AreBytes (a ++ b ++ c ++ d ++ e ++ f ++ g)
seven_are_bytes a b c d e f g in_a in_b in_c in_d in_e in_f in_g =
    bytes_joined (a ++ b ++ c ++ d ++ e ++ f) g (bytes_joined (a ++ b ++ c ++ d ++ e) f (bytes_joined (a ++ b ++ c ++ d) e
    (bytes_joined (a ++ b ++ c) d (bytes_joined (a ++ b) c (bytes_joined a b in_a in_b) in_c) in_d) in_e) in_f) in_g

-- each of seven pieces stands after those before it
pub record SevenStand (whole a b c d e f g : List ℕ) : Type 0 where
  pub begins : (rest : List ℕ) × (whole ≡ a ++ rest)
  pub second : StandsAt whole (length a) b
  pub third : StandsAt whole (length a + length b) c
  pub fourth : StandsAt whole (length a + length b + length c) d
  pub fifth : StandsAt whole (length a + length b + length c + length d) e
  pub sixth : StandsAt whole (length a + length b + length c + length d + length e) f
  pub last : StandsAt whole (length a + length b + length c + length d + length e + length f) g

-- what is joined to the left is joined to the right
seven_joined : (a b c d e f g : List ℕ) → a ++ b ++ c ++ d ++ e ++ f ++ g ≡ a ++ (b ++ (c ++ (d ++ (e ++ (f ++ g)))))
seven_joined a b c d e f g =
    append_assoc (a ++ b ++ c ++ d ++ e) f g ∙ append_assoc (a ++ b ++ c ++ d) e (f ++ g) ∙ append_assoc (a ++ b ++ c) d (e ++ (f ++ g))
    ∙ append_assoc (a ++ b) c (d ++ (e ++ (f ++ g))) ∙ append_assoc a b (c ++ (d ++ (e ++ (f ++ g))))

-- so they do
pub seven_stand : (whole a b c d e f g : List ℕ) → whole ≡ a ++ b ++ c ++ d ++ e ++ f ++ g → SevenStand whole a b c d e f g
seven_stand whole a b c d e f g same =
    let joined : whole ≡ a ++ (b ++ (c ++ (d ++ (e ++ (f ++ g))))) = same ∙ seven_joined a b c d e f g in
    let one : StandsAt whole (length a) (b ++ (c ++ (d ++ (e ++ (f ++ g))))) =
    record { before = a; after = []; whole = joined ∙ ap (λ more. a ++ more) (sym (append-nil (b ++ (c ++ (d ++ (e ++ (f ++ g))))))); far = refl } in
    let two = stands_next whole (length a) b (c ++ (d ++ (e ++ (f ++ g)))) one in
    let three = stands_next whole (length a + length b) c (d ++ (e ++ (f ++ g))) two in
    let four = stands_next whole (length a + length b + length c) d (e ++ (f ++ g)) three in
    let five = stands_next whole (length a + length b + length c + length d) e (f ++ g) four in
    let six = stands_next whole (length a + length b + length c + length d + length e) f g five in
    record {
      begins = (b ++ (c ++ (d ++ (e ++ (f ++ g)))), joined);
      second = stands_first whole (length a) b (c ++ (d ++ (e ++ (f ++ g)))) one;
      third = stands_first whole (length a + length b) c (d ++ (e ++ (f ++ g))) two;
      fourth = stands_first whole (length a + length b + length c) d (e ++ (f ++ g)) three;
      fifth = stands_first whole (length a + length b + length c + length d) e (f ++ g) four;
      sixth = stands_first whole (length a + length b + length c + length d + length e) f g five;
      last = six;
    }
