-- The frames that are found of pairs are those that stand at their places, and share no byte. A rule of this project.
use Rattle.std.proofs.Common.{◌≡◌, refl, sym, ◌∙◌, ap, subst, ℕ, ◌+◌, Bool, true, false, List, [], ◌∷◌, ◌++◌, append_assoc, arith}
use Rattle.dwg_base.specs.Versions.{version_at}
use Rattle.std.specs.Prelude.{◌==◌, Ok, Err, if◌then◌else◌}
use Rattle.std.proofs.lemmas.Bool.Decides.{nat_tests}
use Rattle.std.proofs.lemmas.List.{append-nil}
use Rattle.dwg_base.specs.Bytes.{AreBytes}
use Rattle.dwg_base.specs.Refusals.{Tried}
use Rattle.dwg_bits.specs.Bits.{bits}
use Rattle.dwg_object.specs.declared.span.Span.{Span}
use Rattle.dwg_object.specs.Heads.{HasHead}
use Rattle.dwg_object.specs.FrameCauses.{IsFramed}
use Rattle.dwg_object.specs.FrameLines.{frame_refusal, span_body, tried_span, tried_frame}
use Rattle.dwg_object.proofs.FrameLaws.{tried_frame_means}
use Rattle.dwg_object.proofs.SpanLaws.{tried_span_means}
use Rattle.dwg_objmap.specs.declared.pair.Pair.{Pair}
use Rattle.dwg_file.specs.FileLines.{FoundFrame, touches, with_handle, with_span, tried_pair, with_found, frames_after}

-- what was found of the frame of a pair, after those of earlier pairs, stands there
pub record IsFound (bytes : List ℕ) (earlier : List FoundFrame) (pair : Pair) (found : FoundFrame) : Type 0 where
  pub framed : IsFramed bytes pair.place found.0
  pub head : HasHead (version_at bytes) (bits (span_body bytes found.0)) found.1
  pub own : found.1.own ≡ pair.handle
  pub free : touches earlier found.0.from found.0.end ≡ false

-- so does what was found of each pair, one after the other
abbrev pub AreFound : List ℕ → List FoundFrame → List Pair → List FoundFrame → Type 0
AreFound bytes earlier [] founds = founds ≡ []
AreFound bytes earlier (pair ∷ pairs) founds =
    (found : FoundFrame) × (after : List FoundFrame) × (founds ≡ found ∷ after)
    × IsFound bytes earlier pair found × AreFound bytes (earlier ++ found ∷ []) pairs after

-- what has the handle of its pair was tried of the frame
handle_reported : (pair : Pair) (index : ℕ) (tried : Tried FoundFrame) (found : FoundFrame) → with_handle pair index tried ≡ Ok found → (tried ≡ Ok found) × (found.1.own ≡ pair.handle)
handle_reported pair index (Err refusal) found same = absurd cc
handle_reported pair index (Ok other) found same = of_test (other.1.own == pair.handle) refl
  where
    not_refused : ◌≡◌ {A = Tried FoundFrame} (Err (frame_refusal 32 index pair.place)) (Ok found) → ⊥
    not_refused is = cc

    of_test : (test : Bool) → (other.1.own == pair.handle) ≡ test → (◌≡◌ {A = Tried FoundFrame} (Ok other) (Ok found)) × (found.1.own ≡ pair.handle)
    of_test true is =
        let all : ◌≡◌ {A = Tried FoundFrame} (Ok other) (Ok found) = sym (ap (λ test. if test then Ok other else Err (frame_refusal 32 index pair.place)) is) ∙ same in
        let here : other ≡ found = cc in
        let own : other.1.own ≡ pair.handle = grind (arith, nat_tests) in
        (all, sym (ap (λ (f : FoundFrame). f.1.own) here) ∙ own)
    of_test false is = absurd (not_refused (sym (ap (λ test. if test then Ok other else Err (frame_refusal 32 index pair.place)) is) ∙ same))

-- what was found of a pair is tried of its span and of its frame, and shares no byte with an earlier frame
span_reported : (bytes : List ℕ) (earlier : List FoundFrame) (pair : Pair) (index : ℕ) (tried : Tried Span) (found : FoundFrame) → with_span bytes earlier pair index tried ≡ Ok found
    → (span : Span) × (tried ≡ Ok span) × (touches earlier span.from span.end ≡ false) × (with_handle pair index (tried_frame (version_at bytes) pair.place index bytes) ≡ Ok found)
span_reported bytes earlier pair index (Err refusal) found same = absurd cc
span_reported bytes earlier pair index (Ok span) found same = of_test (touches earlier span.from span.end) refl
  where
    not_refused : ◌≡◌ {A = Tried FoundFrame} (Err (frame_refusal 29 index pair.place)) (Ok found) → ⊥
    not_refused is = cc

    of_test : (test : Bool) → touches earlier span.from span.end ≡ test
        → (other : Span) × (◌≡◌ {A = Tried Span} (Ok span) (Ok other)) × (touches earlier other.from other.end ≡ false) × (with_handle pair index (tried_frame (version_at bytes) pair.place index bytes) ≡ Ok found)
    of_test false is = (span, refl, is, sym (ap (λ test. if test then Err (frame_refusal 29 index pair.place) else with_handle pair index (tried_frame (version_at bytes) pair.place index bytes)) is) ∙ same)
    of_test true is = absurd (not_refused (sym (ap (λ test. if test then Err (frame_refusal 29 index pair.place) else with_handle pair index (tried_frame (version_at bytes) pair.place index bytes)) is) ∙ same))

-- what is found of a pair stands there
pub pair_found : (bytes : List ℕ) (earlier : List FoundFrame) (index : ℕ) (pair : Pair) (found : FoundFrame) → AreBytes bytes → tried_pair bytes earlier index pair ≡ Ok found → IsFound bytes earlier pair found
unfolding tried_pair
pair_found bytes earlier index pair found are same =
    let reported = span_reported bytes earlier pair index (tried_span pair.place index bytes) found same in
    let handle = handle_reported pair index (tried_frame (version_at bytes) pair.place index bytes) found reported.3 in
    let is = (tried_frame_means (version_at bytes) bytes pair.place index (Ok found) are).0 handle.0 in
    let here : ◌≡◌ {A = Tried Span} (Ok reported.0) (Ok found.0) = sym reported.1 ∙ (tried_span_means bytes pair.place index (Ok found.0) are).1 (is.0.stands, is.0.from) in
    let span : reported.0 ≡ found.0 = cc in
    record {
      framed = is.0;
      head = is.1;
      own = handle.1;
      free = subst (λ (s : Span). touches earlier s.from s.end ≡ false) span reported.2;
    }

-- and what stands there is found
pub found_pair : (bytes : List ℕ) (earlier : List FoundFrame) (index : ℕ) (pair : Pair) (found : FoundFrame) → AreBytes bytes → IsFound bytes earlier pair found → tried_pair bytes earlier index pair ≡ Ok found
unfolding tried_pair
found_pair bytes earlier index pair found are is =
    let own : (found.1.own == pair.handle) ≡ true = same_test found.1.own pair.handle is.own in
    ap (with_span bytes earlier pair index) ((tried_span_means bytes pair.place index (Ok found.0) are).1 (is.framed.stands, is.framed.from))
    ∙ ap (λ test. if test then Err (frame_refusal 29 index pair.place) else with_handle pair index (tried_frame (version_at bytes) pair.place index bytes)) is.free
    ∙ ap (with_handle pair index) ((tried_frame_means (version_at bytes) bytes pair.place index (Ok found) are).1 (is.framed, is.head))
    ∙ ap (λ test. if test then Ok found else Err (frame_refusal 32 index pair.place)) own
  where
    same_test : (a b : ℕ) → a ≡ b → (a == b) ≡ true
    same_test a b same = grind (arith, nat_tests)

-- the frames that are found stand at the places of their pairs
pub frames_found : (bytes : List ℕ) (index : ℕ) (earlier : List FoundFrame) (pairs : List Pair) (all : List FoundFrame) → AreBytes bytes → frames_after bytes index earlier pairs ≡ Ok all
    → (founds : List FoundFrame) × (all ≡ earlier ++ founds) × AreFound bytes earlier pairs founds
unfolding frames_after
frames_found bytes index earlier [] all are same = ([], sym (ok_same earlier all same) ∙ sym (append-nil earlier), refl)
  where
    ok_same : (one other : List FoundFrame) → ◌≡◌ {A = Tried (List FoundFrame)} (Ok one) (Ok other) → one ≡ other
    ok_same one other both = cc
frames_found bytes index earlier (pair ∷ pairs) all are same =
    of_tried (tried_pair bytes earlier index pair) refl same (λ found more. frames_found bytes (index + 1) (earlier ++ found ∷ []) pairs all are more)
  where
    of_tried : (tried : Tried FoundFrame) → tried_pair bytes earlier index pair ≡ tried
        → with_found (λ found. frames_after bytes (index + 1) (earlier ++ found ∷ []) pairs) tried ≡ Ok all
        → ((found : FoundFrame) → frames_after bytes (index + 1) (earlier ++ found ∷ []) pairs ≡ Ok all
        → (founds : List FoundFrame) × (all ≡ (earlier ++ found ∷ []) ++ founds) × AreFound bytes (earlier ++ found ∷ []) pairs founds)
        → (founds : List FoundFrame) × (all ≡ earlier ++ founds) × AreFound bytes earlier (pair ∷ pairs) founds
    of_tried (Err refusal) is fails after = absurd cc
    of_tried (Ok found) is goes after =
        let more = after found goes in
        (found ∷ more.0, more.1 ∙ append_assoc earlier (found ∷ []) more.0, (found, more.0, refl, pair_found bytes earlier index pair found are is, more.2))

-- and frames that stand there are found
pub found_frames : (bytes : List ℕ) (index : ℕ) (earlier : List FoundFrame) (pairs : List Pair) (founds : List FoundFrame) → AreBytes bytes → AreFound bytes earlier pairs founds
    → frames_after bytes index earlier pairs ≡ Ok (earlier ++ founds)
unfolding frames_after
found_frames bytes index earlier [] founds are none = ap Ok (sym (append-nil earlier) ∙ ap (λ more. earlier ++ more) (sym none))
found_frames bytes index earlier (pair ∷ pairs) founds are (found, after, is, first, others) =
    ap (with_found (λ found. frames_after bytes (index + 1) (earlier ++ found ∷ []) pairs)) (found_pair bytes earlier index pair found are first)
    ∙ found_frames bytes (index + 1) (earlier ++ found ∷ []) pairs after are others
    ∙ ap Ok (append_assoc earlier (found ∷ []) after ∙ ap (λ more. earlier ++ more) (sym is))
