-- The frame that is damaged: a length stands at its place as before, and the check word after it isn't that of the bytes before it.
use Rattle.std.proofs.Common.{◌≡◌, ◌≢◌, refl, sym, ◌∙◌, ap, subst, inl, inr, ℕ, ◌+◌, ◌≤◌, List, [], ◌∷◌, ◌++◌, length, take, drop, length-append, length-drop, append_assoc, arith}
use Rattle.std.specs.Prelude.{map}
use Rattle.std.specs.Int.{w16, to_le_bytes}
use Rattle.std.specs.List.{AllByRecursion}
use Rattle.std.proofs.lemmas.List.{append_cancel_left, length-take-le, take-append-drop}
use Rattle.dwg_base.specs.Bytes.{AreBytes, StandsAt}
use Rattle.dwg_base.specs.Devices.{MOST_BYTES}
use Rattle.dwg_check.specs.CheckWord.{CHECK_SEED, check_word}
use Rattle.dwg_check.specs.ShortDamage.{DifferShortly, DamageUnderSealShows}
use Rattle.dwg_grammar.specs.ModularCodes.{ms}
use Rattle.dwg_grammar.proofs.ModularLemmas.{ms_is_code, ms_has}
use Rattle.dwg_object.specs.declared.span.Span.{Span}
use Rattle.dwg_object.proofs.FormLaws.{length_of_frame, valid_fits}
use Rattle.dwg_object.specs.FrameCauses.{CheckRefused}
use Rattle.dwg_object.specs.FrameLines.{frame_refusal, span_body, span_of}
use Rattle.dwg_object.specs.Frames.{FrameAt, SpanAt, frame_bytes, framed_body}
use Rattle.dwg_object.proofs.SpanLaws.{lengths_same}
use Rattle.dwg_object.proofs.StandingLemmas.{stands_bytes, stands_first, stands_next, stands_same}
use Rattle.dwg_object.specs.Written.{body_bytes}
use Rattle.dwg_file.specs.Canonical.{Carried, IsCarried, canonical_with, objects_place_with, placed, size_with}
use Rattle.dwg_file.specs.CanonicalFrames.{canonical_frames_with}
use Rattle.dwg_file.proofs.CanonicalLaws.{carrying_is_counted}
use Rattle.dwg_file.specs.Contents.{Contents}
use Rattle.dwg_file.proofs.DamagedParts.{damaged_spliced, earlier_stand}
use Rattle.dwg_file.specs.FrameRefusals.{FramesRefused, SharesByte}
use Rattle.dwg_file.specs.ShortDamage.{IsDamagedShortly}
use Rattle.dwg_file.specs.Spelled.{PairFrame}
use Rattle.dwg_file.proofs.Splices.{IsSpliced, PieceIsSpliced, piece_spliced}
use Rattle.dwg_file.specs.Valid.{IsValid}
use Rattle.dwg_file.proofs.WrittenFrames.{IsWritten, all_of_prefix, canonical_written}

-- the word that is written of a check word
abbrev word_of : List ℕ → List ℕ
word_of bytes = to_le_bytes w16 (check_word CHECK_SEED bytes)

-- a length, so many bytes, and two more that aren't the check word of what is before them
pub record FrameDamage (bytes : List ℕ) (place : ℕ) : Type 0 where
  pub size : List ℕ
  pub body : List ℕ
  pub word : List ℕ
  pub spelled : ms.Spells (length body) size
  pub two : length word ≡ 2
  pub stands : StandsAt bytes place (size ++ body ++ word)
  pub wrong : word ≡ word_of (size ++ body) → ⊥

-- a frame after a prefix is its length after that prefix, and the rest of it
rearranged : (prefix size body word rest : List ℕ) → prefix ++ ((size ++ body ++ word) ++ rest) ≡ (prefix ++ size) ++ ((body ++ word) ++ rest)
rearranged prefix size body word rest =
    ap (λ piece. prefix ++ (piece ++ rest)) (append_assoc size body word) ∙ ap (λ more. prefix ++ more) (append_assoc size (body ++ word) rest)
    ∙ sym (append_assoc prefix size ((body ++ word) ++ rest))

-- so what stands after a prefix and a length is a frame's body and word
prefix_of : (bytes : List ℕ) (place : ℕ) (size body word : List ℕ) (stands : StandsAt bytes place (size ++ body ++ word)) → bytes ≡ (stands.before ++ size) ++ ((body ++ word) ++ stands.after)
prefix_of bytes place size body word stands = stands.whole ∙ rearranged stands.before size body word stands.after

-- and so many of the bytes there, and those after them, make one
frame_of_bytes : (bytes : List ℕ) (place long : ℕ) (before size changed rest : List ℕ) → bytes ≡ (before ++ size) ++ (changed ++ rest) → length before ≡ place
    → StandsAt bytes place (size ++ take long changed ++ drop long changed)
frame_of_bytes bytes place long before size changed rest same far = record {
  before = before;
  after = rest;
  whole =
      same ∙ ap (λ (part : List ℕ). (before ++ size) ++ (part ++ rest)) (sym (take-append-drop long changed))
      ∙ sym (rearranged before size (take long changed) (drop long changed) rest);
  far = far;
}

-- an exchange for as many leaves the length
as_long : (ahead here there after : List ℕ) → length here ≡ length there → length (ahead ++ there ++ after) ≡ length (ahead ++ here ++ after)
as_long ahead here there after long =
    omega (arith, long, length-append (ahead ++ here) after, length-append ahead here, length-append (ahead ++ there) after, length-append ahead there)

-- other bytes for a body and its check word, as many and shortly different, are damage
damage_by : DamageUnderSealShows → (one other : List ℕ) (place : ℕ) (size body changed before rest : List ℕ) → AreBytes one → AreBytes other → ms.Spells (length body) size
    → StandsAt one place (framed_body size body) → other ≡ (before ++ size) ++ (changed ++ rest) → length before ≡ place → length changed ≡ length body + 2
    → DifferShortly (body ++ word_of (size ++ body)) changed → FrameDamage other place
damage_by shows one other place size body changed before rest are others spelled stands same far count apart =
    let seal : List ℕ = word_of (size ++ body) in
    let next : List ℕ = take (length body) changed in
    let word : List ℕ = drop (length body) changed in
    let here : StandsAt other place (size ++ next ++ word) = frame_of_bytes other place (length body) before size changed rest same far in
    let so_long : length next ≡ length body = length-take-le (length body) changed (omega (arith, count)) in
    let two : length word ≡ 2 = omega (arith, count, length-drop (length body) changed) in
    let prefix = stands_first one place (size ++ body) seal stands in
    let other_prefix = stands_first other place (size ++ next) word here in
    record {
      size = size;
      body = next;
      word = word;
      spelled = subst (λ n. ms.Spells n size) (sym so_long) spelled;
      two = two;
      stands = here;
      wrong = λ right. shows CHECK_SEED size body seal next word (omega arith)
          (stands_bytes one place size are (stands_first one place size body prefix))
          (stands_bytes one (place + length size) body are (stands_next one place size body prefix))
          (stands_bytes one (place + length (size ++ body)) seal are (stands_next one place (size ++ body) seal stands))
          (stands_bytes other (place + length size) next others (stands_next other place size next other_prefix))
          (stands_bytes other (place + length (size ++ next)) word others (stands_next other place (size ++ next) word here))
          refl two (subst (DifferShortly (body ++ seal)) (sym (take-append-drop (length body) changed)) apart) refl right;
    }

-- a frame whose body and check word hold a short change is damaged
damage_of : DamageUnderSealShows → (one other : List ℕ) (from to place : ℕ) (size body : List ℕ) (splice : IsSpliced one other from to) → AreBytes one → AreBytes other
    → length splice.here ≤ 2 → splice.here ≢ splice.there → ms.Spells (length body) size → StandsAt one place (framed_body size body) → place + length size ≤ from
    → to ≤ place + length size + length body + 2 → FrameDamage other place
damage_of shows one other from to place size body splice are others few differ spelled stands begins ends =
    of_split split.ahead split.after split.first split.whole
  where
    piece : List ℕ
    piece = body ++ word_of (size ++ body)

    long : length piece ≡ length body + 2
    long = length-append body (word_of (size ++ body))

    far : length (stands.before ++ size) ≡ place + length size
    far = omega (arith, length-append stands.before size, stands.far)

    split : PieceIsSpliced one other from to splice (stands.before ++ size) piece stands.after
    split =
        piece_spliced one other from to splice (stands.before ++ size) piece stands.after (prefix_of one place size body (word_of (size ++ body)) stands) (omega (arith, far, begins))
        (omega (arith, far, long, ends))

    of_split : (ahead after : List ℕ) → piece ≡ ahead ++ splice.here ++ after → other ≡ (stands.before ++ size) ++ ((ahead ++ splice.there ++ after) ++ stands.after) → FrameDamage other place
    of_split ahead after first whole =
        damage_by shows one other place size body (ahead ++ splice.there ++ after) stands.before stands.after are others spelled stands whole stands.far
        (omega (arith, long, ap length first, as_long ahead splice.here splice.there after splice.long))
        (record {
          before = ahead;
          here = splice.here;
          there = splice.there;
          after = after;
          first = first;
          second = refl;
          long = splice.long;
          few = few;
          differ = differ;
        })

-- no frame stands where one is damaged
pub no_frame : (bytes : List ℕ) (place : ℕ) → FrameDamage bytes place → (body : List ℕ) (end : ℕ) → FrameAt bytes place body end → ⊥
no_frame bytes place damage body end frame =
    let own : List ℕ = damage.size ++ damage.body in
    let its : List ℕ = frame.size ++ body in
    let own_prefix : StandsAt bytes place own = stands_first bytes place own damage.word damage.stands in
    let its_prefix : StandsAt bytes place its = stands_first bytes place its (word_of its) frame.stands in
    let sizes = lengths_same bytes place (length damage.body) (length body) damage.size frame.size damage.spelled frame.spelled
    (stands_first bytes place damage.size damage.body own_prefix) (stands_first bytes place frame.size body its_prefix) in
    let long : length own ≡ length its = omega (arith, length-append damage.size damage.body, length-append frame.size body, sizes.0, ap length sizes.1) in
    let prefixes : own ≡ its = stands_same bytes place own its own_prefix its_prefix long in
    let words : damage.word ≡ word_of its =
    append_cancel_left own damage.word (word_of its)
    (stands_same bytes place (own ++ damage.word) (own ++ word_of its) damage.stands (subst (λ (prefix : List ℕ). StandsAt bytes place (prefix ++ word_of its)) (sym prefixes) frame.stands)
    (length-append own damage.word ∙ ap (λ n. length own + n) damage.two ∙ sym (length-append own (word_of its)))) in
    damage.wrong (words ∙ ap word_of (sym prefixes))

-- the frame of a drawing in which its input is damaged
pub frame_damaged : DamageUnderSealShows → (carried : Carried) (drawing : Contents) (bytes : List ℕ) (earlier : List PairFrame) (frame : PairFrame) (later : List PairFrame) → IsCarried carried → IsValid drawing
    → size_with carried drawing ≤ MOST_BYTES → AreBytes bytes → canonical_frames_with carried drawing ≡ earlier ++ frame ∷ later → IsDamagedShortly carried drawing frame bytes
    → FrameDamage bytes frame.pair.place
unfolding frame_bytes
frame_damaged shows carried drawing bytes earlier frame later kept is small are whole damaged =
    let written =
    (all_of_prefix (IsWritten drawing.version drawing.classes (canonical_with carried drawing)) earlier (frame ∷ later)
    (subst (AllByRecursion (IsWritten drawing.version drawing.classes (canonical_with carried drawing))) whole (canonical_written carried drawing kept is small))).1.0 in
    let body : List ℕ = body_bytes drawing.version frame.object in
    let size : List ℕ = ms.short (length body) in
    let short : length (ms.short (length frame.body)) ≡ length size = ap (λ (b : List ℕ). length (ms.short (length b))) written.body in
    let to : ℕ = length damaged.differ.before + length damaged.differ.here in
    damage_of shows (canonical_with carried drawing) bytes (length damaged.differ.before) to frame.pair.place size body (damaged_spliced carried drawing frame bytes damaged) (carrying_is_counted carried drawing kept is small).1 are
    damaged.differ.few damaged.differ.differ (ms_is_code.canonical (length body) (ms_has (length body) (omega (arith, (valid_fits drawing.version drawing.classes frame.object written.valid).2)))) written.stands
    (omega (arith, damaged.from, short)) (omega (arith, damaged.to, written.ends, length_of_frame drawing.version frame.object))

-- the check word of a damaged frame is refused
check_refused : (bytes : List ℕ) (place index : ℕ) → FrameDamage bytes place → CheckRefused bytes place index (frame_refusal 30 index place)
check_refused bytes place index damage =
    let span : Span = span_of place (length damage.size) (length damage.body) in
    let stands : SpanAt bytes span = record {
      size = damage.size;
      body = damage.body;
      word = damage.word;
      spelled = damage.spelled;
      two = damage.two;
      stands = damage.stands;
      body_place = refl;
      body_end = refl;
      ends = refl;
    } in
    record { span = span; stands = stands; from = refl; unframed = no_frame bytes place damage (span_body bytes span) span.end; line = refl }

-- what begins where all frames have ended shares no byte with one
shares_none : (frames : List PairFrame) (place : ℕ) (span : Span) → AllByRecursion (λ (one : PairFrame). one.end ≤ place) frames → span.from ≡ place → SharesByte frames span → ⊥
shares_none [] place span before from shares = shares
shares_none (frame ∷ frames) place span before from (inl both) = omega (arith, before.0, from, both.1)
shares_none (frame ∷ frames) place span before from (inr more) = shares_none frames place span before.1 from more

-- the damaged frame is the first that fails a line
pub damaged_is_first : DamageUnderSealShows → (carried : Carried) (drawing : Contents) (bytes : List ℕ) (earlier : List PairFrame) (frame : PairFrame) (later : List PairFrame) → IsCarried carried → IsValid drawing
    → size_with carried drawing ≤ MOST_BYTES → AreBytes bytes → canonical_frames_with carried drawing ≡ earlier ++ frame ∷ later → IsDamagedShortly carried drawing frame bytes
    → FramesRefused drawing.classes bytes (placed drawing.version (objects_place_with carried drawing) drawing.objects) (frame_refusal 30 (length earlier) frame.pair.place)
damaged_is_first shows carried drawing bytes earlier frame later kept is small are whole damaged =
    let before = earlier_stand carried drawing bytes earlier frame later kept is small whole damaged in
    let damage = frame_damaged shows carried drawing bytes earlier frame later kept is small are whole damaged in
    record {
      frames = earlier;
      stand = before.stand;
      apart = before.apart;
      pair = frame.pair;
      after = map (λ (one : PairFrame). one.pair) later;
      whole = before.whole;
      fails = inr (inr (
        (λ overlaps. shares_none earlier frame.pair.place overlaps.span before.before overlaps.from overlaps.shares),
        inl (check_refused bytes frame.pair.place (length earlier) damage),
      ));
    }
