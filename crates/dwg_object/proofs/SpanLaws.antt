-- What is tried of a span is what the input reports: by the length that is parsed at the place, and its room.
use Rattle.std.proofs.Common.{◌≡◌, refl, sym, ◌∙◌, ap, ap₂, subst, ℕ, ◌+◌, ◌-◌, ◌<◌, ◌≤◌, Bool, true, false, List, ◌++◌, length, take, drop, Option, Some, None, inl, inr, arith}
use Rattle.std.specs.Prelude.{nat_lt, not, Ok, Err, if◌then◌else◌}
use Rattle.std.proofs.lemmas.Bool.Decides.{nat_tests}
use Rattle.std.proofs.lemmas.List.{append_assoc, length-append, length-drop, length-take-le, take-append-drop}
use Rattle.dwg_base.specs.Bytes.{AreBytes, StandsAt}
use Rattle.dwg_base.specs.Refusals.{Tried}
use Rattle.dwg_base.specs.Refusal.{Refusal}
use Rattle.dwg_grammar.proofs.CodeLemmas.{unique_of_code, reads_none}
use Rattle.dwg_grammar.proofs.CombinatorLemmas.{bytes_closed}
use Rattle.dwg_grammar.specs.ModularCodes.{ms}
use Rattle.dwg_grammar.proofs.ModularLemmas.{ms_is_code}
use Rattle.dwg_object.specs.declared.span.Span.{Span}
use Rattle.dwg_object.specs.Frames.{SpanAt}
use Rattle.dwg_object.specs.FrameLines.{frame_refusal, span_of, span_parsed, tried_span}
use Rattle.dwg_object.specs.FrameCauses.{PassesEnd, SpanRefused, ReportsSpan}
use Rattle.dwg_object.proofs.StandingLemmas.{drop_stands, stands_drop, stands_within, stands_first}
use Rattle.dwg_object.specs.SpanLaws.{SpansAreReported}

-- lengths that are spelled at one place are one, and so are their spellings
pub lengths_same : (bytes : List ℕ) (place long other : ℕ) (size other_size : List ℕ) → ms.Spells long size → ms.Spells other other_size
    → StandsAt bytes place size → StandsAt bytes place other_size → (long ≡ other) × (size ≡ other_size)
lengths_same bytes place long other size other_size spelled other_spelled stands others =
    unique_of_code AreBytes ms ms_is_code long other size other_size stands.after others.after spelled other_spelled
    (sym (drop_stands bytes place size stands) ∙ drop_stands bytes place other_size others)

-- what is left after a length is its body, two bytes more, and a rest
body_left : (rest : List ℕ) (long : ℕ) → long + 2 ≤ length rest
    → (length (take long rest) ≡ long) × (length (take 2 (drop long rest)) ≡ 2) × (rest ≡ (take long rest ++ take 2 (drop long rest)) ++ drop 2 (drop long rest))
body_left rest long enough = (
  length-take-le long rest (omega arith),
  length-take-le 2 (drop long rest) (omega (arith, length-drop long rest)),
  sym (take-append-drop long rest) ∙ ap (λ more. take long rest ++ more) (sym (take-append-drop 2 (drop long rest)))
      ∙ sym (append_assoc (take long rest) (take 2 (drop long rest)) (drop 2 (drop long rest))),
)

-- where a length is spelled whose frame is in the input, its span stands at the place
pub span_found : (bytes : List ℕ) (place long wide : ℕ) (prefix rest : List ℕ) → place < length bytes → ms.Spells long prefix → drop place bytes ≡ prefix ++ rest
    → wide ≡ length prefix → place + wide + long + 2 ≤ length bytes → SpanAt bytes (span_of place wide long)
span_found bytes place long wide prefix rest inside spelled same is_wide enough =
    let left : long + 2 ≤ length rest = omega (arith, ap length same, length-append prefix rest, length-drop place bytes) in
    let parts = body_left rest long left in
    let body : List ℕ = take long rest in
    let word : List ℕ = take 2 (drop long rest) in
    let end : List ℕ = drop 2 (drop long rest) in
    let whole : drop place bytes ≡ (prefix ++ body ++ word) ++ end =
    same ∙ ap (λ more. prefix ++ more) parts.2 ∙ sym (append_assoc prefix (body ++ word) end) ∙ ap (λ more. more ++ end) (sym (append_assoc prefix body word)) in
    record {
      size = prefix;
      body = body;
      word = word;
      spelled = subst (λ n. ms.Spells n prefix) (sym parts.0) spelled;
      two = parts.1;
      stands = stands_drop bytes place (prefix ++ body ++ word) end (omega arith) whole;
      body_place = omega arith;
      body_end = omega (arith, parts.0);
      ends = refl;
    }

-- where the frame of the length that is spelled passes the end, so does that of every length that is
pub all_pass : (bytes : List ℕ) (place long wide : ℕ) (prefix : List ℕ) → ms.Spells long prefix → StandsAt bytes place prefix → wide ≡ length prefix
    → length bytes < place + wide + long + 2 → PassesEnd bytes place
all_pass bytes place long wide prefix spelled stands is_wide passes other size other_spelled others =
    let same = lengths_same bytes place long other prefix size spelled other_spelled stands others in
    omega (arith, same.0, ap length same.1)

-- what is reported of a length that was parsed
span_of_found : (place index : ℕ) (bytes : List ℕ) (long wide : ℕ) (prefix rest : List ℕ) → place < length bytes → ms.Spells long prefix
    → drop place bytes ≡ prefix ++ rest → wide ≡ length prefix → (passes : Bool) → nat_lt (length bytes) (place + wide + long + 2) ≡ passes
    → ReportsSpan bytes place index (if passes then Err (frame_refusal 28 index place) else Ok (span_of place wide long))
span_of_found place index bytes long wide prefix rest inside spelled same is_wide true passes =
    let stands = stands_drop bytes place prefix rest (omega arith) same in
    inr (inside, all_pass bytes place long wide prefix spelled stands is_wide (grind (arith, nat_tests)), refl)
span_of_found place index bytes long wide prefix rest inside spelled same is_wide false passes =
    (span_found bytes place long wide prefix rest inside spelled same is_wide (grind (arith, nat_tests)), refl)

-- what is reported of what was parsed
span_of_parsed : (place index : ℕ) (bytes : List ℕ) → AreBytes bytes → place < length bytes → (found : Option (ℕ × List ℕ)) → ms.parse (drop place bytes) ≡ found
    → ReportsSpan bytes place index (span_parsed place index (length bytes) (length (drop place bytes)) found)
span_of_parsed place index bytes are inside None none =
    inr (
      inside,
      (λ long size spelled stands. absurd ((reads_none AreBytes ms (drop place bytes) ms_is_code none).0
          (long, size, stands.after, spelled, drop_stands bytes place size stands))),
      refl,
    )
span_of_parsed place index bytes are inside (Some (long, rest)) found =
    let after : AreBytes (drop place bytes) = bytes_closed (take place bytes) (drop place bytes) (subst AreBytes (sym (take-append-drop place bytes)) are) in
    let is = ms_is_code.sound (drop place bytes) rest long after found in
    let wide : length (drop place bytes) - length rest ≡ length is.0 = omega (arith, ap length is.2, length-append is.0 rest) in
    span_of_found place index bytes long (length (drop place bytes) - length rest) is.0 rest inside is.1 is.2 wide
    (nat_lt (length bytes) (place + (length (drop place bytes) - length rest) + long + 2)) refl

-- what is tried of a span is what the input reports
pub span_reported : (bytes : List ℕ) (place index : ℕ) → AreBytes bytes → ReportsSpan bytes place index (tried_span place index bytes)
unfolding tried_span
span_reported bytes place index are = of_test (nat_lt place (length bytes)) refl
  where
    of_test : (inside : Bool) → nat_lt place (length bytes) ≡ inside
        → ReportsSpan bytes place index (if not inside then Err (frame_refusal 27 index place)
        else span_parsed place index (length bytes) (length (drop place bytes)) (ms.parse (drop place bytes)))
    of_test false is = inl (grind (arith, nat_tests), refl)
    of_test true is = span_of_parsed place index bytes are (grind (arith, nat_tests)) (ms.parse (drop place bytes)) refl

-- the length of a span stands at its place
pub span_size : (bytes : List ℕ) (span : Span) (is : SpanAt bytes span) → StandsAt bytes span.from is.size
span_size bytes span is =
    stands_first bytes span.from is.size is.body (stands_first bytes span.from (is.size ++ is.body) is.word is.stands)

-- a span lies in the input
pub span_within : (bytes : List ℕ) (span : Span) → SpanAt bytes span → (span.end ≤ length bytes) × (span.from < length bytes)
span_within bytes span is =
    let reach = stands_within bytes span.from (is.size ++ is.body ++ is.word) is.stands in
    let long : length (is.size ++ is.body ++ is.word) ≡ length is.size + length is.body + 2 =
    length-append (is.size ++ is.body) is.word ∙ ap (λ n. n + length is.word) (length-append is.size is.body) ∙ ap (λ n. length is.size + length is.body + n) is.two in
    (omega (arith, reach, long, is.body_place, is.body_end, is.ends), omega (arith, reach, long))

-- spans of the same places are one
span_of_places : (span other : Span) → span.from ≡ other.from → span.body ≡ other.body → span.body_end ≡ other.body_end → span.end ≡ other.end → span ≡ other
span_of_places span other from body body_end end =
    ap₂ (λ (f b : ℕ). record { from = f; body = b; body_end = span.body_end; end = span.end }) from body
    ∙ ap₂ (λ (b e : ℕ). record { from = other.from; body = other.body; body_end = b; end = e }) body_end end

-- spans at one place are one
pub spans_same : (bytes : List ℕ) (span other : Span) → SpanAt bytes span → SpanAt bytes other → span.from ≡ other.from → span ≡ other
spans_same bytes span other is was same =
    let sizes = lengths_same bytes span.from (length is.body) (length was.body) is.size was.size is.spelled was.spelled (span_size bytes span is)
    (subst (λ n. StandsAt bytes n was.size) (sym same) (span_size bytes other was)) in
    let wide : length is.size ≡ length was.size = ap length sizes.1 in
    let bodies : span.body ≡ other.body = omega (arith, is.body_place, was.body_place, same, wide) in
    let ends : span.body_end ≡ other.body_end = omega (arith, bodies, is.body_end, was.body_end, sizes.0) in
    span_of_places span other same bodies ends (omega (arith, ends, is.ends, was.ends))

-- where a span stands, no place is refused
pub span_unrefused : (bytes : List ℕ) (place index : ℕ) (span : Span) (refusal : Refusal) → SpanAt bytes span → span.from ≡ place → SpanRefused bytes place index refusal → ⊥
span_unrefused bytes place index span refusal is from (inl after) = let within = span_within bytes span is in omega (arith, within.1, after.0)
span_unrefused bytes place index span refusal is from (inr passes) =
    let within = span_within bytes span is in
    let past = passes.1 (length is.body) is.size is.spelled (subst (λ n. StandsAt bytes n is.size) from (span_size bytes span is)) in
    omega (arith, within.0, past, is.body_place, is.body_end, is.ends)

-- a place is refused by one line
pub span_refusals_same : (bytes : List ℕ) (place index : ℕ) (refusal other : Refusal) → SpanRefused bytes place index refusal → SpanRefused bytes place index other → refusal ≡ other
span_refusals_same bytes place index refusal other (inl is) (inl was) = is.1 ∙ sym was.1
span_refusals_same bytes place index refusal other (inl is) (inr was) = absurd (omega (arith, is.0, was.0))
span_refusals_same bytes place index refusal other (inr is) (inl was) = absurd (omega (arith, is.0, was.0))
span_refusals_same bytes place index refusal other (inr is) (inr was) = is.2 ∙ sym was.2

-- the input reports one thing alone
span_only : (bytes : List ℕ) (place index : ℕ) (tried other : Tried Span) → ReportsSpan bytes place index tried → ReportsSpan bytes place index other → tried ≡ other
span_only bytes place index (Ok span) (Ok other) is was = ap Ok (spans_same bytes span other is.0 was.0 (is.1 ∙ sym was.1))
span_only bytes place index (Ok span) (Err other) is was = absurd (span_unrefused bytes place index span other is.0 is.1 was)
span_only bytes place index (Err refusal) (Ok other) is was = absurd (span_unrefused bytes place index other refusal was.0 was.1 is)
span_only bytes place index (Err refusal) (Err other) is was = ap Err (span_refusals_same bytes place index refusal other is was)

-- so it is
pub tried_span_means : SpansAreReported
tried_span_means bytes place index tried are = (
  (λ same. subst (ReportsSpan bytes place index) same (span_reported bytes place index are)),
  (λ reports. span_only bytes place index (tried_span place index bytes) tried (span_reported bytes place index are) reports),
)
