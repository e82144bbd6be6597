-- Bytes and application data that are skipped.
use Rattle.std.proofs.Common.{◌≡◌, refl, sym, ◌∙◌, ap, ℕ, ◌*◌, ◌^◌, ◌<◌, Bool, true, false, List, [], ◌∷◌, ◌++◌, length, Option, Some, None, arith}
use Rattle.std.specs.Prelude.{⊤, ◌==◌, option_and_then, option_map}
use Rattle.dwg_bits.specs.Cursor.{rest}
use Rattle.dwg_bits.specs.declared.cursor.BitCursor.{BitCursor}
use Rattle.dwg_grammar.specs.Reference.{Reference}
use Rattle.dwg_grammar.specs.ReferenceCodes.{reference}
use Rattle.dwg_common.specs.Skipping.{FindsSize, Skips}
use Rattle.dwg_common.specs.BitSizes.{sized_prefix, ReadsSize}
use Rattle.dwg_common.specs.Pictures.{graphic}
use Rattle.dwg_common.proofs.SizeLemmas.{sized_prefix_is_code}
use Rattle.dwg_grammar.specs.Versions.{given}
use Rattle.std.proofs.lemmas.Option.{none-some}
use Rattle.dwg_bits.specs.WholeBytes.{whole_bytes}
use Rattle.dwg_bits.proofs.WholeBytes.{whole_are_bytes, bits_of_whole}
use Rattle.dwg_codes.proofs.RunReading.{bytes_counted, run_read, run_unread}
use Rattle.dwg_grammar.specs.Grammar.{Grammar}
use Rattle.dwg_grammar.specs.Codes.{b, bs, rc, rl}
use Rattle.dwg_grammar.specs.Combinators.{counted, items, seq, when}
use Rattle.dwg_grammar.proofs.BodyReading.{bytes_parsed}
use Rattle.dwg_common.specs.declared.app_data.AppData.{AppData}
use Rattle.dwg_common.specs.AppList.{app_item, app_list}
use Rattle.dwg_common.proofs.UntilReading.{AreBegun, TakeBits, one_begun}

-- so many bits are so many bytes
pub bytes_skipped : (count : ℕ) (span old new : List Bool) → old ≡ span ++ new → length span ≡ 8 * count → (value : List ℕ) × ((items rc count).parse old ≡ Some (value, new))
bytes_skipped count span old new prefix counted =
    let same : _ ≡ span = bits_of_whole span (omega (arith, counted)) in (
      whole_bytes span,
      bytes_parsed count (Some (whole_bytes span)) old new
          (run_read count (whole_bytes span) (whole_bytes span) old new refl (bytes_counted (whole_bytes span) span count same counted) (whole_are_bytes span)
          (prefix ∙ ap (λ (l : List Bool). l ++ new) (sym same))),
    )

-- fewer bits aren't
pub bytes_missing : (count : ℕ) (old : List Bool) → length old < 8 * count → (items rc count).parse old ≡ None
bytes_missing count old short = bytes_parsed count None old old (run_unread count old short)

-- an item is skipped by its reference and its bytes
pub item_skipped : (base size : ℕ) (application : Reference) (old mid new : BitCursor) (done : Option ⊤) → (reference base).parse (rest old) ≡ Some (application, rest mid)
    → Skips (items rc size) done mid new → Skips (app_item base size) done old new
item_skipped base size application old mid new (Some one) was (bytes, found) = (
  record { application = application; bytes = bytes },
  ap (option_map (λ (parts : (Reference × List ℕ) × List Bool). (record { application = parts.0.0; bytes = parts.0.1 }, parts.1)))
      (ap (option_and_then (λ (first : Reference × List Bool). option_map (λ (second : List ℕ × List Bool). ((first.0, second.0), second.1)) ((items rc size).parse first.1))) was
      ∙ ap (option_map (λ (second : List ℕ × List Bool). ((application, second.0), second.1))) found),
)
item_skipped base size application old mid new None was found =
    ap (option_map (λ (parts : (Reference × List ℕ) × List Bool). let item : AppData × List Bool = (record { application = parts.0.0; bytes = parts.0.1 }, parts.1) in item))
    (ap (option_and_then (λ (first : Reference × List Bool). option_map (λ (second : List ℕ × List Bool). ((first.0, second.0), second.1)) ((items rc size).parse first.1))) was
    ∙ ap (option_map (λ (second : List ℕ × List Bool). ((application, second.0), second.1))) found)

-- it is there where it was skipped
pub item_there : (base size : ℕ) (old new : BitCursor) (result : Option ⊤) (one : ⊤) → result ≡ Some one → Skips (app_item base size) result old new
    → (item : AppData) × ((app_item base size).parse (rest old) ≡ Some (item, rest new))
item_there base size old new (Some done) one is skipped = skipped
item_there base size old new None one is skipped = absurd cc

-- some items were skipped
abbrev pub AreSkipped : ℕ → List Bool → List Bool → Type 0
AreSkipped base old now = (found : List AppData) × AreBegun bs (λ size. size == 0) (app_item base) found old now

-- one more
pub one_skipped : (base size : ℕ) (old now mid new : List Bool) → TakeBits bs (app_item base) → (size == 0) ≡ false → bs.parse now ≡ Some (size, mid)
    → (item : AppData) × ((app_item base size).parse mid ≡ Some (item, new)) → AreSkipped base old now → AreSkipped base old new
one_skipped base size old now mid new take other was_size (item, was_item) (found, so_far) =
    (found ++ item ∷ [], one_begun bs (λ size. size == 0) (app_item base) found (found ++ item ∷ []) size item old now mid new take other refl was_size was_item so_far)

-- a value and then another by a code that hangs on it are parsed one after the other
then_parsed : {V W : Type 0} (first : Grammar Bool V) (second : V → Grammar Bool W) (value : V) (letters left : List Bool) → first.parse letters ≡ Some (value, left)
    → (seq first second).parse letters ≡ option_map (λ (two : W × List Bool). ((value, two.0), two.1)) ((second value).parse left)
then_parsed {V} {W} first second value letters left was =
    ap (option_and_then (λ (one : V × List Bool). option_map (λ (two : W × List Bool). ((one.0, two.0), two.1)) ((second one.0).parse one.1))) was

-- where the first isn't parsed, neither are both
never_parsed : {V W : Type 0} (first : Grammar Bool V) (second : V → Grammar Bool W) (letters : List Bool) → first.parse letters ≡ None → (seq first second).parse letters ≡ None
never_parsed {V} {W} first second letters was =
    ap (option_and_then (λ (one : V × List Bool). option_map (λ (two : W × List Bool). ((one.0, two.0), two.1)) ((second one.0).parse one.1))) was

-- bytes after their count are skipped
counted_skipped : (size : ℕ) (done : Option ⊤) (old mid new : BitCursor) → rl.parse (rest old) ≡ Some (size, rest mid) → Skips (items rc size) done mid new → Skips (counted rl rc) done old new
counted_skipped size (Some one) old mid new was (bytes, is) = (
  bytes,
  ap (option_map (λ (found : (ℕ × List ℕ) × List Bool). (found.0.1, found.1)))
      (then_parsed rl (items rc) size (rest old) (rest mid) was ∙ ap (option_map (λ (two : List ℕ × List Bool). ((size, two.0), two.1))) is),
)
counted_skipped size None old mid new was is =
    ap (option_map (λ (found : (ℕ × List ℕ) × List Bool). (found.0.1, found.1)))
    (then_parsed rl (items rc) size (rest old) (rest mid) was ∙ ap (option_map (λ (two : List ℕ × List Bool). ((size, two.0), two.1))) is)

-- a picture is skipped by its flag, its count and its bytes
pub picture_skipped : (size : ℕ) (done : Option ⊤) (old mid more new : BitCursor) → b.parse (rest old) ≡ Some (true, rest mid) → rl.parse (rest mid) ≡ Some (size, rest more)
    → Skips (items rc size) done more new → Skips graphic done old new
unfolding graphic
picture_skipped size (Some one) old mid more new there was is =
    let bytes = counted_skipped size (Some one) mid more new was is in (
      Some bytes.0,
      ap (option_map (λ (found : (Bool × Option (List ℕ)) × List Bool). (found.0.1, found.1)))
          (then_parsed b (λ is_there. when is_there (counted rl rc)) true (rest old) (rest mid) there
          ∙ ap (λ (found : Option (List ℕ × List Bool)). option_map (λ (two : Option (List ℕ) × List Bool). ((true, two.0), two.1)) (option_map (λ (one : List ℕ × List Bool). (Some one.0, one.1)) found)) bytes.1),
    )
picture_skipped size None old mid more new there was is =
    ap (option_map (λ (found : (Bool × Option (List ℕ)) × List Bool). (found.0.1, found.1)))
    (then_parsed b (λ is_there. when is_there (counted rl rc)) true (rest old) (rest mid) there
    ∙ ap (λ (found : Option (List ℕ × List Bool)). option_map (λ (two : Option (List ℕ) × List Bool). ((true, two.0), two.1)) (option_map (λ (one : List ℕ × List Bool). (Some one.0, one.1)) found))
    (counted_skipped size None mid more new was is))

-- where its count isn't there, neither is it
pub picture_uncounted : (old mid new : BitCursor) → b.parse (rest old) ≡ Some (true, rest mid) → rl.parse (rest mid) ≡ None → Skips graphic None old new
unfolding graphic
picture_uncounted old mid new there was =
    ap (option_map (λ (found : (Bool × Option (List ℕ)) × List Bool). (found.0.1, found.1)))
    (then_parsed b (λ is_there. when is_there (counted rl rc)) true (rest old) (rest mid) there
    ∙ ap (λ (found : Option (ℕ × List Bool)). option_map (λ (two : Option (List ℕ) × List Bool). ((true, two.0), two.1)) (option_map (λ (one : List ℕ × List Bool). (Some one.0, one.1))
    (option_map (λ (one : (ℕ × List ℕ) × List Bool). (one.0.1, one.1)) (option_and_then (λ (one : ℕ × List Bool). option_map (λ (two : List ℕ × List Bool). ((one.0, two.0), two.1)) ((items rc one.0).parse one.1)) found)))) was)

-- no picture takes its flag alone
pub no_picture_skipped : (old new : BitCursor) → b.parse (rest old) ≡ Some (false, rest new) → Skips graphic (Some tt) old new
unfolding graphic
no_picture_skipped old new there =
    (None, ap (option_map (λ (found : (Bool × Option (List ℕ)) × List Bool). (found.0.1, found.1))) (then_parsed b (λ is_there. when is_there (counted rl rc)) false (rest old) (rest new) there))

-- the bit size is found where application data and a picture are skipped
pub size_found : (entity : Bool) (base : ℕ) (found : Option ℕ) (old one two new : BitCursor) → Skips (app_list base) (Some tt) old one → Skips (given entity None graphic) (Some tt) one two
    → rl.parse (rest two) ≡ option_map (λ (size : ℕ). (size, rest new)) found → FindsSize entity base found old new
size_found entity base (Some size) old one two new (app, was) (picture, is) parsed = (
  app,
  picture,
  then_parsed (app_list base) (λ one. seq (given entity None graphic) (λ two. rl)) app (rest old) (rest one) was
      ∙ ap (option_map (λ (found : (Option (List ℕ) × ℕ) × List Bool). ((app, found.0), found.1)))
      (then_parsed (given entity None graphic) (λ one. rl) picture (rest one) (rest two) is ∙ ap (option_map (λ (found : ℕ × List Bool). ((picture, found.0), found.1))) parsed),
)
size_found entity base None old one two new (app, was) (picture, is) parsed =
    then_parsed (app_list base) (λ one. seq (given entity None graphic) (λ two. rl)) app (rest old) (rest one) was
    ∙ ap (option_map (λ (found : (Option (List ℕ) × ℕ) × List Bool). ((app, found.0), found.1)))
    (then_parsed (given entity None graphic) (λ one. rl) picture (rest one) (rest two) is ∙ ap (option_map (λ (found : ℕ × List Bool). ((picture, found.0), found.1))) parsed)

-- where there are no application data
pub no_items : (entity : Bool) (base : ℕ) (old one new : BitCursor) → Skips (app_list base) None old one → FindsSize entity base None old new
no_items entity base old one new was = never_parsed (app_list base) (λ one. seq (given entity None graphic) (λ two. rl)) (rest old) was

-- where there is no picture
pub no_picture : (entity : Bool) (base : ℕ) (old one two new : BitCursor) → Skips (app_list base) (Some tt) old one → Skips (given entity None graphic) None one two
    → FindsSize entity base None old new
no_picture entity base old one two new (app, was) is =
    then_parsed (app_list base) (λ one. seq (given entity None graphic) (λ two. rl)) app (rest old) (rest one) was
    ∙ ap (option_map (λ (found : (Option (List ℕ) × ℕ) × List Bool). ((app, found.0), found.1))) (never_parsed (given entity None graphic) (λ one. rl) (rest one) is)

-- what is found is read
pub size_read : (entity : Bool) (base size : ℕ) (old new : BitCursor) → base < 2 ^ 63 → FindsSize entity base (Some size) old new → ReadsSize entity base (Some size) (rest old) (rest new)
size_read entity base size old new small (app, picture, found) =
    let parts = (sized_prefix_is_code entity base small).sound (rest old) (rest new) (app, (picture, size)) tt found in
    (parts.0, (app, picture, parts.1), parts.2)

-- and where nothing is found nothing is read
pub size_unread : (entity : Bool) (base : ℕ) (old new : BitCursor) → base < 2 ^ 63 → FindsSize entity base None old new → ReadsSize entity base None (rest old) (rest old)
size_unread entity base old new small missing = (
  λ size is. none-some ((is.spelled.0, (is.spelled.1, size)), is.after) (sym missing ∙ ap (λ (letters : List Bool). (sized_prefix entity base).parse letters) is.whole
      ∙ (sized_prefix_is_code entity base small).complete is.prefix is.after (is.spelled.0, (is.spelled.1, size)) is.spelled.2),
  refl,
)
