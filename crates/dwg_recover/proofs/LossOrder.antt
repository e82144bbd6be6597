-- The losses of a damaged input are those of its parts, one part after the other.
use Rattle.std.proofs.Common.{◌≡◌, refl, sym, ◌∙◌, ap, ap₂, subst, ℕ, suc, ◌+◌, ◌<◌, ◌≤◌, Bool, true, false, List, [], ◌∷◌, ◌++◌, length, map, Option, Some, None, inl, inr, arith}
use Rattle.std.specs.Prelude.{◌⊎◌, ◌↔◌, ◌≢◌, not, if◌then◌else◌, AllPairs}
use Rattle.std.specs.Option.{is_none}
use Rattle.std.proofs.lemmas.Bool.{cases_order}
use Rattle.dwg_file.specs.FileLines.{is_cut}
use Rattle.dwg_objmap.specs.declared.pair.Pair.{Pair}
use Rattle.dwg_objmap.specs.Walking.{page_holds_at}
use Rattle.dwg_sections.specs.declared.framed.Framed.TheVariants as framed
use Rattle.dwg_sections.specs.declared.header.Locator.{Locator}
use Rattle.dwg_recover.specs.declared.frame.Frame.{Frame}
use Rattle.dwg_recover.specs.declared.loss.Loss.{Loss}
use Rattle.dwg_recover.specs.declared.loss.Loss.TheVariants.{Header, Variables, Classes, Section, Page, MapEnd, Object}
use Rattle.dwg_recover.specs.Frames.{is_kept_pair, lost_pairs}
use Rattle.dwg_recover.specs.ListMembers.{IsAt, IsOneOf}
use Rattle.dwg_recover.proofs.ListMembers.{at_cases, at_first, in_first, in_second, none_at, of_joined}
use Rattle.dwg_recover.specs.Recovering.{frames_mapped, losses_of, pairs_read, walk_of}
use Rattle.dwg_recover.specs.Sections.{header_of, locators_of, lost_if, lost_sections, section_found}
use Rattle.dwg_recover.specs.Walks.{lost_end, lost_pages}
use Rattle.dwg_recover.specs.ReportedLosses.{NumberedLoss, part_of, IsLossAt, StandsBefore, AreLossesInOrder, losses_in, LossesAreInOrder, LossesAreDetermined}
use Rattle.dwg_recover.proofs.ReportedLosses.{none_reported, cut_reported, wrong_reported, free_reported}
use Rattle.dwg_recover.proofs.ListOrders.{IsOneWay, pairs_none, pairs_joined, same_if_ordered}
use Rattle.dwg_recover.proofs.PickedLosses.{picks, AreOfThings, picks_report, IsPart, IsOfThing, part_of_things}

-- a test that isn't passed is failed, and the other way round
not_true : (test : Bool) → (not test ≡ true) ↔ (test ≡ false)
not_true true = (λ is. absurd cc, λ is. absurd cc)
not_true false = (λ is. refl, λ is. refl)

-- losses of parts below one
record IsUpTo (bytes : List ℕ) (part : ℕ) (list : List NumberedLoss) : Type 0 where
  own : (one : NumberedLoss) → IsOneOf one list → (part_of one.loss < part) × IsLossAt bytes one.number one.loss
  all : (one : NumberedLoss) → part_of one.loss < part → IsLossAt bytes one.number one.loss → IsOneOf one list
  ordered : AllPairs StandsBefore list

-- no part is below the first
up_to_none : (bytes : List ℕ) → IsUpTo bytes 0 []
up_to_none bytes = record { own = λ one is. absurd is; all = λ one below is. absurd (omega (arith, below)); ordered = pairs_none StandsBefore }

-- one part more
up_to_more : (bytes : List ℕ) (part : ℕ) (list more : List NumberedLoss) → IsUpTo bytes part list → IsPart bytes part more → IsUpTo bytes (suc part) (list ++ more)
up_to_more bytes part list more up is = record {
  own = λ one inside. of_own one (of_joined one list more inside);
  all = λ one below lost. of_part one lost below (cases_order (part_of one.loss) part);
  ordered = pairs_joined StandsBefore list more up.ordered is.ordered (λ one other here there. inl (omega (arith, (up.own one here).0, (is.own other there).0)));
}
  where
    of_own : (one : NumberedLoss) → IsOneOf one list ⊎ IsOneOf one more → (part_of one.loss < suc part) × IsLossAt bytes one.number one.loss
    of_own one (inl here) = (omega (arith, (up.own one here).0), (up.own one here).1)
    of_own one (inr there) = (omega (arith, (is.own one there).0), (is.own one there).1)

    of_part : (one : NumberedLoss) → IsLossAt bytes one.number one.loss → part_of one.loss < suc part → (part_of one.loss ≡ part) ⊎ ((part_of one.loss < part) ⊎ (part < part_of one.loss)) → IsOneOf one (list ++ more)
    of_part one lost most (inl same) = in_second one list more (is.all one same lost)
    of_part one lost most (inr (inl below)) = in_first one list more (up.all one below lost)
    of_part one lost most (inr (inr above)) = absurd (omega (arith, most, above))

-- what stands in a list of one thing is that, at its begin
only_at : {A : Type 0} (n : ℕ) (x only : A) → IsAt n x (only ∷ []) → (n ≡ 0) × (x ≡ only)
only_at n x only at = of_cases (at_cases n x only [] at)
  where
    of_cases : ((n ≡ 0) × (x ≡ only)) ⊎ ((next : ℕ) × (n ≡ next + 1) × IsAt next x []) → (n ≡ 0) × (x ≡ only)
    of_cases (inl here) = here
    of_cases (inr (next, after, none)) = absurd (none_at next x none)

-- and it does stand there
only_there : {A : Type 0} (n : ℕ) (only : A) → n ≡ 0 → IsAt n only (only ∷ [])
only_there {A} n only first = subst (λ (m : ℕ). IsAt m only (only ∷ [])) (sym first) (at_first only [])

-- what may be there, as a list
abbrev listed : {A : Type 0} → Option A → List A
listed {A} None = []
listed {A} (Some x) = x ∷ []

-- it has one thing at the most
listed_at : {A : Type 0} (found : Option A) (n : ℕ) (x : A) → IsAt n x (listed found) → (n ≡ 0) × (found ≡ Some x)
listed_at None n x at = absurd (none_at n x at)
listed_at (Some y) n x at = let only = only_at n x y at in (only.0, ap Some (sym only.1))

listed_there : {A : Type 0} (found : Option A) (n : ℕ) (x : A) → n ≡ 0 → found ≡ Some x → IsAt n x (listed found)
listed_there {A} found n x first is = subst (λ (one : Option A). IsAt n x (listed one)) (sym is) (only_there n x first)

-- the losses of each part
abbrev in_header : List ℕ → List NumberedLoss
in_header bytes = picks (λ n lost. lost) (λ n lost. Header) 0 (is_none (header_of bytes) ∷ [])

abbrev in_variables : List ℕ → List NumberedLoss
in_variables bytes = picks (λ n lost. lost) (λ n lost. Variables) 0 (is_none (section_found framed.Variables bytes) ∷ [])

abbrev in_classes : List ℕ → List NumberedLoss
in_classes bytes = picks (λ n lost. lost) (λ n lost. Classes) 0 (is_none (section_found framed.Classes bytes) ∷ [])

abbrev section_loss : ℕ → Locator → Loss
section_loss n locator = Section locator.number locator.place

abbrev in_sections : List ℕ → List NumberedLoss
in_sections bytes = picks (λ n locator. is_cut bytes locator) section_loss 0 (locators_of (header_of bytes))

abbrev in_pages : List ℕ → List NumberedLoss
in_pages bytes = picks (λ n page. not (page_holds_at bytes page)) (λ n page. Page n page) 0 (walk_of bytes).pages

abbrev in_end : List ℕ → List NumberedLoss
in_end bytes = picks (λ n place. true) (λ n place. MapEnd place) 0 (listed (walk_of bytes).lost)

abbrev pair_loss : ℕ → Pair → Loss
pair_loss n pair = Object pair.handle pair.place

abbrev in_pairs : List ℕ → List NumberedLoss
in_pairs bytes = picks (λ n pair. not (is_kept_pair (frames_mapped bytes) n)) pair_loss 0 (pairs_read bytes)

-- the header
header_part : (bytes : List ℕ) → IsPart bytes 0 (in_header bytes)
header_part bytes = part_of_things bytes 0 (λ n lost. lost) (λ n lost. Header) (is_none (header_of bytes) ∷ []) (λ n x. refl)
    (λ n x at lost. let only = only_at n x (is_none (header_of bytes)) at in (only.0, (none_reported (header_of bytes)).0 (sym only.1 ∙ lost)))
    (λ one of_part is. from one.number one.loss of_part is)
  where
    from : (n : ℕ) (loss : Loss) → part_of loss ≡ 0 → IsLossAt bytes n loss → IsOfThing (λ n lost. lost) (λ n lost. Header) (is_none (header_of bytes) ∷ []) (record { number = n; loss = loss })
    from n Header of_part is = record { thing = is_none (header_of bytes); at = only_there n (is_none (header_of bytes)) is.0; passes = (none_reported (header_of bytes)).1 is.1; same = refl }
    from n other of_part is = absurd (cc of_part)

-- the variables
variables_part : (bytes : List ℕ) → IsPart bytes 1 (in_variables bytes)
variables_part bytes = part_of_things bytes 1 (λ n lost. lost) (λ n lost. Variables) (is_none (section_found framed.Variables bytes) ∷ []) (λ n x. refl)
    (λ n x at lost. let only = only_at n x (is_none (section_found framed.Variables bytes)) at in (only.0, (none_reported (section_found framed.Variables bytes)).0 (sym only.1 ∙ lost)))
    (λ one of_part is. from one.number one.loss of_part is)
  where
    from : (n : ℕ) (loss : Loss) → part_of loss ≡ 1 → IsLossAt bytes n loss → IsOfThing (λ n lost. lost) (λ n lost. Variables) (is_none (section_found framed.Variables bytes) ∷ []) (record { number = n; loss = loss })
    from n Variables of_part is = record {
      thing = is_none (section_found framed.Variables bytes);
      at = only_there n (is_none (section_found framed.Variables bytes)) is.0;
      passes = (none_reported (section_found framed.Variables bytes)).1 is.1;
      same = refl;
    }
    from n other of_part is = absurd (cc of_part)

-- the classes
classes_part : (bytes : List ℕ) → IsPart bytes 2 (in_classes bytes)
classes_part bytes = part_of_things bytes 2 (λ n lost. lost) (λ n lost. Classes) (is_none (section_found framed.Classes bytes) ∷ []) (λ n x. refl)
    (λ n x at lost. let only = only_at n x (is_none (section_found framed.Classes bytes)) at in (only.0, (none_reported (section_found framed.Classes bytes)).0 (sym only.1 ∙ lost)))
    (λ one of_part is. from one.number one.loss of_part is)
  where
    from : (n : ℕ) (loss : Loss) → part_of loss ≡ 2 → IsLossAt bytes n loss → IsOfThing (λ n lost. lost) (λ n lost. Classes) (is_none (section_found framed.Classes bytes) ∷ []) (record { number = n; loss = loss })
    from n Classes of_part is = record {
      thing = is_none (section_found framed.Classes bytes);
      at = only_there n (is_none (section_found framed.Classes bytes)) is.0;
      passes = (none_reported (section_found framed.Classes bytes)).1 is.1;
      same = refl;
    }
    from n other of_part is = absurd (cc of_part)

-- unknown sections
sections_part : (bytes : List ℕ) → IsPart bytes 3 (in_sections bytes)
sections_part bytes = part_of_things bytes 3 (λ n locator. is_cut bytes locator) section_loss (locators_of (header_of bytes)) (λ n x. refl)
    (λ n x at lost. let cut = (cut_reported bytes x).0 lost in (x, at, refl, refl, cut.0, cut.1, cut.2))
    (λ one of_part is. from one.number one.loss of_part is)
  where
    from : (n : ℕ) (loss : Loss) → part_of loss ≡ 3 → IsLossAt bytes n loss → IsOfThing (λ n locator. is_cut bytes locator) section_loss (locators_of (header_of bytes)) (record { number = n; loss = loss })
    from n (Section number place) of_part (locator, at, its_number, its_place, known, some, cut) = record {
      thing = locator;
      at = at;
      passes = (cut_reported bytes locator).1 (omega (arith, its_number, known), some, omega (arith, its_place, cut));
      same = ap (λ m. Section m place) its_number ∙ ap (Section locator.number) its_place;
    }
    from n other of_part is = absurd (cc of_part)

-- pages
pages_part : (bytes : List ℕ) → IsPart bytes 4 (in_pages bytes)
pages_part bytes = part_of_things bytes 4 (λ n page. not (page_holds_at bytes page)) (λ n page. Page n page) (walk_of bytes).pages (λ n x. refl)
    (λ n x at lost. (refl, at, (wrong_reported bytes x).0 ((not_true (page_holds_at bytes x)).0 lost)))
    (λ one of_part is. from one.number one.loss of_part is)
  where
    from : (n : ℕ) (loss : Loss) → part_of loss ≡ 4 → IsLossAt bytes n loss
        → IsOfThing (λ n page. not (page_holds_at bytes page)) (λ n page. Page n page) (walk_of bytes).pages (record { number = n; loss = loss })
    from n (Page index place) of_part is = record {
      thing = place;
      at = subst (λ (m : ℕ). IsAt m place (walk_of bytes).pages) (sym is.0) is.1;
      passes = (not_true (page_holds_at bytes place)).1 ((wrong_reported bytes place).1 is.2);
      same = ap (λ m. Page m place) (sym is.0);
    }
    from n other of_part is = absurd (cc of_part)

-- the end of the map
end_part : (bytes : List ℕ) → IsPart bytes 5 (in_end bytes)
end_part bytes = part_of_things bytes 5 (λ n place. true) (λ n place. MapEnd place) (listed (walk_of bytes).lost) (λ n x. refl)
    (λ n x at lost. listed_at (walk_of bytes).lost n x at)
    (λ one of_part is. from one.number one.loss of_part is)
  where
    from : (n : ℕ) (loss : Loss) → part_of loss ≡ 5 → IsLossAt bytes n loss → IsOfThing (λ n place. true) (λ n place. MapEnd place) (listed (walk_of bytes).lost) (record { number = n; loss = loss })
    from n (MapEnd place) of_part is = record { thing = place; at = listed_there (walk_of bytes).lost n place is.0 is.1; passes = refl; same = refl }
    from n other of_part is = absurd (cc of_part)

-- objects
pairs_part : (bytes : List ℕ) → IsPart bytes 6 (in_pairs bytes)
pairs_part bytes = part_of_things bytes 6 (λ n pair. not (is_kept_pair (frames_mapped bytes) n)) pair_loss (pairs_read bytes) (λ n x. refl)
    (λ n x at lost. (at, (free_reported (frames_mapped bytes) n).0 ((not_true (is_kept_pair (frames_mapped bytes) n)).0 lost)))
    (λ one of_part is. from one.number one.loss of_part is)
  where
    from : (n : ℕ) (loss : Loss) → part_of loss ≡ 6 → IsLossAt bytes n loss
        → IsOfThing (λ n pair. not (is_kept_pair (frames_mapped bytes) n)) pair_loss (pairs_read bytes) (record { number = n; loss = loss })
    from n (Object handle place) of_part is = record {
      thing = record { handle = handle; place = place };
      at = is.0;
      passes = (not_true (is_kept_pair (frames_mapped bytes) n)).1 ((free_reported (frames_mapped bytes) n).1 is.1);
      same = refl;
    }
    from n other of_part is = absurd (cc of_part)

-- all losses, one part after the other
abbrev all_numbered : List ℕ → List NumberedLoss
all_numbered bytes = [] ++ in_header bytes ++ in_variables bytes ++ in_classes bytes ++ in_sections bytes ++ in_pages bytes ++ in_end bytes ++ in_pairs bytes

-- each loss is of one of seven parts
below_seven : (loss : Loss) → part_of loss < 7
below_seven Header = omega arith
below_seven Variables = omega arith
below_seven Classes = omega arith
below_seven (Section number place) = omega arith
below_seven (Page index place) = omega arith
below_seven (MapEnd place) = omega arith
below_seven (Object handle place) = omega arith

-- so they are all, in order
all_in_order : (bytes : List ℕ) → AreLossesInOrder bytes (all_numbered bytes)
all_in_order bytes = record { just = λ one. (λ inside. (up.own one inside).1, λ is. up.all one (below_seven one.loss) is); ordered = up.ordered }
  where
    up : IsUpTo bytes 7 (all_numbered bytes)
    up =
        up_to_more bytes 6 _ (in_pairs bytes)
        (up_to_more bytes 5 _ (in_end bytes)
        (up_to_more bytes 4 _ (in_pages bytes)
        (up_to_more bytes 3 _ (in_sections bytes)
        (up_to_more bytes 2 _ (in_classes bytes)
        (up_to_more bytes 1 _ (in_variables bytes)
        (up_to_more bytes 0 [] (in_header bytes) (up_to_none bytes) (header_part bytes))
        (variables_part bytes))
        (classes_part bytes))
        (sections_part bytes))
        (pages_part bytes))
        (end_part bytes))
        (pairs_part bytes)

-- the losses of joined lists
joined_in : (list more : List NumberedLoss) → losses_in list ++ losses_in more ≡ losses_in (list ++ more)
joined_in [] more = refl
joined_in (one ∷ list) more = ap (λ (rest : List Loss). one.loss ∷ rest) (joined_in list more)

-- each part reports what the losses have of it
if_in : (lost : Bool) (loss : Loss) → lost_if lost loss ≡ losses_in (picks (λ n (test : Bool). test) (λ n test. loss) 0 (lost ∷ []))
unfolding picks
if_in true loss = refl
if_in false loss = refl

end_in : (lost : Option ℕ) → lost_end lost ≡ losses_in (picks (λ n place. true) (λ n place. MapEnd place) 0 (listed lost))
unfolding picks
end_in None = refl
end_in (Some place) = refl

sections_in : (bytes : List ℕ) (locators : List Locator) → lost_sections bytes locators ≡ losses_in (picks (λ n locator. is_cut bytes locator) section_loss 0 locators)
sections_in bytes locators =
    picks_report (λ n locator. is_cut bytes locator) section_loss (λ n those. lost_sections bytes those) (record { none = λ n. refl; more = λ n x xs. refl }) 0 locators

-- two ways to choose
turned : {A : Type 0} (test : Bool) (one other : A) → (if test then one else other) ≡ (if not test then other else one)
turned true one other = refl
turned false one other = refl

pages_in : (bytes : List ℕ) (pages : List ℕ) → lost_pages bytes 0 pages ≡ losses_in (picks (λ n page. not (page_holds_at bytes page)) (λ n page. Page n page) 0 pages)
pages_in bytes pages =
    picks_report (λ n page. not (page_holds_at bytes page)) (λ n page. Page n page) (lost_pages bytes)
    (record { none = λ n. refl; more = λ n x xs. turned (page_holds_at bytes x) (lost_pages bytes (n + 1) xs) (Page n x ∷ lost_pages bytes (n + 1) xs) }) 0 pages

pairs_in : (kept : List Frame) (pairs : List Pair) → lost_pairs kept 0 pairs ≡ losses_in (picks (λ n pair. not (is_kept_pair kept n)) pair_loss 0 pairs)
unfolding lost_pairs
pairs_in kept pairs =
    picks_report (λ n pair. not (is_kept_pair kept n)) pair_loss (lost_pairs kept)
    (record { none = λ n. refl; more = λ n x xs. turned (is_kept_pair kept n) (lost_pairs kept (n + 1) xs) (Object x.handle x.place ∷ lost_pairs kept (n + 1) xs) }) 0 pairs

-- one part more is reported
one_more_in : (losses more : List Loss) (list others : List NumberedLoss) → losses ≡ losses_in list → more ≡ losses_in others → losses ++ more ≡ losses_in (list ++ others)
one_more_in losses more list others one other = ap₂ (λ (xs ys : List Loss). xs ++ ys) one other ∙ joined_in list others

all_in : (bytes : List ℕ) → losses_of bytes ≡ losses_in (all_numbered bytes)
unfolding losses_of
all_in bytes =
    one_more_in _ _ _ (in_pairs bytes)
    (one_more_in _ _ _ (in_end bytes)
    (one_more_in _ _ _ (in_pages bytes)
    (one_more_in _ _ _ (in_sections bytes)
    (one_more_in _ _ _ (in_classes bytes)
    (one_more_in _ _ (in_header bytes) (in_variables bytes)
    (if_in (is_none (header_of bytes)) Header)
    (if_in (is_none (section_found framed.Variables bytes)) Variables))
    (if_in (is_none (section_found framed.Classes bytes)) Classes))
    (sections_in bytes (locators_of (header_of bytes))))
    (pages_in bytes (walk_of bytes).pages))
    (end_in (walk_of bytes).lost))
    (pairs_in (frames_mapped bytes) (pairs_read bytes))

pub losses_in_order : LossesAreInOrder
losses_in_order bytes = (all_numbered bytes, all_in_order bytes, all_in bytes)

-- no two losses stand each before the other
one_way : IsOneWay StandsBefore
one_way one other (inl less) (inl more) = omega (arith, less, more)
one_way one other (inl less) (inr same) = omega (arith, less, same.0)
one_way one other (inr same) (inl more) = omega (arith, same.0, more)
one_way one other (inr same) (inr again) = omega (arith, same.1, again.1)

pub losses_determined : LossesAreDetermined
losses_determined bytes list are =
    let own = all_in_order bytes in
    all_in bytes ∙ ap losses_in (same_if_ordered StandsBefore (all_numbered bytes) list one_way own.ordered are.ordered (λ one. (
      λ inside. (are.just one).1 ((own.just one).0 inside),
      λ inside. (own.just one).1 ((are.just one).0 inside),
    )))
