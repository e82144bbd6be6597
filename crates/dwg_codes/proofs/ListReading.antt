-- Values read one after the other.
use Rattle.std.proofs.Common.{◌≡◌, refl, sym, ◌∙◌, ap, subst, ℕ, ◌+◌, ◌<◌, ◌≤◌, Bool, List, [], ◌∷◌, ◌++◌, length, Some, None, arith}
use Rattle.std.proofs.lemmas.List.{append_assoc, length-append}
use Rattle.dwg_grammar.specs.Grammar.{Grammar, IsCode, AnyLetters, BeginsWith, Reads}
use Rattle.dwg_grammar.specs.Combinators.{items, chain}
use Rattle.dwg_grammar.specs.ToEnd.{SpellsAll, AreValues, HaveLeast, ReadsToEnd}
use Rattle.dwg_grammar.proofs.ToEndLemmas.{value_all, spells_one_more, all_to_end, no_more_all, no_cut_to_end}

-- the values were read at the begin of the old bits, and the new bits are left
pub record AreRead {V : Type 0} (code : Grammar Bool V) (values : List V) (old new : List Bool) : Type 0 where
  pub prefix : List Bool
  pub spelled : SpellsAll code values prefix
  pub whole : old ≡ prefix ++ new

-- before the first value none is read
pub none_yet : {V : Type 0} (code : Grammar Bool V) (bits : List Bool) → AreRead code [] bits bits
none_yet code bits = record {
  prefix = [];
  spelled = refl;
  whole = refl;
}

-- a value more is read
pub one_more : {V : Type 0} (code : Grammar Bool V) (values more : List V) (value : V) (old mid new : List Bool) → more ≡ values ++ value ∷ [] → AreRead code values old mid
    → Reads code (Some value) mid new → AreRead code more old new
one_more {V} code values more value old mid new pushed so_far (prefix, spelled, same) =
    subst (λ (all : List V). AreRead code all old new) (sym pushed)
    (record {
      prefix = so_far.prefix ++ prefix;
      spelled = spells_one_more code values value so_far.prefix prefix so_far.spelled spelled;
      whole = so_far.whole ∙ ap (λ rest. so_far.prefix ++ rest) same ∙ sym (append_assoc so_far.prefix prefix new);
    })

-- what is read are values
pub read_values : {V : Type 0} (code : Grammar Bool V) (values : List V) (old new : List Bool) → IsCode AnyLetters code → AreRead code values old new → AreValues code values
read_values code values old new is so_far = value_all AnyLetters code values so_far.prefix is so_far.spelled

-- so many values are a list of so many
pub list_read : {V : Type 0} (code : Grammar Bool V) (count : ℕ) (values : List V) (old new : List Bool) → length values ≡ count → AreRead code values old new
    → Reads (items code count) (Some values) old new
unfolding chain
list_read code count values old new counted so_far = (so_far.prefix, (counted, so_far.spelled), so_far.whole)

-- and they are its values
pub list_values : {V : Type 0} (code : Grammar Bool V) (count : ℕ) (values : List V) (old new : List Bool) → IsCode AnyLetters code → length values ≡ count → AreRead code values old new
    → (items code count).IsValue values
unfolding chain
list_values code count values old new is counted so_far = (counted, read_values code values old new is so_far)

-- where a value of so many isn't there, the list isn't
pub list_unread : {V : Type 0} (code : Grammar Bool V) (count : ℕ) (before : List V) (old mid left : List Bool) → IsCode AnyLetters code → length before < count → AreRead code before old mid
    → Reads code None mid left → Reads (items code count) None old old
unfolding chain
list_unread {V} code count before old mid left is fewer so_far none = (begins, refl)
  where
    begins : BeginsWith (items code count) old → ⊥
    begins (values, whole, rest, spelled, same) =
        no_more_all AnyLetters code is before values so_far.prefix mid whole rest so_far.spelled spelled.1 (sym so_far.whole ∙ same) (omega (arith, spelled.0)) none.0

-- values after which too few bits for another are left go to the end
pub end_read : {V : Type 0} (least : ℕ) (code : Grammar Bool V) (values : List V) (old new : List Bool) → length new < least → AreRead code values old new
    → ReadsToEnd least code (Some values) old new
end_read least code values old new few so_far = all_to_end least code values old so_far.prefix new so_far.spelled so_far.whole few

-- where a value isn't there though bits enough for one are left, nothing goes to the end
pub end_unread : {V : Type 0} (least : ℕ) (code : Grammar Bool V) (before : List V) (old mid left : List Bool) → IsCode AnyLetters code → least ≤ length mid → AreRead code before old mid
    → Reads code None mid left → ReadsToEnd least code None old old
end_unread least code before old mid left is enough so_far none =
    (no_cut_to_end AnyLetters least code is before old so_far.prefix mid so_far.spelled so_far.whole enough none.0, refl)

-- a value that is read takes at least as many bits as the shortest
pub read_takes : {V : Type 0} (least : ℕ) (code : Grammar Bool V) (value : V) (old new : List Bool) → HaveLeast least code → Reads code (Some value) old new → least + length new ≤ length old
read_takes least code value old new have (prefix, spelled, same) =
    let long = have value prefix spelled in
    omega (arith, ap length same, length-append prefix new)
