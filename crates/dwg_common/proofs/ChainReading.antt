-- A chain of values read one after the other, each by what the one before leads to.
use Rattle.std.proofs.Common.{◌≡◌, refl, ◌∙◌, ap, ℕ, zero, suc, ◌+◌, ◌<◌, ◌≤◌, Bool, List, [], ◌∷◌, ◌++◌, length, Option, Some, None, arith}
use Rattle.std.specs.Prelude.{option_and_then}
use Rattle.std.specs.Option.{option_map}
use Rattle.std.proofs.lemmas.List.{append-nil, length-append}
use Rattle.dwg_grammar.specs.Combinators.{parse_chain}
use Rattle.dwg_grammar.specs.Grammar.{Grammar}
use Rattle.dwg_common.proofs.UntilReading.{found_after, after_none, after_more}

-- some values of a chain were read, and so many are left: what is parsed of the chain is what is parsed of those that are left, after those that were found
pub record IsBegun {S V : Type 0} (code : S → Grammar Bool V) (next : V → S) (first state : S) (count done : ℕ) (found : List V) (old now : List Bool) : Type 0 where
  pub left : ℕ
  pub counted : done + left ≡ count
  pub found_so_many : length found ≡ done
  pub goes_on : parse_chain code next first count old ≡ option_map (found_after found) (parse_chain code next state left now)

-- before the first value none is read
pub none_begun : {S V : Type 0} (code : S → Grammar Bool V) (next : V → S) (first : S) (count : ℕ) (bits : List Bool) → IsBegun code next first first count 0 [] bits bits
none_begun code next first count bits = record {
  left = count;
  counted = omega arith;
  found_so_many = refl;
  goes_on = after_none (parse_chain code next first count bits);
}

-- a value more is read
one_more : {S V : Type 0} (code : S → Grammar Bool V) (next : V → S) (first state : S) (count done left : ℕ) (found more : List V) (value : V) (old now new : List Bool)
    → done + left ≡ count → done < count → length found ≡ done → more ≡ found ++ value ∷ [] → (code state).parse now ≡ Some (value, new)
    → parse_chain code next first count old ≡ option_map (found_after found) (parse_chain code next state left now) → IsBegun code next first (next value) count (done + 1) more old new
one_more code next first state count done zero found more value old now new counted fewer so_many pushed was so_far = absurd (omega arith)
one_more {S} {V} code next first state count done (suc left) found more value old now new counted fewer so_many pushed was so_far = record {
  left = left;
  counted = omega (arith, counted);
  found_so_many = omega (arith, so_many, ap length pushed, length-append found (value ∷ []));
  goes_on = so_far
      ∙ ap (λ (one : Option (V × List Bool)). option_map (found_after found) (option_and_then
      (λ (one : V × List Bool). option_map (λ (others : List V × List Bool). (one.0 ∷ others.0, others.1)) (parse_chain code next (next one.0) left one.1)) one)) was
      ∙ after_more found more value (parse_chain code next (next value) left new) pushed;
}

pub one_begun : {S V : Type 0} (code : S → Grammar Bool V) (next : V → S) (first state : S) (count done : ℕ) (found more : List V) (read : Option V) (value : V) (old now new : List Bool)
    → done < count → more ≡ found ++ value ∷ [] → read ≡ Some value → (code state).parse now ≡ option_map (λ (one : V). (one, new)) read
    → IsBegun code next first state count done found old now → IsBegun code next first (next value) count (done + 1) more old new
one_begun {S} {V} code next first state count done found more read value old now new fewer pushed same was so_far =
    one_more code next first state count done so_far.left found more value old now new so_far.counted fewer so_far.found_so_many pushed
    (was ∙ ap (option_map (λ (one : V). (one, new))) same) so_far.goes_on

-- where a value isn't there, the chain isn't
none_more : {S V : Type 0} (code : S → Grammar Bool V) (next : V → S) (first state : S) (count done left : ℕ) (found : List V) (old now : List Bool)
    → done + left ≡ count → done < count → (code state).parse now ≡ None
    → parse_chain code next first count old ≡ option_map (found_after found) (parse_chain code next state left now) → parse_chain code next first count old ≡ None
none_more code next first state count done zero found old now counted fewer was so_far = absurd (omega arith)
none_more {S} {V} code next first state count done (suc left) found old now counted fewer was so_far =
    so_far
    ∙ ap (λ (one : Option (V × List Bool)). option_map (found_after found) (option_and_then
    (λ (one : V × List Bool). option_map (λ (others : List V × List Bool). (one.0 ∷ others.0, others.1)) (parse_chain code next (next one.0) left one.1)) one)) was

pub one_missing : {S V : Type 0} (code : S → Grammar Bool V) (next : V → S) (first state : S) (count done : ℕ) (found : List V) (read : Option V) (old now new : List Bool)
    → done < count → read ≡ None → (code state).parse now ≡ option_map (λ (one : V). (one, new)) read
    → IsBegun code next first state count done found old now → parse_chain code next first count old ≡ None
one_missing {S} {V} code next first state count done found read old now new fewer same was so_far =
    none_more code next first state count done so_far.left found old now so_far.counted fewer (was ∙ ap (option_map (λ (one : V). (one, new))) same) so_far.goes_on

-- where none is left, the chain is read
pub all_begun : {S V : Type 0} (code : S → Grammar Bool V) (next : V → S) (first state : S) (count done : ℕ) (found : List V) (old now : List Bool)
    → count ≤ done → IsBegun code next first state count done found old now → parse_chain code next first count old ≡ Some (found, now)
all_begun {S} {V} code next first state count done found old now past so_far =
    let none : so_far.left ≡ 0 = omega (arith, past, so_far.counted) in
    so_far.goes_on ∙ ap (λ (left : ℕ). option_map (found_after found) (parse_chain code next state left now)) none ∙ ap (λ (all : List V). Some (all, now)) (append-nil found)
