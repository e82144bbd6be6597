use Rattle.std.proofs.Common.{ℕ, List, rules}
use Rattle.dwg_common.proofs.ChainReading.{one_begun, one_missing, all_begun}
use Rattle.dwg_grammar.specs.Codes.{tv}
use Rattle.dwg_grammar.specs.Combinators.{chain}
use Rattle.dwg_grammar.specs.Reference.{Reference}
use Rattle.dwg_grammar.specs.ReferenceCodes.{reference}
use Rattle.dwg_dicts.specs.declared.dictionary.DictItem.{DictItem}
use Rattle.dwg_dicts.specs.Dictionaries.{names_of, targets_of}
use Rattle.dwg_dicts.proofs.ItemReading.{part_more, names_missing, targets_missing, all_found}
use Rattle.dwg_dicts.proofs.dict_items.read_items.Goals as goal

pub returns-in_default-clause-parsed : goal.returns-in_default-clause-parsed
unfolding chain
returns-in_default-clause-parsed c =
    names_missing c.args.base c.args.count _ _
    (one_missing (λ (state : ℕ). tv) (λ (name : List ℕ). 0) 0 0 c.args.count _ (names_of c.items.found) c.in_ok-name.field-0 _ _ _
    c.items-test.true c.in_default.is c.in_ok-name.ensures.parsed c.items.invariant.names)

pub returns-in_default-parse_ref-clause-parsed : goal.returns-in_default-parse_ref-clause-parsed
unfolding chain
returns-in_default-parse_ref-clause-parsed c =
    targets_missing c.args.base c.args.count _ _
    (one_missing (λ (state : ℕ). reference c.args.base) (λ (target : Reference). 0) 0 0 c.args.count _ (targets_of c.items.found) c.parse_ref.result _ _ _
    c.items-test.true c.in_default-parse_ref.is c.parse_ref.ensures.parsed c.items.invariant.targets)

pub items-preserved : goal.items-preserved
items-preserved c = record {
  names = one_begun (λ (state : ℕ). tv) (λ (name : List ℕ). 0) 0 0 c.args.count _ (names_of c.items.found) _ c.in_ok-name.field-0 c.in-Some.name _ _ _ c.items-test.true
      (part_more (λ (item : DictItem). item.name) c.items.found _ _ c.in_ok-try_push.ensures) c.in-Some.is c.in_ok-name.ensures.parsed c.items.invariant.names;
  targets = one_begun (λ (state : ℕ). reference c.args.base) (λ (target : Reference). 0) 0 0 c.args.count _ (targets_of c.items.found) _ c.parse_ref.result c.in-Some-parse_ref.target
      _ _ _ c.items-test.true (part_more (λ (item : DictItem). item.target) c.items.found _ _ c.in_ok-try_push.ensures) c.in-Some-parse_ref.is c.parse_ref.ensures.parsed c.items.invariant.targets;
  kept = search rules;
  refs_kept = search rules;
}

pub returns-clause-parsed : goal.returns-clause-parsed
unfolding chain
returns-clause-parsed c =
    all_found c.args.base c.args.count c.items.found _ _ _ _
    (all_begun (λ (state : ℕ). tv) (λ (name : List ℕ). 0) 0 0 c.args.count _ (names_of c.items.found) _ _ c.items-test.false c.items.invariant.names)
    (all_begun (λ (state : ℕ). reference c.args.base) (λ (target : Reference). 0) 0 0 c.args.count _ (targets_of c.items.found) _ _ c.items-test.false c.items.invariant.targets)
