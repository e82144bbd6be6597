use Rattle.std.proofs.Common.{◌∙◌, ap, arith, [], ◌∷◌, length, Some, None}
use Rattle.std.proofs.lemmas.List.{length-append}
use Rattle.dwg_grammar.specs.Combinators.{items}
use Rattle.dwg_grammar.specs.Grammar.{AnyLetters}
use Rattle.dwg_grammar.proofs.BodyReading.{parsed}
use Rattle.dwg_grammar.proofs.CombinatorLemmas.{any_letters_closed}
use Rattle.dwg_grammar.proofs.ListLemmas.{items_is_code}
use Rattle.dwg_codes.proofs.ListReading.{one_more, list_read, list_values, list_unread}
use Rattle.dwg_codes.proofs.list.read_list.Goals as goal

pub returns-in_default-clause-reads : goal.returns-in_default-clause-reads
returns-in_default-clause-reads g c =
    let so_far = c.values.invariant in
    list_unread (g.C.BitCode.grammar c.args.context.now) c.args.count c.values.found _ _ _ (g.met.C.BitCode.laws c.args.context.now c.requires)
    (omega (arith, so_far.counted, c.values-test.true)) so_far.so_far c.in_default.ensures.reads

pub returns-in_default-clause-parsed : goal.returns-in_default-clause-parsed
returns-in_default-clause-parsed g c =
    let so_far = c.values.invariant in
    let code = g.C.BitCode.grammar c.args.context.now in
    let laws = g.met.C.BitCode.laws c.args.context.now c.requires in
    parsed (items code c.args.count) None _ _ (items_is_code AnyLetters code c.args.count any_letters_closed laws)
    (list_unread code c.args.count c.values.found _ _ _ laws (omega (arith, so_far.counted, c.values-test.true)) so_far.so_far c.in_default.ensures.reads)

pub values-preserved : goal.values-preserved
values-preserved g c =
    let so_far = c.values.invariant in
    let pushed = c.in_ok-try_push.ensures in
    record {
      so_far = one_more (g.C.BitCode.grammar c.args.context.now) _ _ _ _ _ _ pushed so_far.so_far c.in-Some.ensures.reads;
      counted = omega (arith, so_far.counted, ap length pushed, length-append c.values.found (c.in-Some.item ∷ []));
      bytes = c.in-Some.ensures.same_bytes ∙ so_far.bytes;
      end = c.in-Some.ensures.same_end ∙ so_far.end;
    }

pub returns-clause-value : goal.returns-clause-value
returns-clause-value g c =
    let so_far = c.values.invariant in
    list_values (g.C.BitCode.grammar c.args.context.now) c.args.count _ _ _ (g.met.C.BitCode.laws c.args.context.now c.requires)
    (omega (arith, so_far.counted, c.values-test.false)) so_far.so_far

pub returns-clause-parsed : goal.returns-clause-parsed
returns-clause-parsed g c =
    let so_far = c.values.invariant in
    let code = g.C.BitCode.grammar c.args.context.now in
    parsed (items code c.args.count) (Some c.values.found) _ _ (items_is_code AnyLetters code c.args.count any_letters_closed (g.met.C.BitCode.laws c.args.context.now c.requires))
    (list_read code c.args.count c.values.found _ _ (omega (arith, so_far.counted, c.values-test.false)) so_far.so_far)
