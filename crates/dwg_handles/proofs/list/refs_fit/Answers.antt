use Rattle.std.proofs.Common.{rules}
use Rattle.std.proofs.lemmas.Iterator.{YieldsList-from_slice}
use Rattle.std.proofs.lemmas.Iterator.Search.{all_from_yields_List}
use borrow.Author.Tests.{tests}
use Rattle.dwg_grammar.specs.Reference.{Reference, reaches}
use Rattle.dwg_handles.proofs.ListFitting.{fit_are_values}
use Rattle.dwg_handles.proofs.list.refs_fit.Goals as goal

pub returns : goal.returns
returns c =
    fit_are_values c.args.base c.args.refs.now c.all.result
    (all_from_yields_List (λ (value : Reference). reaches c.args.base value) _ _ c.all.result c.all.ensures.ran (YieldsList-from_slice c.args.refs.now cc) (λ x b q k. search (rules, tests)))
