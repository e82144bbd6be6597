use Rattle.std.proofs.Common.{ℕ, length, rules}
use Rattle.dwg_grammar.specs.Combinators.{chain}
use Rattle.dwg_grammar.specs.Reference.{Reference}
use Rattle.dwg_grammar.specs.ReferenceCodes.{reference}
use Rattle.dwg_common.proofs.ChainReading.{one_begun, one_missing, all_begun}
use Rattle.dwg_tables.proofs.members.read_names.Goals as goal

pub returns-in_default-clause-parsed : goal.returns-in_default-clause-parsed
unfolding chain
returns-in_default-clause-parsed g c =
    one_missing (λ (state : ℕ). reference c.args.base) (λ (name : Reference). 0) 0 0 (length c.args.parsed.now) _ c.names.names c.parse_ref.result _ _ _
    c.names-test.true c.in_default.is c.parse_ref.ensures.parsed c.names.invariant.so_far

pub names-preserved : goal.names-preserved
names-preserved g c = record {
  so_far = one_begun (λ (state : ℕ). reference c.args.base) (λ (name : Reference). 0) 0 0 (length c.args.parsed.now) _ c.names.names _ c.parse_ref.result c.in-Some.name _ _ _
      c.names-test.true c.in_ok-try_push.ensures c.in-Some.is c.parse_ref.ensures.parsed c.names.invariant.so_far;
  kept = search rules;
}

pub returns-clause-parsed : goal.returns-clause-parsed
unfolding chain
returns-clause-parsed g c =
    all_begun (λ (state : ℕ). reference c.args.base) (λ (name : Reference). 0) 0 0 (length c.args.parsed.now) _ c.names.names _ _ c.names-test.false c.names.invariant.so_far
