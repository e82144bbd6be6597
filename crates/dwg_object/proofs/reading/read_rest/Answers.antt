use Rattle.std.proofs.Common.{rules, inl, inr}
use Rattle.dwg_bits.specs.Cursor.{rest}
use Rattle.dwg_object.proofs.reading.read_rest.Goals as goal

pub returns-then-eq-clause-none : goal.returns-then-eq-clause-none
returns-then-eq-clause-none c = λ none. inl (search rules)

pub returns-in_default-clause-none : goal.returns-in_default-clause-none
returns-in_default-clause-none c = λ none.
    let clauses = rw c.in_default.is at c.in_ok-refs.ensures in
    inr (rest c.read_refs_to_end.new.cursor, clauses.reads)

pub returns-clause-refs : goal.returns-clause-refs
returns-clause-refs c =
    let clauses = rw c.in-Some.is at c.in_ok-refs.ensures in
    (rest c.read_refs_to_end.new.cursor, clauses.reads)
