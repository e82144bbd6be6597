-- Controls that name two objects after the entries of their table (Open Design Specification, "BLOCK CONTROL" and "LTYPE CONTROL").
use Rattle.std.specs.Prelude.{ℕ, List, length}
use Rattle.dwg_grammar.specs.Codes.{bl}
use Rattle.dwg_grammar.specs.Bodies.{BodyGrammar}
use Rattle.dwg_grammar.specs.MakingBodies.{body}
use Rattle.dwg_grammar.specs.References.{ReferencePart, one_ref, some_refs, then_refs}
use Rattle.dwg_grammar.specs.Reference.{Reference}
use Rattle.dwg_dicts.specs.declared.block_control.BlockControl.{BlockControl}
use Rattle.dwg_dicts.specs.declared.ltype_control.LtypeControl.{LtypeControl}

-- so many entries, and two more
abbrev pub entries_and_two : ℕ → ℕ → ReferencePart (List Reference × (Reference × Reference))
entries_and_two base count = then_refs (some_refs base count) (then_refs (one_ref base) (one_ref base))

-- BL count of entries; the entries, and two more
abbrev pub two_more_body : {V : Type 0} → (List Reference × (Reference × Reference) → V) → (V → List Reference × (Reference × Reference)) → ℕ → BodyGrammar V
two_more_body {V} into named_of base = body bl (entries_and_two base) (λ count named. into named) (λ control. length (named_of control).0) named_of

-- entries, model, paper
unfoldable pub block_control_body : ℕ → BodyGrammar BlockControl
block_control_body base =
    two_more_body (λ (entries, (model, paper)). record { entries = entries; model = model; paper = paper }) (λ control. (control.entries, (control.model, control.paper))) base

-- entries, first, second
unfoldable pub ltype_control_body : ℕ → BodyGrammar LtypeControl
ltype_control_body base =
    two_more_body (λ (entries, (first, second)). record { entries = entries; first = first; second = second }) (λ control. (control.entries, (control.first, control.second))) base
