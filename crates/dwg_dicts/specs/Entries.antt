-- Controls that name the entries of their table and nothing else (Open Design Specification, "LAYER CONTROL", "STYLE CONTROL" and "APPID CONTROL").
use Rattle.std.specs.Prelude.{ℕ, List, length}
use Rattle.dwg_grammar.specs.Codes.{bl}
use Rattle.dwg_grammar.specs.Bodies.{BodyGrammar}
use Rattle.dwg_grammar.specs.MakingBodies.{body}
use Rattle.dwg_grammar.specs.References.{some_refs}
use Rattle.dwg_grammar.specs.Reference.{Reference}
use Rattle.dwg_dicts.specs.declared.appid_control.AppIdControl.{AppIdControl}
use Rattle.dwg_dicts.specs.declared.layer_control.LayerControl.{LayerControl}
use Rattle.dwg_dicts.specs.declared.style_control.StyleControl.{StyleControl}

-- BL count of entries; and the entries
abbrev pub entries_body : {V : Type 0} → (List Reference → V) → (V → List Reference) → ℕ → BodyGrammar V
entries_body {V} into entries_of base = body bl (λ count. some_refs base count) (λ count entries. into entries) (λ control. length (entries_of control)) entries_of

unfoldable pub layer_control_body : ℕ → BodyGrammar LayerControl
layer_control_body base = entries_body (λ entries. record { entries = entries }) (λ control. control.entries) base

unfoldable pub style_control_body : ℕ → BodyGrammar StyleControl
style_control_body base = entries_body (λ entries. record { entries = entries }) (λ control. control.entries) base

unfoldable pub appid_control_body : ℕ → BodyGrammar AppIdControl
appid_control_body base = entries_body (λ entries. record { entries = entries }) (λ control. control.entries) base
