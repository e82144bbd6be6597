-- What all objects have that are no entities (Open Design Specification, "Common non-entity object format").
use Rattle.std.specs.Prelude.{⊤, ℕ, List, length}
use Rattle.dwg_grammar.specs.Codes.{bl}
use Rattle.dwg_grammar.specs.Combinators.{seq}
use Rattle.dwg_grammar.specs.Reference.{Reference}
use Rattle.dwg_common.specs.declared.app_data.AppData.{AppData}
use Rattle.dwg_common.specs.declared.object.ObjectCommon.{ObjectCommon}
use Rattle.dwg_common.specs.declared.bit_layout.Layout.{Layout}
use Rattle.dwg_common.specs.AppList.{app_list}
use Rattle.dwg_common.specs.BitSizes.{bit_size}
use Rattle.dwg_grammar.specs.Bodies.{BodyGrammar}
use Rattle.dwg_grammar.specs.MakingBodies.{body}
use Rattle.dwg_grammar.specs.References.{ReferencePart, one_ref, some_refs, then_refs}

-- owner; reactors; xdict
abbrev pub object_refs : ℕ → List AppData × (⊤ × ℕ) → ReferencePart (Reference × (List Reference × Reference))
object_refs base parsed = then_refs (one_ref base) (then_refs (some_refs base parsed.1.1) (one_ref base))

-- the common part, of an object with this handle, that is no entity: application data; the bit size; BL count of reactors; and the references
unfoldable pub object_common : Layout → ℕ → BodyGrammar ObjectCommon
object_common layout base =
    body (seq (app_list base) (λ app. seq (bit_size layout) (λ size. bl))) (object_refs base)
    (λ parsed named. record { app = parsed.0; reactors = named.1.0; owner = named.0; xdict = named.1.1 })
    (λ common. (common.app, (tt, length common.reactors))) (λ common. (common.owner, (common.reactors, common.xdict)))
