-- What a kind has of its own is a body, and is of that kind.
use Rattle.std.proofs.Common.{◌≡◌, ℕ, ◌^◌, ◌<◌, Bool, List}
use Rattle.dwg_base.specs.declared.version.Version.{Version}
use Rattle.dwg_grammar.specs.Bodies.{IsLawfulBody}
use Rattle.dwg_kinds.specs.declared.kind.Kind.{Kind}
use Rattle.dwg_object.specs.OwnBodies.{body_kind, own_body}
use Rattle.dwg_object.specs.declared.body.Body.{Body}

-- what kinds have of their own is lawful
abbrev pub OwnBodiesAreLawful : Type 0
OwnBodiesAreLawful = (version : Version) (kind : Kind) (base : ℕ) → base < 2 ^ 63 → IsLawfulBody base (own_body version kind base)

-- and is of its kind
abbrev pub OwnBodiesAreOfTheirKind : Type 0
OwnBodiesAreOfTheirKind =
    (version : Version) (kind : Kind) (base : ℕ) (value : Body) (main references : List Bool) (over : ℕ)
    → (own_body version kind base).Spells value main references over → body_kind value ≡ kind
