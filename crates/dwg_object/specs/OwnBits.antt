-- A kind's own bits and own references: when they are wholly what it has of its own, but for fewer than eight bits.
use Rattle.std.proofs.Common.{ℕ, ◌<◌, Bool, List, [], length}
use Rattle.dwg_base.specs.declared.version.Version.{Version}
use Rattle.dwg_grammar.specs.Bodies.{BeginsWithBody}
use Rattle.dwg_kinds.specs.declared.kind.Kind.{Kind}
use Rattle.dwg_object.specs.declared.body.Body.{Body}
use Rattle.dwg_object.specs.OwnBodies.{own_body}

-- own bits and own references are wholly what a kind has of its own, but for fewer than eight bits
pub record AreOwn (version : Version) (kind : Kind) (handle : ℕ) (value : Body) (own after left : List Bool) : Type 0 where
  pub begins : BeginsWithBody (own_body version kind handle) value own [] after left
  pub few : length left < 8

-- own bits and own references are those of some value
pub record HasOwn (version : Version) (kind : Kind) (handle : ℕ) (own after : List Bool) : Type 0 where
  pub value : Body
  pub left : List Bool
  pub are : AreOwn version kind handle value own after left
