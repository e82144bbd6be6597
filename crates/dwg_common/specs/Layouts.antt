-- How the bits of a part of an object are laid out: in which version, and with which bit size. A rule of this project.
use Rattle.std.specs.Prelude.{◌≡◌, ◌↔◌, ℕ, length}
use Rattle.dwg_base.specs.declared.version.Version.TheVariants.{Ac1014, Ac1015}
use Rattle.dwg_common.specs.declared.bit_layout.Layout.{Layout}
use Rattle.dwg_grammar.specs.Bodies.{BodyGrammar}

-- in AC1015, where no part gives the bit size
abbrev pub NEWER : Layout
NEWER = record { version = Ac1015; size = 0 }

-- in AC1014
abbrev pub older : ℕ → Layout
older size = record { version = Ac1014; size = size }

-- two grammars of a part take a value alike: it fits by both or by neither, and is written by as many main bits and by the same reference bits
pub record WritesAlike {V : Type 0} (body other : BodyGrammar V) (value : V) : Type 0 where
  pub fits : body.Fits value ↔ other.Fits value
  pub main : length (body.short_main value) ≡ length (other.short_main value)
  pub references : body.short_references value ≡ other.short_references value
