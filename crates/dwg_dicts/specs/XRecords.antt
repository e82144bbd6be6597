-- Records: bytes of an application, and objects that they name (Open Design Specification, "XRECORD"). That the references go to the end of the object, while a byte is left, is a rule of this project.
use Rattle.std.specs.Prelude.{ℕ, suc, Bool, List, length, Option}
use Rattle.dwg_base.specs.declared.version.Version.{Version}
use Rattle.dwg_grammar.specs.Codes.{bl, rc}
use Rattle.dwg_grammar.specs.Combinators.{◌⋄◌, counted}
use Rattle.dwg_grammar.specs.Bodies.{BodyGrammar}
use Rattle.dwg_grammar.specs.MakingBodies.{parse_to_end, to_end}
use Rattle.dwg_grammar.specs.Reference.{Reference}
use Rattle.dwg_grammar.specs.ReferenceCodes.{reference}
use Rattle.dwg_dicts.specs.Cloning.{cloning}
use Rattle.dwg_dicts.specs.declared.xrecord.XRecord.{XRecord}

-- the references that bits hold until fewer than eight are left, and these
abbrev pub all_targets : ℕ → List Bool → Option (List Reference × List Bool)
all_targets base letters = parse_to_end 8 (reference base) (suc (length letters)) letters

-- BL size and the bytes; BS cloning, in AC1014 nothing; and all references until fewer than eight bits are left
unfoldable pub xrecord_body : Version → ℕ → BodyGrammar XRecord
xrecord_body version base =
    to_end base (counted bl rc ⋄ cloning version) (λ (bytes, cloning) targets. record { bytes = bytes; cloning = cloning; targets = targets })
    (λ xrecord. (xrecord.bytes, xrecord.cloning)) (λ xrecord. xrecord.targets)
