-- What becomes of an object of a name that is there already when dictionaries are merged (Open Design Specification, "DICTIONARY" and "XRECORD"). Its weight in AC1014 is a rule of this project.
use Rattle.std.specs.Prelude.{ℕ, Bool}
use Rattle.dwg_base.specs.declared.version.Version.{Version}
use Rattle.dwg_grammar.specs.Codes.{bs}
use Rattle.dwg_grammar.specs.Grammar.{Grammar}
use Rattle.dwg_grammar.specs.Versions.{since_1015}

-- BS cloning; in AC1014 nothing, and it is 0
abbrev pub cloning : Version → Grammar Bool ℕ
cloning version = since_1015 version 0 bs
