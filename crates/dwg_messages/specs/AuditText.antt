-- The text of an audit. A rule of this project.
use Rattle.std.specs.Prelude.{ℕ, List, ◌++◌, codes, decimal, flat_map, Option, Some, None}
use Rattle.dwg_audit.specs.declared.finding.Finding.{Finding}
use Rattle.dwg_audit.specs.declared.finding.Rule.{Rule}
use Rattle.dwg_audit.specs.declared.finding.Rule.TheVariants as rules
use Rattle.dwg_kinds.specs.declared.field.Field.{Field}
use Rattle.dwg_kinds.specs.Needs.{field_name}
use Rattle.dwg_text.specs.Lines.{line}
use Rattle.dwg_text.specs.Values.{upper_digits}
use Rattle.dwg_messages.specs.Verdict.{verdict}

-- the word of a rule
unfoldable pub rule_word : Rule → List ℕ
rule_word rules.Control = codes "control"
rule_word rules.Resolve = codes "resolve"
rule_word rules.Claim = codes "claim"
rule_word rules.Chain = codes "chain"
rule_word rules.Path = codes "path"

-- the name of a field, a hyphen where there is none
unfoldable pub field_text : Option Field → List ℕ
field_text None = codes "-"
field_text (Some field) = field_name field

-- what a finding says
unfoldable pub finding_line : Finding → List ℕ
finding_line finding =
    line (codes "finding " ++ upper_digits finding.handle ++ codes " " ++ rule_word finding.rule ++ codes " " ++ field_text finding.field
    ++ codes " " ++ decimal finding.position ++ codes " " ++ upper_digits finding.target)

-- the findings in their order, and the verdict: whether the references hold together
unfoldable pub audit_text : List Finding → List ℕ
audit_text findings = flat_map finding_line findings ++ verdict (codes "audit") findings
