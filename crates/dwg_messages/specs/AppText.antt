-- The text of the extended data of a drawing. A rule of this project.
use Rattle.std.specs.Prelude.{ℕ, ◌+◌, List, ◌++◌, length, codes, decimal, flat_map, Option, Some, None}
use Rattle.dwg_appitems.specs.AppFindings.{apps_of, items_in}
use Rattle.dwg_appitems.specs.declared.finding.AppFinding.{AppFinding}
use Rattle.dwg_appitems.specs.declared.item.AppItem.{AppItem}
use Rattle.dwg_appitems.specs.declared.item.AppItem.TheVariants.{Text, Brace, Layer, Bytes, Object, Point, Word, Short, Long}
use Rattle.dwg_common.specs.declared.app_data.AppData.{AppData}
use Rattle.dwg_grammar.specs.Reference.{Reference}
use Rattle.dwg_object.specs.Objects.{ObjectValue, handle_of}
use Rattle.dwg_text.specs.Numbered.{numbered}
use Rattle.dwg_text.specs.Values.{upper_digits, word_text, point3_text, reference_text, bytes_text}
use Rattle.dwg_text.specs.Lines.{line, truth, quoted}
use Rattle.dwg_messages.specs.Verdict.{verdict}

-- the code of an item as it is printed: one thousand more than its code byte
abbrev pub code_text : ℕ → List ℕ
code_text code = decimal (1000 + code)

-- an item
unfoldable pub item_line : AppItem → List ℕ
item_line (Text mark text) = line (codes "  text " ++ bytes_text mark ++ codes " " ++ quoted text)
item_line (Brace close) = line (codes "  brace " ++ truth close)
item_line (Layer named) = line (codes "  layer " ++ upper_digits named)
item_line (Bytes bytes) = line (codes "  bytes " ++ bytes_text bytes)
item_line (Object named) = line (codes "  object " ++ upper_digits named)
item_line (Point code words) = line (codes "  point " ++ code_text code ++ codes " " ++ point3_text words)
item_line (Word code value) = line (codes "  word " ++ code_text code ++ codes " " ++ word_text value)
item_line (Short value) = line (codes "  short " ++ decimal value)
item_line (Long value) = line (codes "  long " ++ decimal value)

-- whose application data of which number it is, and of which application
unfoldable pub app_prefix : ℕ → ℕ → Reference → List ℕ
app_prefix handle index application = codes "app " ++ upper_digits handle ++ codes " " ++ decimal index ++ codes " " ++ reference_text application ++ codes " "

-- how many items there are, and these
unfoldable pub items_text : List AppItem → List ℕ
items_text items = line (decimal (length items)) ++ flat_map item_line items

-- what bytes are: items, or bytes that are no items
unfoldable pub bytes_or_items : List ℕ → Option (List AppItem) → List ℕ
bytes_or_items bytes None = line (codes "raw " ++ bytes_text bytes)
bytes_or_items bytes (Some items) = items_text items

unfoldable pub app_after : List ℕ → List ℕ
app_after bytes = bytes_or_items bytes (items_in bytes)

-- the application data of a number of an object
unfoldable pub app_text : ℕ → ℕ → AppData → List ℕ
app_text handle index app = app_prefix handle index app.application ++ app_after app.bytes

-- the application data of an object
unfoldable pub apps_text : ObjectValue → List ℕ
apps_text object = numbered (app_text (handle_of object)) 0 (apps_of object)

-- what a finding says
unfoldable pub app_finding_line : AppFinding → List ℕ
app_finding_line finding =
    line (codes "finding " ++ upper_digits finding.handle ++ codes " app " ++ decimal finding.index ++ codes " " ++ decimal finding.item
    ++ codes " " ++ upper_digits finding.target)

-- the findings in their order, and the verdict: whether what items refer to is there
unfoldable pub findings_text : List AppFinding → List ℕ
findings_text findings = flat_map app_finding_line findings ++ verdict (codes "appdata") findings

-- the application data of all objects, the findings in their order, and the verdict
unfoldable pub appdata_text : List ObjectValue → List AppFinding → List ℕ
appdata_text objects findings = flat_map apps_text objects ++ findings_text findings
