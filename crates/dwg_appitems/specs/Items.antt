-- The grammar of the items of extended data: a byte that says the code, and what follows it. A rule of this project.
use Rattle.std.specs.Prelude.{◌≡◌, ⊤, ℕ, ◌^◌, ◌<◌, ◌&&◌, ◌==◌, Bool, List, [], length, Option, Some, None, nat_lt, nat_le, option_map, if◌then◌else◌}
use Rattle.std.specs.Option.{option_map_or}
use Rattle.dwg_grammar.specs.Codes.{rc, rs, rl, rd, IsPoint3}
use Rattle.dwg_grammar.specs.Combinators.{fixed, never, seq, choose, image, restrict, items, counted, tagged}
use Rattle.dwg_grammar.specs.Grammar.{Grammar}
use Rattle.dwg_grammar.specs.declared.points.Point3.{Point3}
use Rattle.dwg_appitems.specs.declared.item.AppItem.{AppItem}
use Rattle.dwg_appitems.specs.declared.item.AppItem.TheVariants.{Text, Brace, Layer, Bytes, Object, Point, Word, Short, Long}

-- a code as one variant of an enum, whose part a function reports where a value is that variant
abbrev pub variant : {V W : Type 0} → (V → W) → (W → Option V) → Grammar Bool V → Grammar Bool W
variant {V} {W} into inside code = record {
  Spells = λ value letters. (held : V) × (value ≡ into held) × code.Spells held letters;
  IsValue = λ value. (held : V) × (value ≡ into held) × code.IsValue held;
  parse = λ letters. option_map (λ (found : V × List Bool). (into found.0, found.1)) (code.parse letters);
  short = λ value. option_map_or code.short (inside value) [];
}

-- a handle: eight bytes, the most significant first
abbrev pub handle : Grammar Bool ℕ
handle = fixed 64

-- RC n, two bytes of mark, n bytes
abbrev pub marked_text : Grammar Bool (List ℕ × List ℕ)
marked_text =
    image (λ both. (items rc 2).IsValue both.0 × (items rc (length both.1)).IsValue both.1 × (length both.1 < 2 ^ 8))
    (λ parts. (parts.1.0, parts.1.1)) (λ both. (length both.1, (both.0, both.1)))
    (seq rc (λ n. seq (items rc 2) (λ mark. items rc n)))

-- 0 or 1, of which 1 closes
abbrev pub closing : Grammar Bool Bool
closing = image (λ close. ⊤) (λ byte. byte == 1) (λ close. if close then 1 else 0) (restrict (λ byte. nat_lt byte 2) rc)

-- three RDs
abbrev pub words_of_point : Grammar Bool Point3
words_of_point =
    image IsPoint3 (λ words. record { x = words.0; y = words.1.0; z = words.1.1 }) (λ point. (point.x, (point.y, point.z))) (seq rd (λ x. seq rd (λ y. rd)))

-- what an item of each variant holds
abbrev pub text_in : AppItem → Option (List ℕ × List ℕ)
text_in (Text mark text) = Some (mark, text)
text_in other = None

abbrev pub brace_in : AppItem → Option Bool
brace_in (Brace close) = Some close
brace_in other = None

abbrev pub layer_in : AppItem → Option ℕ
layer_in (Layer named) = Some named
layer_in other = None

abbrev pub bytes_in : AppItem → Option (List ℕ)
bytes_in (Bytes bytes) = Some bytes
bytes_in other = None

abbrev pub object_in : AppItem → Option ℕ
object_in (Object named) = Some named
object_in other = None

abbrev pub point_in : AppItem → Option Point3
point_in (Point code words) = Some words
point_in other = None

abbrev pub word_in : AppItem → Option ℕ
word_in (Word code value) = Some value
word_in other = None

abbrev pub short_in : AppItem → Option ℕ
short_in (Short value) = Some value
short_in other = None

abbrev pub long_in : AppItem → Option ℕ
long_in (Long value) = Some value
long_in other = None

-- what follows a code byte: 0 a text; 2 a brace; 3 a layer; 4 bytes; 5 an object; 10 to 13 a point; 40 to 42 a word; 70 RS; 71 RL; nothing follows any other
unfoldable pub item_by : ℕ → Grammar Bool AppItem
item_by code =
    choose (code == 0) (variant (λ both. Text both.0 both.1) text_in marked_text)
    (choose (code == 2) (variant Brace brace_in closing)
    (choose (code == 3) (variant Layer layer_in handle)
    (choose (code == 4) (variant Bytes bytes_in (counted rc rc))
    (choose (code == 5) (variant Object object_in handle)
    (choose (nat_le 10 code && nat_le code 13) (variant (Point code) point_in words_of_point)
    (choose (nat_le 40 code && nat_le code 42) (variant (Word code) word_in rd)
    (choose (code == 70) (variant Short short_in rs)
    (choose (code == 71) (variant Long long_in rl)
    never))))))))

-- the code byte of an item
abbrev pub code_of : AppItem → ℕ
code_of (Text mark text) = 0
code_of (Brace close) = 2
code_of (Layer named) = 3
code_of (Bytes bytes) = 4
code_of (Object named) = 5
code_of (Point code words) = code
code_of (Word code value) = code
code_of (Short value) = 70
code_of (Long value) = 71

-- an item: its code byte, and what follows it
unfoldable pub item : Grammar Bool AppItem
item = tagged rc item_by (λ value. (code_of value < 2 ^ 8) × (item_by (code_of value)).IsValue value) code_of
