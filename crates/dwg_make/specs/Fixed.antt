-- The objects that every made drawing has: controls, table entries, both spaces, a block with an attribute definition, and an insert of it. A rule of this project.
use Rattle.std.specs.Prelude.{ℕ, ◌+◌, Bool, true, false, List, [], ◌∷◌, ◌++◌, Some, codes, replicate}
use Rattle.dwg_grammar.specs.Codes.{ONE, UPWARD}
use Rattle.dwg_object.specs.Objects.{ObjectValue}
use Rattle.dwg_object.specs.declared.body.Body.{Body}
use Rattle.dwg_object.specs.declared.body.Body.TheVariants as bodies
use Rattle.dwg_tables.specs.declared.block_header.BlockHeader.{BlockHeader}
use Rattle.dwg_tables.specs.declared.block_header.InsertMark.{InsertMark}
use Rattle.dwg_tables.specs.declared.style.Style.{Style}
use Rattle.dwg_make.specs.Parts.{soft_owner, hard_owner, soft_pointer, hard_pointer, flat_point, point, ORIGIN, other_object, links, model_entity, paper_entity, owned_entity, entry, plain_text}

-- the control of the blocks
unfoldable pub block_control : ObjectValue
block_control = other_object 48 0x1 0 (bodies.BlockControl (record { entries = soft_owner 0x20 ∷ []; model = hard_owner 0x18; paper = hard_owner 0x1B }))

-- the controls of layers, text styles, linetypes and applications
unfoldable pub layer_control : ObjectValue
layer_control = other_object 50 0x2 0 (bodies.LayerControl (record { entries = soft_owner 0x10 ∷ soft_owner 0x17 ∷ [] }))

unfoldable pub style_control : ObjectValue
style_control = other_object 52 0x3 0 (bodies.StyleControl (record { entries = soft_owner 0x11 ∷ [] }))

unfoldable pub ltype_control : ObjectValue
ltype_control = other_object 56 0x5 0 (bodies.LtypeControl (record { entries = soft_owner 0x16 ∷ []; first = hard_owner 0x14; second = hard_owner 0x15 }))

unfoldable pub appid_control : ObjectValue
appid_control = other_object 66 0x9 0 (bodies.AppIdControl (record { entries = soft_owner 0x12 ∷ [] }))

-- a dictionary of one item, by its handle, owner, and the item's name and handle
unfoldable pub dictionary : ℕ → ℕ → List ℕ → ℕ → ObjectValue
dictionary handle owner name item =
    other_object 42 handle owner (bodies.Dictionary (record { cloning = 0; hard_owner = 0; items = record { name = name; target = soft_owner item } ∷ [] }))

-- a record of three bytes that names layer 10
unfoldable pub xrecord : ObjectValue
xrecord = other_object 79 0xE 0xD (bodies.XRecord (record { bytes = 1 ∷ 2 ∷ 3 ∷ []; cloning = 0; targets = soft_pointer 0x10 ∷ [] }))

-- a layer, by its handle, name and colour
unfoldable pub layer : ℕ → List ℕ → ℕ → ObjectValue
layer handle name colour =
    other_object 51 handle 0x2 (bodies.Layer (record { entry = entry name; values = 0; colour = colour; plotstyle = hard_pointer 0; linetype = hard_pointer 0x16 }))

-- what a text style reports, by its name and the file of its letters
abbrev pub style_of : List ℕ → List ℕ → Style
style_of name font = record {
  entry = entry name;
  flag_a = false;
  flag_b = false;
  height = 0;
  width = ONE;
  oblique = 0;
  generation = 0;
  last_height = 0;
  font = font;
  big_font = [];
}

-- the text style
unfoldable pub style : ObjectValue
style = other_object 53 0x11 0x3 (bodies.Style (style_of (codes "STANDARD") (codes "txt")))

-- the application
unfoldable pub appid : ObjectValue
appid = other_object 67 0x12 0x9 (bodies.AppId (record { entry = entry (codes "ACAD"); extra = 0 }))

-- a linetype without dashes, by its handle and name
unfoldable pub ltype : ℕ → List ℕ → ObjectValue
ltype handle name =
    other_object 57 handle 0x5 (bodies.Ltype (record { entry = entry name; description = []; length = 0; alignment = 65; dashes = []; texts = replicate 256 0 }))

-- what the header of a block reports, by its name, whether it has attributes, marks, begin, first and last entity, and end
abbrev pub header_of : List ℕ → Bool → List InsertMark → ℕ → ℕ → ℕ → ℕ → BlockHeader
header_of name has_attributes inserts block first last endblk = record {
  entry = entry name;
  anonymous = false;
  has_attributes = has_attributes;
  is_xref = false;
  overlaid = false;
  loaded = false;
  base = ORIGIN;
  path = [];
  inserts = inserts;
  description = [];
  preview = [];
  block = hard_owner block;
  ends = Some (record { first = soft_pointer first; last = soft_pointer last });
  endblk = hard_owner endblk;
  layout = hard_pointer 0;
}

-- the header of a block, by its handle and what it reports
unfoldable pub block_header : ℕ → List ℕ → Bool → List InsertMark → ℕ → ℕ → ℕ → ℕ → ObjectValue
block_header handle name has_attributes inserts block first last endblk =
    other_object 49 handle 0x1 (bodies.BlockHeader (header_of name has_attributes inserts block first last endblk))

-- the begin of a block
abbrev pub begin_of : List ℕ → Body
begin_of name = bodies.Block (record { name = name })

-- the definition of an attribute in the block TAG
unfoldable pub attribute_definition : ObjectValue
attribute_definition =
    owned_entity 3 0x22 0x20 (links 0 0x23) (bodies.Attdef (record {
      attrib = record { text = plain_text (flat_point 0 0) ONE []; tag = codes "NO"; length = 0; flags = 0 };
      prompt = codes "Number";
    }))

-- the line in the block TAG
unfoldable pub line_of_block : ObjectValue
line_of_block =
    owned_entity 19 0x23 0x20 (links 0x22 0) (bodies.Line (record { start = ORIGIN; end = point ONE 0 0; thickness = 0; extrusion = UPWARD }))

-- the attribute of the insert
unfoldable pub attribute : ObjectValue
attribute =
    owned_entity 2 0x2E 0x30 (links 0 0) (bodies.Attrib (record { text = plain_text (flat_point 0 0) ONE (codes "A1"); tag = codes "NO"; length = 0; flags = 0 }))

-- the insert of the block TAG in the model space
unfoldable pub insert : ObjectValue
insert =
    model_entity 7 0x30 (Some (links 0 0x31)) 0x10 (bodies.Insert (record {
      place = ORIGIN;
      scale = point ONE ONE ONE;
      rotation = 0;
      extrusion = UPWARD;
      block = hard_pointer 0x20;
      attributes = Some (record { first = soft_pointer 0x2E; last = soft_pointer 0x2E; seqend = hard_owner 0x2F });
    }))

-- the objects by groups, in order of handle: the controls
unfoldable pub controls : List ObjectValue
controls = block_control ∷ layer_control ∷ style_control ∷ ltype_control ∷ appid_control ∷ []

-- the dictionaries and the record that they lead to
unfoldable pub dictionaries : List ObjectValue
dictionaries = dictionary 0xC 0 (codes "NOTES") 0xD ∷ dictionary 0xD 0xC (codes "FIRST") 0xE ∷ xrecord ∷ []

-- the linetypes
unfoldable pub by_block : ObjectValue
by_block = ltype 0x14 (codes "BYBLOCK")

unfoldable pub by_layer : ObjectValue
by_layer = ltype 0x15 (codes "BYLAYER")

unfoldable pub continuous : ObjectValue
continuous = ltype 0x16 (codes "CONTINUOUS")

-- the table entries beside the blocks
unfoldable pub table_entries : List ObjectValue
table_entries = layer 0x10 (codes "0") 7 ∷ style ∷ appid ∷ by_block ∷ by_layer ∷ continuous ∷ layer 0x17 (codes "WALLS") 1 ∷ []

-- the model space, where so many entities follow
unfoldable pub model_header : ℕ → ObjectValue
model_header count = block_header 0x18 (codes "*MODEL_SPACE") false [] 0x19 0x30 (0x30 + count) 0x1A

unfoldable pub model_begin : ObjectValue
model_begin = model_entity 4 0x19 (Some (links 0 0)) 0x10 (begin_of (codes "*MODEL_SPACE"))

unfoldable pub model_end : ObjectValue
model_end = model_entity 5 0x1A (Some (links 0 0)) 0x10 (bodies.EndBlk (record {}))

unfoldable pub model_space : ℕ → List ObjectValue
model_space count = model_header count ∷ model_begin ∷ model_end ∷ []

-- the paper space
unfoldable pub paper_header : ObjectValue
paper_header = block_header 0x1B (codes "*PAPER_SPACE") false [] 0x1C 0 0 0x1D

unfoldable pub paper_begin : ObjectValue
paper_begin = paper_entity 4 0x1C (begin_of (codes "*PAPER_SPACE"))

unfoldable pub paper_end : ObjectValue
paper_end = paper_entity 5 0x1D (bodies.EndBlk (record {}))

unfoldable pub paper_space : List ObjectValue
paper_space = paper_header ∷ paper_begin ∷ paper_end ∷ []

-- the block TAG
unfoldable pub tag_header : ObjectValue
tag_header = block_header 0x20 (codes "TAG") true (record { count = 1; target = soft_pointer 0x30 } ∷ []) 0x21 0x22 0x23 0x24

unfoldable pub tag_begin : ObjectValue
tag_begin = owned_entity 4 0x21 0x20 (links 0 0) (begin_of (codes "TAG"))

unfoldable pub tag_end : ObjectValue
tag_end = owned_entity 5 0x24 0x20 (links 0 0) (bodies.EndBlk (record {}))

unfoldable pub tag_block : List ObjectValue
tag_block = tag_header ∷ tag_begin ∷ attribute_definition ∷ line_of_block ∷ tag_end ∷ []

-- the insert of the block, after what belongs to it
unfoldable pub attributes_end : ObjectValue
attributes_end = owned_entity 6 0x2F 0x30 (links 0 0) (bodies.SeqEnd (record {}))

unfoldable pub tag_insert : List ObjectValue
tag_insert = attribute ∷ attributes_end ∷ insert ∷ []

-- all of them, where so many entities follow
unfoldable pub fixed_objects : ℕ → List ObjectValue
fixed_objects count = controls ++ dictionaries ++ table_entries ++ model_space count ++ paper_space ++ tag_block ++ tag_insert
