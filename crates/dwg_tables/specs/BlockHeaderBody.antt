-- The header of a block (Open Design Specification, "BLOCK HEADER").
use Rattle.std.specs.Prelude.{ℕ, Bool, false, List, [], not, ◌&&◌, length, map, Option}
use Rattle.dwg_base.specs.declared.version.Version.{Version}
use Rattle.dwg_grammar.specs.Codes.{rc, bl, bd3, tv, b}
use Rattle.dwg_grammar.specs.Combinators.{◌⋄◌, counted}
use Rattle.dwg_grammar.specs.Grammar.{Grammar}
use Rattle.dwg_grammar.specs.declared.points.Point3.{Point3}
use Rattle.dwg_grammar.specs.Bodies.{BodyGrammar}
use Rattle.dwg_grammar.specs.MakingBodies.{body}
use Rattle.dwg_grammar.specs.References.{ReferencePart, one_ref, two_refs, some_refs, maybe_refs, then_refs, seen_refs}
use Rattle.dwg_grammar.specs.Reference.{Reference}
use Rattle.dwg_grammar.specs.Versions.{since_1015, ref_since_1015}
use Rattle.dwg_tables.specs.declared.block_header.BlockHeader.{BlockHeader}
use Rattle.dwg_tables.specs.declared.block_header.Ends.{Ends}
use Rattle.dwg_tables.specs.declared.block_header.InsertMark.{InsertMark}
use Rattle.dwg_tables.specs.Entries.{TitleParts, entry_main, title_of, entry_of}
use Rattle.dwg_tables.specs.InsertMarks.{mark_counts}
use Rattle.dwg_common.specs.Members.{joined}

-- the flags, in the order of their bits
abbrev pub FlagParts : Type 0
FlagParts = Bool × (Bool × (Bool × (Bool × Bool)))

-- B anonymous; B has_attributes; B is_xref; B overlaid; in AC1015 B loaded, which elsewhere is 0
unfoldable pub block_flags : Version → Grammar Bool FlagParts
block_flags version = b ⋄ b ⋄ b ⋄ b ⋄ since_1015 version false b

-- what AC1015 alone gives of the content, in the order of its bits
abbrev pub ExtraParts : Type 0
ExtraParts = List ℕ × (List ℕ × List ℕ)

-- the counts of its marks; TV description; BL size of the preview and so many bytes
unfoldable pub newer_extras : Grammar Bool ExtraParts
newer_extras = mark_counts ⋄ tv ⋄ counted bl rc

-- in AC1014 they aren't there, and all three are empty
abbrev pub NO_EXTRAS : ExtraParts
NO_EXTRAS = ([], ([], []))

abbrev pub block_extras : Version → Grammar Bool ExtraParts
block_extras version = since_1015 version NO_EXTRAS newer_extras

-- the content, in the order of its bits
abbrev pub ContentParts : Type 0
ContentParts = Point3 × (List ℕ × ExtraParts)

-- 3BD base; TV path; in AC1015 the counts of its marks, TV description, BL size of the preview and so many bytes
unfoldable pub block_content : Version → Grammar Bool ContentParts
block_content version = bd3 ⋄ tv ⋄ block_extras version

-- the entry's; the flags; the content
abbrev pub block_main : Version → Grammar Bool (TitleParts × (FlagParts × ContentParts))
block_main version = entry_main ⋄ block_flags version ⋄ block_content version

-- its entities are in this drawing: it is no external reference and no overlaid one
abbrev pub has_ends : Bool → Bool → Bool
has_ends is_xref overlaid = not is_xref && not overlaid

-- first, last
abbrev pub block_ends : ℕ → ReferencePart Ends
block_ends base = seen_refs (λ (first, last). record { first = first; last = last }) (λ ends. (ends.first, ends.last)) (two_refs base)

-- what a block names, in the order of its references
abbrev pub NameParts : Type 0
NameParts = Reference × (Reference × (Option Ends × (Reference × (List Reference × Reference))))

-- xref; block; where it is neither is_xref nor overlaid first and last; endblk; the target of each mark, of which AC1014 gives none; in AC1015 layout
abbrev pub block_refs : Version → ℕ → FlagParts × ContentParts → ReferencePart NameParts
block_refs version base ((anonymous, (has_attributes, (is_xref, (overlaid, loaded)))), (origin, (path, (counts, (description, preview))))) =
    then_refs (one_ref base)
    (then_refs (one_ref base)
    (then_refs (maybe_refs (has_ends is_xref overlaid) (block_ends base))
    (then_refs (one_ref base)
    (then_refs (some_refs base (length counts)) (ref_since_1015 version base)))))

-- what the main bits of a mark give, what it names, and the mark of both
abbrev pub count_of : InsertMark → ℕ
count_of mark = mark.count

abbrev pub target_of : InsertMark → Reference
target_of mark = mark.target

abbrev pub mark_of : ℕ → Reference → InsertMark
mark_of count target = record { count = count; target = target }

-- what the main bits of a header give, and what it names
abbrev pub flags_of : BlockHeader → FlagParts
flags_of header = (header.anonymous, (header.has_attributes, (header.is_xref, (header.overlaid, header.loaded))))

abbrev pub extras_of : BlockHeader → ExtraParts
extras_of header = (map count_of header.inserts, (header.description, header.preview))

abbrev pub content_of : BlockHeader → ContentParts
content_of header = (header.base, (header.path, extras_of header))

abbrev pub names_of : BlockHeader → NameParts
names_of header = (header.entry.xref, (header.block, (header.ends, (header.endblk, (map target_of header.inserts, header.layout)))))

-- a header from these
abbrev pub header_of : TitleParts × (FlagParts × ContentParts) → NameParts → BlockHeader
header_of (title, ((anonymous, (has_attributes, (is_xref, (overlaid, loaded)))), (base, (path, (counts, (description, preview))))))
    (xref, (block, (ends, (endblk, (targets, layout))))) = record {
      entry = entry_of title xref;
      anonymous = anonymous;
      has_attributes = has_attributes;
      is_xref = is_xref;
      overlaid = overlaid;
      loaded = loaded;
      base = base;
      path = path;
      inserts = joined mark_of counts targets;
      description = description;
      preview = preview;
      block = block;
      ends = ends;
      endblk = endblk;
      layout = layout;
    }

-- the main bits, and the references
unfoldable pub block_header_body : Version → ℕ → BodyGrammar BlockHeader
block_header_body version base =
    body (block_main version) (λ parsed. block_refs version base parsed.1) header_of (λ header. (title_of header.entry, (flags_of header, content_of header))) names_of
