-- What the readers of entries of tables have read, as the parts that the grammar gives.
use Rattle.dwg_tables.specs.declared.block_header.BlockContent.{BlockContent}
use Rattle.dwg_tables.specs.declared.block_header.BlockExtras.{BlockExtras}
use Rattle.dwg_tables.specs.declared.block_header.BlockFlags.{BlockFlags}
use Rattle.dwg_tables.specs.declared.block_header.BlockNames.{BlockNames}
use Rattle.dwg_tables.specs.declared.entry.Title.{Title}
use Rattle.dwg_tables.specs.declared.ltype.Pattern.{Pattern}
use Rattle.dwg_tables.specs.declared.style.Form.{Form}
use Rattle.dwg_tables.specs.BlockHeaderBody.{FlagParts, ExtraParts, ContentParts, NameParts}
use Rattle.dwg_tables.specs.Entries.{TitleParts}
use Rattle.dwg_tables.specs.LtypeBody.{PatternParts}
use Rattle.dwg_tables.specs.StyleBody.{FormParts}

-- what an entry begins with
abbrev pub title_read : Title → TitleParts
title_read title = (title.name, (title.flag64, (title.xref_index, title.xref_dependent)))

-- the form of the letters of a text style
abbrev pub form_read : Form → FormParts
form_read form = (form.flag_a, (form.flag_b, (form.height, (form.width, (form.oblique, (form.generation, form.last_height))))))

-- what the main bits of a linetype give
abbrev pub pattern_read : Pattern → PatternParts
pattern_read pattern = (title_read pattern.title, (pattern.description, (pattern.length, (pattern.alignment, (pattern.strokes, pattern.texts)))))

-- the flags of the header of a block
abbrev pub flags_read : BlockFlags → FlagParts
flags_read flags = (flags.anonymous, (flags.has_attributes, (flags.is_xref, (flags.overlaid, flags.loaded))))

-- what AC1015 alone gives of its content
abbrev pub extras_read : BlockExtras → ExtraParts
extras_read extras = (extras.counts, (extras.description, extras.preview))

-- its content
abbrev pub content_read : BlockContent → ContentParts
content_read content = (content.base, (content.path, extras_read content.extras))

-- what it names
abbrev pub names_read : BlockNames → NameParts
names_read names = (names.xref, (names.block, (names.ends, (names.endblk, (names.targets, names.layout)))))
