-- The header of a block meets the laws of bodies.
use Rattle.std.proofs.Common.{◌≡◌, refl, sym, ap, subst, arith, ℕ, ◌^◌, ◌<◌}
use Rattle.dwg_base.specs.declared.version.Version.{Version}
use Rattle.dwg_base.specs.declared.version.Version.TheVariants.{Ac1014, Ac1015}
use Rattle.dwg_grammar.specs.Codes.{tv}
use Rattle.dwg_grammar.specs.Combinators.{chain, until}
use Rattle.dwg_grammar.specs.Bodies.{IsBody}
use Rattle.dwg_grammar.specs.Grammar.{IsCode, AnyLetters}
use Rattle.dwg_grammar.specs.Reference.{reaches}
use Rattle.dwg_grammar.specs.ReferenceCodes.{reference}
use Rattle.dwg_grammar.specs.References.{IsReferencePart}
use Rattle.dwg_tables.specs.InsertMarks.{mark_counts}
use Rattle.dwg_tables.specs.declared.block_header.BlockHeader.{BlockHeader}
use Rattle.dwg_tables.specs.BlockHeaderBody.{FlagParts, ExtraParts, ContentParts, NameParts, block_flags, newer_extras, block_extras, block_content, block_ends, block_refs, count_of, target_of, mark_of, flags_of, content_of, names_of, header_of, block_header_body}
use Rattle.dwg_tables.specs.Entries.{TitleParts, entry_main, title_of}
use Rattle.dwg_tables.specs.InsertMarkLaws.{mark_counts_is_code}
use Rattle.dwg_common.specs.LawSets.{codes, parts, bodies, versions}
use Rattle.dwg_common.proofs.MemberLemmas.{parsed_of_joined, names_of_joined, joined_again}

-- its entities are a part of the references
pub ends_is_part : (base : ℕ) → base < 2 ^ 63 → IsReferencePart base (block_ends base)
ends_is_part base small = search parts

-- what AC1015 alone gives is a code in each version
block_extras_is_code : (version : Version) → IsCode AnyLetters (block_extras version)
unfolding newer_extras
block_extras_is_code version = search (codes, versions, mark_counts_is_code)

-- what is put together of a header is given by it
header_parsed : (version : Version) (base : ℕ) (parsed : TitleParts × (FlagParts × ContentParts)) (names : NameParts) → (block_refs version base parsed.1).grammar.IsValue names
    → (◌≡◌ {A = TitleParts × (FlagParts × ContentParts)}
    (title_of (header_of parsed names).entry, (flags_of (header_of parsed names), content_of (header_of parsed names))) parsed)
    × (names_of (header_of parsed names) ≡ names)
unfolding chain
header_parsed version base parsed names fits = (
  rw (parsed_of_joined mark_of count_of (λ count target. refl) parsed.1.1.1.1.0 names.1.1.1.1.0 fits.1.1.1.1.0.0),
  rw (names_of_joined mark_of target_of (λ count target. refl) parsed.1.1.1.1.0 names.1.1.1.1.0 fits.1.1.1.1.0.0),
)

-- and it is put together of these
header_again : (header : BlockHeader) → header_of (title_of header.entry, (flags_of header, content_of header)) (names_of header) ≡ header
header_again header = rw (joined_again mark_of count_of target_of (λ mark. refl) header.inserts)

-- the header of a block is a body
pub block_header_is_body : (version : Version) (base : ℕ) → base < 2 ^ 63 → IsBody base (block_header_body version base)
unfolding block_header_body entry_main block_flags block_content
block_header_is_body version base small = search (bodies, versions, block_extras_is_code, header_parsed, header_again) depth 16

-- what AC1014 can spell of the header of a block, AC1015 can
extras_narrower : (extras : ExtraParts) → (block_extras Ac1014).IsValue extras → (block_extras Ac1015).IsValue extras
unfolding newer_extras mark_counts until tv
extras_narrower extras none = subst newer_extras.IsValue (sym none) (tt, ((omega arith, tt), (omega arith, tt)))

pub block_header_narrower : (base : ℕ) (header : BlockHeader) → (block_header_body Ac1014 base).Fits header → (block_header_body Ac1015 base).Fits header
unfolding block_header_body block_flags block_content reference
block_header_narrower base header fits = (
  (fits.0.0, ((fits.0.1.0.0, (fits.0.1.0.1.0, (fits.0.1.0.1.1.0, (fits.0.1.0.1.1.1.0, tt)))), (fits.0.1.1.0, (fits.0.1.1.1.0, extras_narrower (content_of header).1.1 fits.0.1.1.1.1)))),
  (fits.1.0, (fits.1.1.0, (fits.1.1.1.0, (fits.1.1.1.1.0, (fits.1.1.1.1.1.0, ap (reaches base) fits.1.1.1.1.1.1))))),
)
