-- Sets of laws: by them it is searched that what is made of codes is a code, what is made of references a part of the references, and what is made of both a body. A rule of this project.
use Rattle.dwg_grammar.proofs.CombinatorLemmas.{any_letters_closed, always_is_code, seq_is_code, restrict_is_code}
use Rattle.dwg_grammar.proofs.DefaultLemmas.{dd_is_code}
use Rattle.dwg_grammar.proofs.ListLemmas.{items_is_code, counted_is_code, when_is_code}
use Rattle.dwg_grammar.proofs.MadeBodies.{body_is_body}
use Rattle.dwg_grammar.proofs.NumberLemmas.{bb_is_code, rc_is_code, rs_is_code, rl_is_code, rd_is_code}
use Rattle.dwg_grammar.proofs.PointLemmas.{rd2_is_code, dd2_of_read}
use Rattle.dwg_grammar.proofs.ReferenceLemmas.{reference_is_code}
use Rattle.dwg_grammar.proofs.ReferenceParts.{one_is_part, two_is_part, some_is_part, maybe_is_part, then_is_part, none_is_part, seen_is_part}
use Rattle.dwg_grammar.proofs.Shaped.{shaped_is_code}
use Rattle.dwg_grammar.proofs.TableLemmas.{bs_is_code, bl_is_code, bd_is_code, bt_is_code, bd3_is_code, be_is_code, tv_is_code}
use Rattle.dwg_grammar.proofs.TruthCode.{b_is_code}
use Rattle.dwg_grammar.proofs.VersionLemmas.{in_version_is_code, given_is_code, ref_since_is_part, thickness_is_code, extrusion_is_code}

-- what is made of codes, and the codes of the table
pub ruleset codes = (seq_is_code, any_letters_closed, shaped_is_code, items_is_code, counted_is_code, when_is_code, restrict_is_code, b_is_code, bb_is_code, rc_is_code, rs_is_code, rl_is_code, rd_is_code, rd2_is_code, bs_is_code, bl_is_code, bd_is_code, bt_is_code, bd3_is_code, be_is_code, tv_is_code, reference_is_code)

-- the codes against a default
pub ruleset default_codes = (dd_is_code, dd2_of_read)

-- what is another in each version, and what one of them lacks
pub ruleset versions = (in_version_is_code, given_is_code, always_is_code, thickness_is_code, extrusion_is_code)

-- what is made of references
pub ruleset parts = (ref_since_is_part, then_is_part, seen_is_part, maybe_is_part, one_is_part, two_is_part, some_is_part, none_is_part)

-- and bodies of both
pub ruleset bodies = (body_is_body, codes, parts)
