use Rattle.dwg_grammar.proofs.BodyLemmas.{free_of_body}
use Rattle.dwg_tables.specs.AppIdBody.{app_id_body}
use Rattle.dwg_tables.specs.BlockHeaderBody.{block_header_body}
use Rattle.dwg_tables.specs.BlockHeaderLaws.{block_header_is_body}
use Rattle.dwg_tables.specs.LayerBody.{layer_body}
use Rattle.dwg_tables.specs.LtypeBody.{ltype_body}
use Rattle.dwg_tables.specs.StyleBody.{style_body}
use Rattle.dwg_tables.specs.TableLaws.{layer_is_body, style_is_body, ltype_is_body, app_id_is_body}
use Rattle.dwg_tables.proofs.laws.table_laws.Goals as goal

pub returns : goal.returns
unfolding app_id_body block_header_body layer_body ltype_body style_body
returns c = search (free_of_body, layer_is_body, style_is_body, ltype_is_body, app_id_is_body, block_header_is_body)
