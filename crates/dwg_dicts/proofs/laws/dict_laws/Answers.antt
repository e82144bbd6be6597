use Rattle.dwg_grammar.proofs.BodyLemmas.{lawful_of_body, free_of_body}
use Rattle.dwg_dicts.specs.Dictionaries.{dictionary_body}
use Rattle.dwg_dicts.specs.DictLaws.{block_control_is_body, layer_control_is_body, style_control_is_body, ltype_control_is_body, appid_control_is_body, dictionary_is_body, xrecord_is_body}
use Rattle.dwg_dicts.specs.Entries.{layer_control_body, style_control_body, appid_control_body}
use Rattle.dwg_dicts.specs.EntriesAndTwo.{block_control_body, ltype_control_body}
use Rattle.dwg_dicts.specs.XRecords.{xrecord_body}
use Rattle.dwg_dicts.proofs.laws.dict_laws.Goals as goal

pub returns : goal.returns
unfolding layer_control_body style_control_body appid_control_body block_control_body ltype_control_body dictionary_body xrecord_body
returns c =
    search (
      lawful_of_body,
      free_of_body,
      layer_control_is_body,
      style_control_is_body,
      appid_control_is_body,
      block_control_is_body,
      ltype_control_is_body,
      dictionary_is_body,
      xrecord_is_body,
    )
