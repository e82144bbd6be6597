use Rattle.dwg_base.specs.Bytes.{AreBytes}
use Rattle.dwg_grammar.proofs.CodeLemmas.{lawful_of_code}
use Rattle.dwg_objmap.specs.Pairs.{pair_after}
use Rattle.dwg_objmap.proofs.PairLemmas.{pair_is_code}
use Rattle.dwg_objmap.proofs.PageLemmas.{page_next}
use Rattle.dwg_objmap.proofs.MapLemmas.{page_is_tried, page_is_refused, map_is_tried, map_is_refused, map_is_unique}
use Rattle.dwg_objmap.proofs.laws.map_laws.Goals as goal

pub returns : goal.returns
returns c = record {
  pair = λ before fits. lawful_of_code AreBytes (pair_after before) (pair_is_code before fits);
  read = map_is_tried;
  refused = map_is_refused;
  page_read = page_is_tried;
  page_refused = page_is_refused;
  page_next = λ place next bytes pairs page. page_next bytes place pairs next page;
  unique = map_is_unique;
}
