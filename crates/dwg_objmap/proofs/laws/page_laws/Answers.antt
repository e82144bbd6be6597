use Rattle.dwg_objmap.proofs.WalkingLemmas.{longest_leading, longest_is_unique, whole_is_leading, page_gives, size_is}
use Rattle.dwg_objmap.proofs.laws.page_laws.Goals as goal

pub returns : goal.returns
returns c = record {
  longest = longest_leading;
  unique = longest_is_unique;
  whole = whole_is_leading;
  page = page_gives;
  size = size_is;
}
