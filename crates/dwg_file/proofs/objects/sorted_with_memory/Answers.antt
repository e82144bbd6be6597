use Rattle.std.proofs.Common.{rules}
use Rattle.std.proofs.lemmas.List.Sorted.{IsNonDecreasingBy-from_sort_by_key}
use Rattle.dwg_object.specs.Objects.{handle_of, value_of}
use Rattle.dwg_file.proofs.objects.sorted_with_memory.Goals as goal

pub returns-clause-ascend : goal.returns-clause-ascend
returns-clause-ascend c = IsNonDecreasingBy-from_sort_by_key (λ object. handle_of (value_of object)) _ c.in_ok-sort_by_cached_key.ensures.sorted (λ a r q k. search rules)
