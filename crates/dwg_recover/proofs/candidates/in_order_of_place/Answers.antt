use Rattle.std.proofs.Common.{rules}
use Rattle.std.proofs.lemmas.List.Sorted.{IsNonDecreasingBy-from_sort_by_key, answers_always}
use Rattle.dwg_recover.specs.declared.frame.Frame.{Frame}
use Rattle.dwg_recover.proofs.PlaceOrder.{sorted_in_place_order}
use Rattle.dwg_recover.proofs.candidates.in_order_of_place.Goals as goal

pub returns : goal.returns
returns c = λ most.
    sorted_in_place_order most c.args.frames.items c.sort_by_key.new.self.items c.sort_by_key.ensures.permutation
    (IsNonDecreasingBy-from_sort_by_key (λ (frame : Frame). frame.from) _ c.in_ok-sort_by_key.ensures.sorted (λ a r q k. search rules))
    (c.sort_by_key.ensures.stable (λ (frame : Frame). frame.from) (answers_always _ _ _ (λ f a r g h. search rules)))
