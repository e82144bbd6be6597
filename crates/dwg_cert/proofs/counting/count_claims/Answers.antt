use Rattle.std.proofs.Common.{◌<◌, ◌^◌, refl, sym, ap, ◌∙◌, map, arith}
use Rattle.std.proofs.lemmas.List.{drop_all, length-map}
use Rattle.std.specs.List.{list_all}
use Rattle.dwg_base.proofs.OneOfAll.{one_of_all}
use Rattle.dwg_cert.proofs.Checking.{all_fail, all_further, few_slots}
use Rattle.dwg_cert.specs.Checked.{are_met}
use Rattle.dwg_graph.proofs.Counting.{value_there}
use Rattle.dwg_graph.proofs.HolderLoops.{none_counted, one_counted, still_open, both_counted}
use Rattle.dwg_graph.specs.Claimed.{reference_count}
use Rattle.dwg_object.specs.Objects.{value_of}
use Rattle.dwg_object.specs.Written.{IsWhole}
use Rattle.dwg_cert.proofs.counting.count_claims.Goals as goal

pub holders-init : goal.holders-init
holders-init c = record {
  counted = none_counted c.args.objects.now c.args.known.now c.in_ok-claimed.claimed c.in_ok-claimed.ensures.all c.in_ok-claimed.ensures.own;
  left = refl;
}

pub count_holder-requires-clause-held : goal.count_holder-requires-clause-held
count_holder-requires-clause-held c slot inside =
    let x = value_of c.holder-item.result in
    let there = value_there c.args.objects.now c.holders.holder-index c.holder-item.result c.holders-test.true c.holder-item.is in
    c.slot_laws.ensures.held x slot (one_of_all IsWhole (map value_of c.args.objects.now) c.holders.holder-index x c.requires.can.whole there) inside

pub count_holder-requires-clause-few : goal.count_holder-requires-clause-few
count_holder-requires-clause-few c =
    let few : reference_count (map value_of c.args.objects.now) < 2 ^ 58 = omega (arith, c.requires.can.few) in
    few_slots (map value_of c.args.objects.now) c.holders.holder-index (value_of c.holder-item.result)
    (value_there c.args.objects.now c.holders.holder-index c.holder-item.result c.holders-test.true c.holder-item.is) few

pub count_holder-requires-clause-room : goal.count_holder-requires-clause-room
count_holder-requires-clause-room c =
    let few : reference_count (map value_of c.args.objects.now) < 2 ^ 58 = omega (arith, c.requires.can.few) in
    still_open c.args.objects.now c.args.known.now c.holders.holder-index c.holder-item.result c.holders.claimed c.holders-test.true c.holder-item.is few c.holders.invariant.counted

pub returns-then-not-count_holder-clause-met : goal.returns-then-not-count_holder-clause-met
returns-then-not-count_holder-clause-met c =
    all_fail (are_met (map value_of c.args.objects.now)) (map value_of c.args.objects.now) c.holders.holder-index (value_of c.holder-item.result) _
    (value_there c.args.objects.now c.holders.holder-index c.holder-item.result c.holders-test.true c.holder-item.is) (sym c.count_holder.ensures.met ∙ c.if-not-count_holder.true) c.holders.invariant.left

pub holders-preserved : goal.holders-preserved
holders-preserved c = record {
  counted = one_counted c.args.objects.now c.args.known.now c.holders.holder-index c.holder-item.result c.holders.claimed c.count_holder.new.claimed c.holders-test.true c.holder-item.is
      c.holders.invariant.counted (c.count_holder.ensures.counted c.if-not-count_holder.false);
  left = all_further (are_met (map value_of c.args.objects.now)) (map value_of c.args.objects.now) c.holders.holder-index (value_of c.holder-item.result) _
      (value_there c.args.objects.now c.holders.holder-index c.holder-item.result c.holders-test.true c.holder-item.is) (sym c.count_holder.ensures.met ∙ c.if-not-count_holder.false)
      c.holders.invariant.left;
}

pub returns-clause-met : goal.returns-clause-met
returns-clause-met c =
    let objects = map value_of c.args.objects.now in
    ap (list_all (are_met objects)) (sym (drop_all c.holders.holder-index objects (omega (arith, c.holders-test.false, length-map c.args.objects.now value_of)))) ∙ c.holders.invariant.left

pub returns-clause-counted : goal.returns-clause-counted
returns-clause-counted c = both_counted c.args.objects.now c.args.known.now c.holders.holder-index c.holders.claimed c.holders-test.false c.holders.invariant.counted
