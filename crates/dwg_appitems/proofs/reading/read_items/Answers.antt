use Rattle.std.proofs.Common.{subst, sym, arith}
use Rattle.dwg_base.proofs.ByteLists.{are_bytes}
use Rattle.dwg_appitems.specs.ItemPrefix.{ReadsItem}
use Rattle.dwg_appitems.proofs.ItemPrefixes.{one_so_far, all_so_far, none_after_them}
use Rattle.dwg_appitems.proofs.AllItems.{items_can_be_written}
use Rattle.dwg_appitems.proofs.ComputedItems.{are_computed, none_computed}
use Rattle.dwg_appitems.proofs.ExactSpellings.{items_again}
use Rattle.dwg_appitems.proofs.reading.read_items.Goals as goal

pub returns-in_default-clause-none : goal.returns-in_default-clause-none
returns-in_default-clause-none c all =
    let none = subst (λ found. ReadsItem found c.bytes_after.result.now) c.in_default.is c.in_ok-item.ensures in
    none_after_them c.items.found all c.args.bytes.now _ c.items.place c.items-test.true c.bytes_after.ensures.rest c.items.invariant.so_far none

pub items-preserved : goal.items-preserved
items-preserved c =
    let so_far = c.items.invariant in
    let prefix = subst (λ found. ReadsItem found c.bytes_after.result.now) c.in-Some.is c.in_ok-item.ensures in
    record {
      so_far = one_so_far _ _ _ _ _ _ _ c.in_ok-try_push.ensures c.bytes_after.ensures.rest prefix so_far.so_far;
      within = omega (arith, prefix.within, c.bytes_after.ensures.len);
    }

pub items-smaller : goal.items-smaller
items-smaller c =
    let prefix = subst (λ found. ReadsItem found c.bytes_after.result.now) c.in-Some.is c.in_ok-item.ensures in
    omega (arith, prefix.some, prefix.within, c.bytes_after.ensures.len)

pub returns-clause-items : goal.returns-clause-items
returns-clause-items c = all_so_far c.items.found c.args.bytes.now c.items.place c.items-test.false c.items.invariant.so_far

pub returns-clause-writable : goal.returns-clause-writable
returns-clause-writable c =
    items_can_be_written c.items.found c.args.bytes.now (all_so_far c.items.found c.args.bytes.now c.items.place c.items-test.false c.items.invariant.so_far)

pub returns-clause-again : goal.returns-clause-again
returns-clause-again c =
    items_again c.items.found c.args.bytes.now (are_bytes c.args.bytes.now (λ i. omega (arith, c.type_inv.bytes i))) (all_so_far c.items.found c.args.bytes.now c.items.place c.items-test.false c.items.invariant.so_far)

pub returns-clause-computed : goal.returns-clause-computed
returns-clause-computed c =
    sym (are_computed c.args.bytes.now c.items.found (all_so_far c.items.found c.args.bytes.now c.items.place c.items-test.false c.items.invariant.so_far))

pub returns-in_default-clause-computed : goal.returns-in_default-clause-computed
returns-in_default-clause-computed c =
    let none = subst (λ found. ReadsItem found c.bytes_after.result.now) c.in_default.is c.in_ok-item.ensures in
    sym (none_computed c.args.bytes.now (λ all. none_after_them c.items.found all c.args.bytes.now _ c.items.place c.items-test.true c.bytes_after.ensures.rest c.items.invariant.so_far none))
