use Rattle.std.proofs.Common.{◌≡◌, Bool, List, false, sym, ap, ◌∙◌, arith}
use Rattle.dwg_chains.specs.Tables.{marked}
use Rattle.dwg_chains.proofs.Marking.{count_set}
use Rattle.dwg_chains.proofs.ChainWalks.{follow_ends, follow_others, follow_nowhere, follow_goes, lives_within}
use Rattle.dwg_chains.proofs.chaining.follow.Goals as goal

pub returns-then-is_at-clause-judged : goal.returns-then-is_at-clause-judged
returns-then-is_at-clause-judged c =
    let new = c.is_new.ensures.0 c.members-test.true in
    follow_ends c.args.homes.now c.args.next.now c.args.home c.args.ends.now _ c.members.seen.items c.set_mark.new.table.items c.members.at
    (new.0, ap (λ (marks : List Bool). marked marks c.members.at) (sym c.deref.ensures.value) ∙ new.1) (cc) c.set_mark.ensures c.members.invariant

pub returns-in-None-leads-clause-others : goal.returns-in-None-leads-clause-others
returns-in-None-leads-clause-others c =
    follow_others c.args.homes.now c.args.next.now c.args.home c.args.ends.now _ c.members.seen.items c.set_mark.new.table.items c.members.at
    (c.is_new.ensures.0 c.members-test.true).0 c.set_mark.ensures c.members.invariant

pub returns-in-None-leads-clause-judged : goal.returns-in-None-leads-clause-judged
returns-in-None-leads-clause-judged c =
    follow_nowhere c.args.homes.now c.args.next.now c.args.home c.args.ends.now _ c.members.seen.items c.set_mark.new.table.items c.members.at (cc) (cc) c.members.invariant

pub members-smaller : goal.members-smaller
members-smaller c =
    let new = c.is_new.ensures.0 c.members-test.true in
    let seen = c.members.seen.items in
    let fresh : marked seen c.members.at ≡ false = ap (λ (marks : List Bool). marked marks c.members.at) (sym c.deref.ensures.value) ∙ new.1 in
    let one = count_set seen c.members.at (omega (arith, lives_within c.args.homes.now c.args.home c.members.at new.0, c.members.invariant.places)) fresh in
    rw c.set_mark.ensures (omega (arith, one))

pub members-preserved : goal.members-preserved
members-preserved c =
    let new = c.is_new.ensures.0 c.members-test.true in
    follow_goes c.args.homes.now c.args.next.now c.args.home c.args.ends.now _ c.members.seen.items c.set_mark.new.table.items c.members.at c.in-Some-leads.further
    (new.0, ap (λ (marks : List Bool). marked marks c.members.at) (sym c.deref.ensures.value) ∙ new.1) (cc) (cc) c.set_mark.ensures c.members.invariant
