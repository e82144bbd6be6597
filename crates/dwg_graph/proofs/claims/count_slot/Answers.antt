use Rattle.std.proofs.Common.{◌≡◌, ◌<◌, sym, ap, ◌∙◌, Bool, true, false, length, map, arith}
use Rattle.std.specs.Prelude.{◌==◌, if◌then◌else◌}
use Rattle.std.proofs.lemmas.List.{length-map}
use Rattle.dwg_graph.specs.Claimed.{leads_to, leads_down, raised}
use Rattle.dwg_graph.specs.Graph.{claims_by}
use Rattle.dwg_graph.specs.Owners.{owner_of}
use Rattle.dwg_graph.proofs.Counting.{no_claim, no_target, one_target, target_within, stands_there}
use Rattle.dwg_kinds.specs.declared.kind.Kind.{Kind}
use Rattle.dwg_kinds.specs.declared.field.Field.{Field}
use Rattle.dwg_object.specs.Objects.{ObjectValue, handle_of, kind_of, value_of}
use Rattle.dwg_graph.proofs.claims.count_slot.Goals as goal

-- what a test of a kind says, of the same kind
said : (kind other : Kind) (field : Field) (test : Bool) → test ≡ claims_by kind field → kind ≡ other → claims_by other field ≡ test
said kind other field test is same = sym (is ∙ ap (λ (k : Kind). claims_by k field) same)

pub returns-then-not-can_claim : goal.returns-then-not-can_claim
returns-then-not-can_claim c =
    let holder = value_of c.args.holder.now in
    let none = said c.kind.result (kind_of holder) c.args.slot.now.field false c.if-not-can_claim.ensures c.kind.ensures in
    record {
      all = no_claim (map value_of c.args.objects.now) leads_to (kind_of holder) c.args.slot.now c.args.claimed.now.all.items none;
      own = no_claim (map value_of c.args.objects.now) (leads_down c.args.known.now (handle_of holder)) (kind_of holder) c.args.slot.now c.args.claimed.now.own.items none;
    }

pub returns-in_default : goal.returns-in_default
returns-in_default c =
    let objects = map value_of c.args.objects.now in
    let holder = value_of c.args.holder.now in
    let claims = said c.kind.result (kind_of holder) c.args.slot.now.field true c.if-not-can_claim.ensures c.kind.ensures in
    let missing = sym c.requires.place ∙ c.in_default.is in
    record {
      all = no_target objects (λ x. true) (kind_of holder) c.args.slot.now c.args.claimed.now.all.items c.requires.ascend claims missing;
      own = no_target objects (λ x. handle_of holder == owner_of c.args.known.now x) (kind_of holder) c.args.slot.now c.args.claimed.now.own.items c.requires.ascend claims missing;
    }

pub is_owned-owned-requires : goal.is_owned-owned-requires
is_owned-owned-requires c = record { within = target_within c.args.objects.now c.args.slot.now.target c.in-Some.place (sym c.requires.place ∙ c.in-Some.is) }

pub tally-requires : goal.tally-requires
tally-requires c =
    let within : c.in-Some.place < length c.args.objects.now = target_within c.args.objects.now c.args.slot.now.target c.in-Some.place (sym c.requires.place ∙ c.in-Some.is) in
    let objects : length (map value_of c.args.objects.now) ≡ length c.args.objects.now = length-map c.args.objects.now value_of in
    record {
      all_within = omega (arith, within, objects, c.requires.room.all.long);
      own_within = omega (arith, within, objects, c.requires.room.own.long);
      all_room = c.requires.room.all.room c.in-Some.place (omega (arith, within, objects));
      own_room = c.requires.room.own.room c.in-Some.place (omega (arith, within, objects));
    }

pub returns : goal.returns
returns c =
    let objects = map value_of c.args.objects.now in
    let holder = value_of c.args.holder.now in
    let place = sym c.requires.place ∙ c.in-Some.is in
    let within : c.in-Some.place < length c.args.objects.now = target_within c.args.objects.now c.args.slot.now.target c.in-Some.place place in
    let there = stands_there objects c.in-Some.place (omega (arith, within, length-map c.args.objects.now value_of)) in
    let claims = said c.kind.result (kind_of holder) c.args.slot.now.field true c.if-not-can_claim.ensures c.kind.ensures in
    let owns : ObjectValue → Bool = λ x. handle_of holder == owner_of c.args.known.now x in
    record {
      all = one_target objects (λ x. true) (kind_of holder) c.args.slot.now c.in-Some.place there.0 c.args.claimed.now.all.items c.tally.new.claimed.all.items c.requires.ascend
          claims place there.1 c.requires.room.all.long c.tally.ensures.all;
      own = one_target objects owns (kind_of holder) c.args.slot.now c.in-Some.place there.0 c.args.claimed.now.own.items c.tally.new.claimed.own.items c.requires.ascend
          claims place there.1 c.requires.room.own.long
          (c.tally.ensures.own ∙ ap (λ (b : Bool). raised c.args.claimed.now.own.items c.in-Some.place (if b then 1 else 0)) (c.is_owned-owned.ensures there.0 there.1));
    }
