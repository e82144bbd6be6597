use Rattle.std.proofs.Common.{sym, ◌∙◌, ap}
use Rattle.std.specs.Prelude.{option_map}
use Rattle.dwg_object.specs.Objects.{value_of}
use Rattle.dwg_recover.proofs.FrameScanning.{no_span, not_free, no_own, not_new}
use Rattle.dwg_recover.proofs.ScanReading.{common_kept, common_missing}
use Rattle.dwg_recover.proofs.scan.scan_place.Goals as goal

pub returns-in_default-clause-found : goal.returns-in_default-clause-found
returns-in_default-clause-found g c = no_span c.args.hints.now c.args.bytes.now c.args.kept.now c.args.place c.in_default.field-0 c.in_default.ensures.tried

pub returns-then-not-is_free-clause-found : goal.returns-then-not-is_free-clause-found
returns-then-not-is_free-clause-found g c =
    not_free c.args.hints.now c.args.bytes.now c.args.kept.now c.args.place c.in-Ok.span c.in-Ok.ensures.tried (sym c.is_free.ensures ∙ c.if-not-is_free.true)

pub returns-in_default-own_of_span-clause-found : goal.returns-in_default-own_of_span-clause-found
returns-in_default-own_of_span-clause-found g c =
    no_own c.args.hints.now c.args.bytes.now c.args.kept.now c.args.place c.in-Ok.span c.in-Ok.ensures.tried (sym c.own_of_span.ensures.own ∙ c.in_default-own_of_span.is)

pub returns-then-not-is_new-clause-found : goal.returns-then-not-is_new-clause-found
returns-then-not-is_new-clause-found g c =
    not_new c.args.hints.now c.args.bytes.now c.args.kept.now c.args.place c.in-Ok.span c.in-Some.own c.in-Ok.ensures.tried (sym c.own_of_span.ensures.own ∙ c.in-Some.is)
    (sym c.is_new.ensures ∙ c.if-not-is_new.true)

pub returns-in-Some-2-clause-found : goal.returns-in-Some-2-clause-found
returns-in-Some-2-clause-found g c =
    common_kept c.args.hints.now c.args.bytes.now c.args.kept.now c.args.place c.in-Ok.span c.in-Some.own c.in-Some-2.object c.in-Ok.ensures.tried (sym c.own_of_span.ensures.own ∙ c.in-Some.is)
    (sym c.is_free.ensures ∙ c.if-not-is_free.false) (sym c.is_new.ensures ∙ c.if-not-is_new.false) (sym (ap (option_map value_of) c.in-Some-2.is) ∙ c.in_ok-object.ensures)

pub returns-in-None-clause-found : goal.returns-in-None-clause-found
returns-in-None-clause-found g c =
    common_missing c.args.hints.now c.args.bytes.now c.args.kept.now c.args.place c.in-Ok.span c.in-Some.own c.in-Ok.ensures.tried (sym c.own_of_span.ensures.own ∙ c.in-Some.is)
    (sym (ap (option_map value_of) c.in-None.is) ∙ c.in_ok-object.ensures)
