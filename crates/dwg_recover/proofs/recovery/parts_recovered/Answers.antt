use Rattle.std.proofs.Common.{sym, subst, List, map}
use Rattle.dwg_object.specs.Objects.{ObjectValue, handle_of}
use Rattle.dwg_objmap.specs.Pages.{AreHandles}
use Rattle.dwg_recover.specs.Recovering.{classes_found, frames_kept}
use Rattle.dwg_recover.proofs.KeptObjects.{handles_kept}
use Rattle.dwg_recover.proofs.RecoveredLaws.{frames_are_kept}
use Rattle.dwg_recover.proofs.RecoveryParts.{drawing_is}
use Rattle.dwg_recover.proofs.recovery.parts_recovered.Goals as goal

pub in_handle_order-objects-requires : goal.in_handle_order-objects-requires
in_handle_order-objects-requires c =
    let bytes = c.args.bytes.now in
    subst (λ (values : List ObjectValue). AreHandles (map handle_of values)) (sym c.requires.objects) (handles_kept (classes_found bytes) bytes (frames_kept bytes) (frames_are_kept bytes))

pub returns : goal.returns
returns c =
    drawing_is c.args.bytes.now c.args.header.now _ _ _ _ _ _ _ _ _ _ _ c.requires.header c.requires.variables c.requires.classes c.of_input.ensures c.header_fields_of-prefix.ensures.lead c.header_fields_of-prefix.ensures.mark
    c.header_fields_of-prefix.ensures.code_page c.variables_at-variables.ensures c.locators_of.ensures c.in_ok-others.ensures.value c.requires.objects c.in_handle_order-objects.ensures.sorted
