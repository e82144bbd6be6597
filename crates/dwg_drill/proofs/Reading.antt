-- The drawing that is read of a file.
use Rattle.std.proofs.Common.{◌≡◌, sym, ap, ◌∙◌, List, length}
use Rattle.std.specs.Prelude.{map}
use Rattle.std.proofs.lemmas.List.{length-map}
use Rattle.dwg_audit.specs.declared.finding.Finding.{Finding}
use Rattle.dwg_audit.specs.Findings.{findings}
use Rattle.dwg_file.specs.Contents.{Contents}
use Rattle.dwg_object.specs.declared.object.Object.{Object}
use Rattle.dwg_object.specs.Objects.{value_of}

-- objects in hand are as many as those of their drawing
pub objects_counted : (objects : List Object) (drawing read : Contents) → map value_of objects ≡ drawing.objects → drawing ≡ read → length objects ≡ length read.objects
objects_counted objects drawing read are same = sym (length-map objects value_of) ∙ ap length are ∙ ap (λ (one : Contents). length one.objects) same

-- and so are findings
pub findings_counted : (found reported : List Finding) (drawing read : Contents) → found ≡ reported → reported ≡ findings drawing.objects → drawing ≡ read
    → length found ≡ length (findings read.objects)
findings_counted found reported drawing read are is same = ap length (are ∙ is) ∙ ap (λ (one : Contents). length (findings one.objects)) same
