-- The canonical file is sent part by part.
use Rattle.std.proofs.Common.{◌≡◌, refl, sym, ◌∙◌, ap, ap₂, subst, ℕ, ◌+◌, ◌*◌, ◌≤◌, List, ◌++◌, length, append_assoc, arith}
use Rattle.std.proofs.KnownBytes.{Appends-trans}
use Rattle.std.specs.Prelude.{Option, Result, Err}
use Rattle.std.specs.Io.KnownBytes.{Appends}
use Rattle.dwg_base.specs.Devices.{AppendsPrefix, Sends}
use Rattle.dwg_base.proofs.SendingLemmas.{sends_both, prefix_of_both}
use Rattle.dwg_classes.specs.declared.class.Class.{Class}
use Rattle.dwg_sections.specs.declared.framed.Framed.TheVariants.{Variables, Classes}
use Rattle.dwg_sections.specs.declared.header.FileHeader.{FileHeader}
use Rattle.dwg_sections.specs.FileHeader.{header_bytes}
use Rattle.dwg_sections.specs.Framed.{framed_bytes}
use Rattle.dwg_object.specs.Objects.{ObjectValue}
use Rattle.dwg_file.specs.Contents.{Contents}
use Rattle.dwg_file.specs.Canonical.{Carried, canonical_with, class_content, frames_bytes, header_with, map_with, others_bytes, others_place_with, preview_at, preview_place, variables_place}
use Rattle.dwg_file.proofs.CanonicalHeader.{length_of_located}
use Rattle.dwg_file.specs.WriteBuffer.{WritesWhole, WritesPrefix, Writes}
use Rattle.dwg_file.proofs.GivenBytes.{given_both, gives_both, cut_before, cut_after}
use Rattle.dwg_file.specs.Plans.{before_map, sections_bytes}

-- there is room for the header
pub header_room : (carried : Carried) (drawing : Contents) (header : FileHeader) (room : ℕ) → header ≡ header_with carried drawing → 8 * variables_place drawing ≤ room → 344 + 72 * length header.locators ≤ room
header_room carried drawing header room same within =
    omega (arith, within, ap (λ (one : FileHeader). length one.locators) same, length_of_located drawing.others (others_place_with carried drawing))

-- the sections, by the parts of a drawing
pub sections_pieces : (carried : Carried) (drawing : Contents) (variables : List ℕ) (classes : List Class) → variables ≡ drawing.variables → classes ≡ drawing.classes
    → framed_bytes Variables variables ++ framed_bytes Classes (class_content classes) ++ preview_at carried (preview_place drawing) ≡ sections_bytes carried drawing
sections_pieces carried drawing variables classes held declared =
    ap₂ (λ all (some : List Class). framed_bytes Variables all ++ framed_bytes Classes (class_content some) ++ preview_at carried (preview_place drawing)) held declared

-- and the prefix
pub prefix_pieces : (carried : Carried) (drawing : Contents) (header : FileHeader) (objects : List ObjectValue) → header ≡ header_with carried drawing → objects ≡ drawing.objects
    → header_bytes header ++ sections_bytes carried drawing ++ frames_bytes drawing.version objects ≡ before_map carried drawing
unfolding before_map
prefix_pieces carried drawing header objects heads all =
    ap₂ (λ (one : FileHeader) (some : List ObjectValue). header_bytes one ++ sections_bytes carried drawing ++ frames_bytes drawing.version some) heads all

-- three pieces that are given one after the other: where one is cut off, so are all
pub first_cut : (a b : Option (List ℕ)) (waited x y z whole : List ℕ) → x ++ y ++ z ≡ whole → WritesPrefix a b waited x → WritesPrefix a b waited whole
first_cut a b waited x y z whole same cut = cut_before a b waited x (y ++ z) whole (sym (append_assoc x y z) ∙ same) cut

pub second_cut : (a b c : Option (List ℕ)) (waited one x y z whole : List ℕ) → x ++ y ++ z ≡ whole → WritesWhole a b waited one x → WritesPrefix b c one y → WritesPrefix a c waited whole
second_cut a b c waited one x y z whole same given cut = cut_before a c waited (x ++ y) z whole same (cut_after a b c waited one x y (x ++ y) refl given cut)

pub third_cut : (a b c d : Option (List ℕ)) (waited one two x y z whole : List ℕ) → x ++ y ++ z ≡ whole → WritesWhole a b waited one x → WritesWhole b c one two y → WritesPrefix c d two z → WritesPrefix a d waited whole
third_cut a b c d waited one two x y z whole same first second cut =
    cut_after a c d waited two (x ++ y) z whole same (given_both a b c waited one two x y (x ++ y) refl first second) cut

pub three_given : {T E : Type 0} (a b c d : Option (List ℕ)) (waited one two waiting x y z whole : List ℕ) (result : Result T E) → x ++ y ++ z ≡ whole → WritesWhole a b waited one x
    → WritesWhole b c one two y → Writes c d two waiting z result → Writes a d waited waiting whole result
three_given a b c d waited one two waiting x y z whole result same first second last =
    gives_both a c d waited two waiting (x ++ y) z whole result same (given_both a b c waited one two x y (x ++ y) refl first second) last

-- what stands before the map, the map, and what stands after it are the canonical file
pub canonical_thirds : (carried : Carried) (drawing : Contents) → before_map carried drawing ++ map_with carried drawing ++ others_bytes drawing.others ≡ canonical_with carried drawing
unfolding canonical_with before_map
canonical_thirds carried drawing =
    let head = header_bytes (header_with carried drawing) in
    let preview = preview_at carried (preview_place drawing) in
    let variables = framed_bytes Variables drawing.variables in
    let classes = framed_bytes Classes (class_content drawing.classes) in
    ap (λ prefix. prefix ++ frames_bytes drawing.version drawing.objects ++ map_with carried drawing ++ others_bytes drawing.others)
    (sym (append_assoc head (variables ++ classes) preview) ∙ ap (λ prefix. prefix ++ preview) (sym (append_assoc head variables classes)))

-- three pieces that are sent one after the other: where one is cut off, so are all
pub first_short : (a b : Option (List ℕ)) (x y z whole : List ℕ) → x ++ y ++ z ≡ whole → AppendsPrefix a b x → AppendsPrefix a b whole
first_short a b x y z whole same cut = subst (AppendsPrefix a b) same (prefix_of_both a b (x ++ y) z (prefix_of_both a b x y cut))

pub second_short : (a b c : Option (List ℕ)) (x y z whole : List ℕ) → x ++ y ++ z ≡ whole → Appends a b x → AppendsPrefix b c y → AppendsPrefix a c whole
second_short a b c x y z whole same sent cut = subst (AppendsPrefix a c) same (prefix_of_both a c (x ++ y) z (sends_both {T = ℕ} {E = ℕ} a b c x y (Err 0) sent cut))

pub three_sent : {T E : Type 0} (a b c d : Option (List ℕ)) (x y z whole : List ℕ) (result : Result T E) → x ++ y ++ z ≡ whole → Appends a b x → Appends b c y → Sends c d z result → Sends a d whole result
three_sent a b c d x y z whole result same first second last = subst (λ all. Sends a d all result) same (sends_both a c d (x ++ y) z result (Appends-trans a b c x y first second) last)
