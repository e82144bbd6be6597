-- The common parts of made objects fit and are written by few bits.
use Rattle.std.proofs.Common.{◌≡◌, refl, ℕ, ◌^◌, ◌<◌, true, false, [], Option, Some, None, arith}
use Rattle.std.specs.Prelude.{nat_lt, is_none, ◌==◌, not}
use Rattle.std.proofs.lemmas.Bool.Decides.{nat_tests}
use Rattle.dwg_common.specs.Layouts.{NEWER}
use Rattle.dwg_grammar.specs.Codes.{ONE}
use Rattle.dwg_grammar.specs.Combinators.{when, chain, until}
use Rattle.dwg_common.specs.declared.entity.Links.{Links}
use Rattle.dwg_common.specs.AppList.{app_list}
use Rattle.dwg_common.specs.Entities as entities
use Rattle.dwg_common.specs.NonEntities.{object_common}
use Rattle.dwg_common.specs.Pictures.{graphic}
use Rattle.dwg_grammar.specs.Reference.{Reference}
use Rattle.dwg_grammar.specs.ReferenceCodes.{reference}
use Rattle.dwg_make.specs.Parts.{soft_pointer, hard_owner, hard_pointer, owned_by, links, entity_common}
use Rattle.dwg_make.proofs.CodeSizes.{Few, no_letters, both, loosely, low_few, rc_few, bs_few, bl_few, b_few, bd_few, ref_few}
use Rattle.dwg_make.proofs.PartsMade.{IsMade, ref_fits}

-- no application data
pub no_app : (base : ℕ) → ((app_list base).IsValue []) × Few 18 ((app_list base).short [])
unfolding app_list until
no_app base = (tt, bs_few 0)

-- no graphic
pub no_graphic : (graphic.IsValue None) × Few 1 (graphic.short None)
unfolding graphic
no_graphic = ((tt, refl), loosely 1 (omega arith) (both (b_few false) no_letters))

-- the common part of an object that is no entity
pub owned_made : (base owner : ℕ) → owner < 2 ^ 63 → IsMade (object_common NEWER base) (owned_by owner)
unfolding object_common chain
owned_made base owner small = record {
  fits = (((no_app base).0, (tt, omega arith)), (ref_fits base 4 owner (omega arith) small, ((refl, tt), ref_fits base 3 0 (omega arith) (omega arith))));
  main = loosely 65536 (omega arith) (both (no_app base).1 (both no_letters (bl_few 0)));
  refs = loosely 65536 (omega arith) (both (ref_few base (soft_pointer owner)) (both no_letters (ref_few base (hard_owner 0))));
}

-- the entities before and after, and none
pub linked : (base previous next : ℕ) → previous < 2 ^ 63 → next < 2 ^ 63
    → ((when true (entities.links base).grammar).IsValue (Some (links previous next))) × Few 200 ((when true (entities.links base).grammar).short (Some (links previous next)))
linked base previous next a b = (
  (links previous next, refl, (ref_fits base 4 previous (omega arith) a, ref_fits base 4 next (omega arith) b)),
  loosely 200 (omega arith) (both (ref_few base (soft_pointer previous)) (ref_few base (soft_pointer next))),
)

pub unlinked : (base : ℕ) → ((when false (entities.links base).grammar).IsValue None) × Few 200 ((when false (entities.links base).grammar).short None)
unlinked base = (refl, loosely 200 (omega arith) no_letters)

-- the common part of an entity, by its mode and owner, and its links
pub entity_made : (base mode : ℕ) (owner : Option Reference) (linking : Option Links) (layer : ℕ) → nat_lt mode 3 ≡ true
    → (when (mode == 0) (reference base)).IsValue owner → Few 100 ((when (mode == 0) (reference base)).short owner)
    → (when (not (is_none linking)) (entities.links base).grammar).IsValue linking → Few 200 ((when (not (is_none linking)) (entities.links base).grammar).short linking)
    → layer < 2 ^ 63 → IsMade (entities.entity_common NEWER base) (entity_common mode owner linking layer)
unfolding entities.entity_common chain
entity_made base mode owner linking layer known owned owned_few joined joined_few small = record {
  fits = (
    (
      ((no_app base).0, (no_graphic.0, (tt, ((known, grind (arith, nat_tests)), (omega arith, (refl, tt)))))),
      (omega arith, (omega arith, (omega arith, (omega arith, (omega arith, omega arith))))),
    ),
    (
      owned,
      (
        (refl, tt),
        (ref_fits base 3 0 (omega arith) (omega arith), (joined, (ref_fits base 5 layer (omega arith) small, (refl, refl)))),
      ),
    ),
  );
  main = loosely 65536 (omega arith)
      (both (both (no_app base).1 (both no_graphic.1 (both no_letters (both (low_few 2 mode) (both (bl_few 0) (both no_letters (b_few (is_none linking))))))))
      (both (bs_few 256) (both (bd_few ONE) (both (low_few 2 0) (both (low_few 2 0) (both (bs_few 0) (rc_few 29)))))));
  refs = loosely 65536 (omega arith)
      (both owned_few
      (both no_letters
      (both (ref_few base (hard_owner 0))
      (both joined_few
      (both (ref_few base (hard_pointer layer))
      (both no_letters no_letters))))));
}

-- in the model space, in the paper space, and of an owner
pub model_made : (base : ℕ) (linking : Option Links) (layer : ℕ) → (when (not (is_none linking)) (entities.links base).grammar).IsValue linking
    → Few 200 ((when (not (is_none linking)) (entities.links base).grammar).short linking) → layer < 2 ^ 63 → IsMade (entities.entity_common NEWER base) (entity_common 2 None linking layer)
model_made base linking layer joined joined_few small = entity_made base 2 None linking layer refl refl (loosely 100 (omega arith) no_letters) joined joined_few small

pub paper_made : (base : ℕ) → IsMade (entities.entity_common NEWER base) (entity_common 1 None (Some (links 0 0)) 0x10)
paper_made base =
    entity_made base 1 None (Some (links 0 0)) 0x10 refl refl (loosely 100 (omega arith) no_letters)
    (linked base 0 0 (omega arith) (omega arith)).0 (linked base 0 0 (omega arith) (omega arith)).1 (omega arith)

pub of_owner_made : (base owner previous next : ℕ) → owner < 2 ^ 63 → previous < 2 ^ 63 → next < 2 ^ 63
    → IsMade (entities.entity_common NEWER base) (entity_common 0 (Some (soft_pointer owner)) (Some (links previous next)) 0x10)
of_owner_made base owner previous next small a b =
    entity_made base 0 (Some (soft_pointer owner)) (Some (links previous next)) 0x10 refl
    (soft_pointer owner, refl, ref_fits base 4 owner (omega arith) small) (loosely 100 (omega arith) (ref_few base (soft_pointer owner)))
    (linked base previous next a b).0 (linked base previous next a b).1 (omega arith)
