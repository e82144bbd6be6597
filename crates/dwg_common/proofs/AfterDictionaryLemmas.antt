-- What stands after the dictionary of an entity has a spelling where its parts have one, in either order.
use Rattle.std.proofs.Common.{ℕ, Bool}
use Rattle.std.specs.Prelude.{◌==◌, ◌↔◌, not}
use Rattle.dwg_base.specs.declared.version.Version.{Version}
use Rattle.dwg_base.specs.declared.version.Version.TheVariants.{Ac1014, Ac1015}
use Rattle.dwg_grammar.specs.Combinators.{when}
use Rattle.dwg_grammar.specs.ReferenceCodes.{reference}
use Rattle.dwg_common.specs.Entities.{AfterDictionaryParts, refs_after_dictionary, links}

-- what it needs
pub after_dictionary_value : (version : Version) (base : ℕ) (nolinks : Bool) (linetype_flag plotstyle_flag : ℕ) (parts : AfterDictionaryParts)
    → (refs_after_dictionary version base nolinks linetype_flag plotstyle_flag).grammar.IsValue parts
    ↔ ((when (not nolinks) (links base).grammar).IsValue parts.0 × (reference base).IsValue parts.1.0
    × (when (linetype_flag == 3) (reference base)).IsValue parts.1.1.0 × (when (plotstyle_flag == 3) (reference base)).IsValue parts.1.1.1)
after_dictionary_value Ac1014 base nolinks linetype_flag plotstyle_flag parts = (λ fits. (fits.1.1.0, fits.0, fits.1.0, fits.1.1.1), λ parts. (parts.1, (parts.2, (parts.0, parts.3))))
after_dictionary_value Ac1015 base nolinks linetype_flag plotstyle_flag parts = (λ fits. (fits.0, fits.1.0, fits.1.1.0, fits.1.1.1), λ parts. (parts.0, (parts.1, (parts.2, parts.3))))
