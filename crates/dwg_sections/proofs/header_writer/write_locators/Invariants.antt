use Rattle.std.proofs.Common.{◌+◌, ◌*◌, ◌≤◌, take}
use Rattle.std.specs.List.{flat_map}
use Rattle.dwg_sections.specs.FileHeader.{locator_bytes}
use Rattle.dwg_sections.specs.Writing.{Puts}
use Rattle.dwg_sections.proofs.header_writer.write_locators.Given as goal

-- the locators up to the index are written
abbrev pub invariant-locators : goal.invariant-locators
invariant-locators l = record {
  written : Puts l.fn.sink l.sink (flat_map locator_bytes (take l.locator-index l.locators));
  spare : l.fn.sink.spare ≤ l.sink.spare + 72 * l.locator-index;
}
