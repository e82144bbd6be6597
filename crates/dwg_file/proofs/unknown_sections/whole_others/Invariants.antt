use Rattle.std.proofs.Common.{◌≡◌, ◌++◌, map, drop}
use Rattle.std.specs.List.{All}
use Rattle.dwg_file.specs.Borrowed.{IsBorrowedSection}
use Rattle.dwg_file.specs.Contents.{other_value}
use Rattle.dwg_file.specs.ReadAs.{sections_at, whole_locators}
use Rattle.dwg_file.proofs.unknown_sections.whole_others.Given as goal

-- what is left gives with those so far the whole, and those so far are lent
abbrev pub invariant-locators : goal.invariant-locators
invariant-locators l = record {
  whole : map other_value l.others ++ sections_at l.bytes (whole_locators l.bytes (drop l.index l.locators)) ≡ sections_at l.bytes (whole_locators l.bytes l.locators);
  lent : All IsBorrowedSection l.others;
}
