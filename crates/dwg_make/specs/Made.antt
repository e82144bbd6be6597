-- The drawing that two numbers make: how many entities follow its fixed objects, and the seed of the random numbers. A rule of this project.
use Rattle.std.specs.Prelude.{ℕ, [], ◌++◌, map, replicate}
use Rattle.std.specs.List.{range_with_len}
use Rattle.dwg_base.specs.declared.version.Version.TheVariants.{Ac1015}
use Rattle.dwg_file.specs.Contents.{Contents}
use Rattle.dwg_make.specs.Fixed.{fixed_objects}
use Rattle.dwg_make.specs.RandomEntities.{further_entity}

-- the most entities that can be asked for
abbrev pub MOST_ENTITIES : ℕ
MOST_ENTITIES = 200000

-- the drawing: of AC1015, code page 30, no header variables, no classes, no unknown sections, and the objects in order of handle
unfoldable pub made : ℕ → ℕ → Contents
made count seed = record {
  version = Ac1015;
  lead = replicate 7 0;
  mark = replicate 2 0;
  code_page = 30;
  variables = [];
  classes = [];
  others = [];
  objects = fixed_objects count ++ map (further_entity count seed) (range_with_len 1 count);
}
