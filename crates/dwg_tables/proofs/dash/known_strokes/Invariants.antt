use Rattle.std.proofs.Common.{drop}
use Rattle.dwg_tables.specs.LtypeBody.{stroke, stroke_of}
use Rattle.dwg_common.proofs.MemberLoops.{AreTried}
use Rattle.dwg_tables.proofs.dash.known_strokes.Given as goal

-- the dashes so far are known
abbrev pub invariant-dashes : goal.invariant-dashes
invariant-dashes l = AreTried stroke stroke_of l.dashes (drop l.dash-index l.dashes)
