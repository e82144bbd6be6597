use Rattle.std.proofs.Common.{sym, subst, ℕ}
use Rattle.dwg_bits.specs.Bits.{bits}
use Rattle.dwg_object.specs.Heads.{IsHeadAt}
use Rattle.dwg_object.specs.Objects.{parts_of}
use Rattle.dwg_object.proofs.HeadReading.{body_begins, body_begins_not}
use Rattle.dwg_object.proofs.head.head_of.Goals as goal

pub returns-in_default-clause-none : goal.returns-in_default-clause-none
returns-in_default-clause-none c =
    body_begins_not c.args.body.now c.new-cursor.result c.new-cursor.ensures.bytes c.new-cursor.ensures.place c.new-cursor.ensures.end c.in_default.ensures.parsed

pub returns-clause-some : goal.returns-clause-some
returns-clause-some c =
    subst (λ (end : ℕ). IsHeadAt c.args.version (bits c.args.body.now) (parts_of c.in-Some.head) end) (sym c.at.ensures)
    (body_begins c.args.body.now c.new-cursor.result c.read_head.new.cursor _ c.new-cursor.ensures.bytes c.new-cursor.ensures.place c.new-cursor.ensures.end c.read_head.ensures.kept c.in-Some.ensures.parsed)
