use Rattle.std.proofs.Common.{sym, ◌∙◌, ap, arith}
use Rattle.std.specs.Prelude.{Some}
use Rattle.dwg_objmap.proofs.WalkingLemmas.{size_there, size_missing}
use Rattle.dwg_objmap.proofs.damaged_pages.page_size.Goals as goal

pub returns-then-saturating_sub-lt2-clause-is : goal.returns-then-saturating_sub-lt2-clause-is
returns-then-saturating_sub-lt2-clause-is c = sym (size_missing c.args.bytes.now c.args.place (λ has. omega (arith, has.0, has.1)))

pub returns-then-size-lt2-clause-is : goal.returns-then-size-lt2-clause-is
returns-then-size-lt2-clause-is c = sym (size_missing c.args.bytes.now c.args.place (λ has. omega (arith, has.0)))

pub returns-then-length-place-clause-is : goal.returns-then-length-place-clause-is
returns-then-length-place-clause-is c = sym (size_missing c.args.bytes.now c.args.place (λ has. omega (arith, has.1)))

pub returns-clause-is : goal.returns-clause-is
returns-clause-is c = ap Some c.word_at-size.ensures.word ∙ sym (size_there c.args.bytes.now c.args.place (omega arith, omega arith))
