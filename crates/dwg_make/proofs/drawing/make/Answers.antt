-- What is made is valid.
use Rattle.std.proofs.Common.{subst, sym, arith}
use Rattle.dwg_file.specs.Valid.{IsValid}
use Rattle.dwg_make.proofs.Validity.{made_is_valid}
use Rattle.dwg_make.proofs.drawing.make.Goals as goal

pub build-requires : goal.build-requires
build-requires c = subst IsValid (sym c.in-Ok.ensures) (made_is_valid c.args.n c.args.seed (omega arith) (omega arith) (omega arith))
