use Rattle.std.proofs.Common.{◌++◌, length-append, length-take, take, subst, arith}
use Rattle.std.proofs.lemmas.List.{take-append-le}
use Rattle.std.proofs.KnownBytes.{Consumes-trans}
use Rattle.dwg_base.specs.Bytes.{AreBytes}
use Rattle.dwg_base.proofs.ByteLists.{joined_are_bytes}
use Rattle.dwg_base.proofs.intake.read_all.Goals as goal

pub returns-in-Err-extend_from_slice-clause-gone : goal.returns-in-Err-extend_from_slice-clause-gone
returns-in-Err-extend_from_slice-clause-gone g c =
    let given = take c.in-Ok.n c.read.new.buf in (
      c.pieces.bytes.items ++ given,
      Consumes-trans _ _ _ _ _ c.pieces.invariant.read_prefix c.in-Ok.ensures.bytes.0,
      joined_are_bytes c.pieces.bytes.items given c.pieces.invariant.are_bytes (subst AreBytes (take-append-le c.in-Ok.n c.read.new.buf _ c.in-Ok.ensures.bound.0) c.bytes_with_range.ensures.bytes),
      omega (arith, length-append c.pieces.bytes.items given, c.in-Ok.ensures.bound, c.pieces.bytes.ok, c.min-room.ensures, c.len-in-pieces.ensures, c.len.ensures, c.read.auto.buf, length-take c.min-room.result c.pieces.piece),
    )
