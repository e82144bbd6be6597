use Rattle.std.specs.Int.{w32, from_le_bytes}
use Rattle.std.proofs.Common.{◌∙◌, ap}
use Rattle.dwg_codes.proofs.WordReading.{word_read, word_unread}
use Rattle.dwg_codes.proofs.fixed.CodeRLBitCode.read.Goals as goal

pub returns-in_err-bits-clause-reads : goal.returns-in_err-bits-clause-reads
returns-in_err-bits-clause-reads c =
    word_unread w32 4 _ _ _ c.from_residual.ensures c.in_err-bits.ensures.short c.in_err-bits.ensures.same_rest

pub returns-clause-reads : goal.returns-clause-reads
returns-clause-reads c =
    word_read w32 4 c.in_ok-bits.field-0 _ _ _ (c.from_le_bytes.ensures ∙ ap (from_le_bytes w32) c.to_be_bytes.ensures) c.in_ok-bits.ensures.prefix
