use Rattle.std.proofs.Common.{◌∙◌, arith}
use Rattle.dwg_bits.proofs.WordParts.{eight_spell}
use Rattle.dwg_bits.proofs.words.word_at.Goals as goal

pub returns : goal.returns
returns c = c.from_be_bytes.ensures ∙ eight_spell c.args.bytes.now c.args.at (λ i. omega (arith, c.type_inv.bytes i)) c.requires
