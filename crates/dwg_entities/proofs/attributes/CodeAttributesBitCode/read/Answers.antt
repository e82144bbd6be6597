use Rattle.std.proofs.Common.{arith}
use Rattle.dwg_entities.proofs.InsertReading.{attributes_value}
use Rattle.dwg_entities.proofs.attributes.CodeAttributesBitCode.read.Goals as goal

pub returns-clause-value : goal.returns-clause-value
returns-clause-value c =
    attributes_value c.args.context.now c.in_ok-attributes.attributes _ _ (omega (arith, c.value-base.ensures.bound, c.value-base.ensures.value)) c.in_ok-attributes.ensures.parsed
