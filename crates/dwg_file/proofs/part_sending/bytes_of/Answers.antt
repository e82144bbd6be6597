use Rattle.dwg_file.proofs.PlanContent.{bytes_of_bits}
use Rattle.dwg_file.proofs.part_sending.bytes_of.Goals as goal

pub returns : goal.returns
returns c = bytes_of_bits c.as_bytes.result.now c.bytes_with_range.result.now c.args.sink.now.written c.bytes_with_range.ensures.same c.bytes_with_range.ensures.bytes c.as_bytes.ensures
