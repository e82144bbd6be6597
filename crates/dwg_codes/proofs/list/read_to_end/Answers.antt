use Rattle.std.proofs.Common.{◌∙◌, arith}
use Rattle.dwg_bits.proofs.BitLaws.{length_of_bits_between}
use Rattle.dwg_codes.proofs.ListReading.{one_more, read_values, end_read, end_unread, read_takes}
use Rattle.dwg_codes.proofs.list.read_to_end.Goals as goal

pub returns-in_default-clause-reads : goal.returns-in_default-clause-reads
returns-in_default-clause-reads g c =
    let ahead = c.values.ahead in
    end_unread c.args.least (g.C.BitCode.grammar c.args.context.now) c.values.found _ _ _ (g.met.C.BitCode.laws c.args.context.now c.requires.context)
    (omega (arith, length_of_bits_between ahead.bytes.now ahead.place ahead.end ahead.within, c.left.ensures, c.values-test.true)) c.values.invariant.so_far c.in_default.ensures.reads

pub values-smaller : goal.values-smaller
values-smaller g c =
    let before = c.values.ahead in
    let after = c.read.new.cursor in
    omega (
      arith,
      c.requires.some,
      read_takes c.args.least (g.C.BitCode.grammar c.args.context.now) c.in-Some.value _ _ c.requires.least c.in-Some.ensures.reads,
      length_of_bits_between before.bytes.now before.place before.end before.within,
      length_of_bits_between after.bytes.now after.place after.end after.within,
    )

pub values-preserved : goal.values-preserved
values-preserved g c =
    let so_far = c.values.invariant in
    record {
      so_far = one_more (g.C.BitCode.grammar c.args.context.now) _ _ _ _ _ _ c.in_ok-try_push.ensures so_far.so_far c.in-Some.ensures.reads;
      bytes = c.in-Some.ensures.same_bytes ∙ so_far.bytes;
      end = c.in-Some.ensures.same_end ∙ so_far.end;
    }

pub returns-clause-reads : goal.returns-clause-reads
returns-clause-reads g c =
    let ahead = c.values.ahead in
    end_read c.args.least (g.C.BitCode.grammar c.args.context.now) c.values.found _ _
    (omega (arith, length_of_bits_between ahead.bytes.now ahead.place ahead.end ahead.within, c.left.ensures, c.values-test.false)) c.values.invariant.so_far

pub returns-clause-value : goal.returns-clause-value
returns-clause-value g c = read_values (g.C.BitCode.grammar c.args.context.now) _ _ _ (g.met.C.BitCode.laws c.args.context.now c.requires.context) c.values.invariant.so_far
