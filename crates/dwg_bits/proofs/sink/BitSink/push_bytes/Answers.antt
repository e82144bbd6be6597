use Rattle.std.proofs.Common.{◌≡◌, ◌∙◌, ap, sym, arith, length}
use Rattle.dwg_bits.proofs.Filling.{length_held}
use Rattle.dwg_bits.proofs.sink.BitSink.push_bytes.Goals as goal

pub push_whole-requires-clause-whole : goal.push_whole-requires-clause-whole
push_whole-requires-clause-whole c =
    let held : length c.args.self.now.written ≡ c.self.inside.count = sym (ap (λ s. length s.written) c.self.view_is) ∙ length_held _ _ c.self.invariant.0 in
    omega (arith, held, c.if-self-eq0.true)
