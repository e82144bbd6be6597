use Rattle.std.proofs.Common.{◌≡◌, ◌-◌, ◌%◌, ◌∙◌, ◌++◌, ap, arith, length, refl}
use Rattle.dwg_bits.specs.Bits.{bits}
use Rattle.dwg_bits.specs.Cursor.{bits_between}
use Rattle.dwg_bits.specs.Filled.{room_of}
use Rattle.std.specs.Vec.{vec_capacity}
use Rattle.dwg_bits.proofs.BitLaws.{length_of_bits}
use Rattle.dwg_bits.proofs.Pushing.{bytes_held, bytes_filled}
use Rattle.dwg_bits.proofs.sink.BitSink.push_whole.Goals as goal

pub invariant_of-self : goal.invariant_of-self
invariant_of-self c =
    let even : length (bits_between c.self.inside.bytes.items 0 c.self.inside.count) % 8 ≡ 0 = ap (λ s. length s.written % 8) c.self.view_is ∙ c.requires.whole in
    let spare : room_of (vec_capacity c.self.inside.bytes) - c.self.inside.count ≡ c.args.self.now.spare = ap (λ s. s.spare) c.self.view_is in
    (bytes_filled _ _ _ _ _ c.self.invariant.0 even c.in-Ok.ensures.items refl, omega (arith, spare, c.requires.room, c.self.invariant.1, c.in-Ok.ensures.capacity))

pub returns : goal.returns
returns c =
    let even : length (bits_between c.self.inside.bytes.items 0 c.self.inside.count) % 8 ≡ 0 = ap (λ s. length s.written % 8) c.self.view_is ∙ c.requires.whole in
    let spare : room_of (vec_capacity c.self.inside.bytes) - c.self.inside.count ≡ c.args.self.now.spare = ap (λ s. s.spare) c.self.view_is in
    record {
      bits = bytes_held _ _ _ _ _ c.self.invariant.0 even c.in-Ok.ensures.items refl ∙ ap (λ s. s.written ++ bits c.args.bytes.now) c.self.view_is;
      spare = omega (arith, spare, c.in-Ok.ensures.capacity, length_of_bits c.args.bytes.now);
    }
