use Rattle.std.proofs.Common.{◌≡◌, ◌-◌, ◌%◌, ◌∙◌, ap, sym, arith, length, refl, ◌++◌}
use Rattle.std.proofs.lemmas.List.{append_assoc}
use Rattle.dwg_bits.specs.Cursor.{bits_between}
use Rattle.dwg_bits.proofs.Filling.{length_held}
use Rattle.dwg_bits.proofs.Pushing.{run_and_rest, run_long}
use Rattle.dwg_bits.proofs.BitLaws.{length_of_bits_between}
use Rattle.dwg_bits.proofs.sink.BitSink.push_between.Goals as goal

pub push_whole-requires-clause-whole : goal.push_whole-requires-clause-whole
push_whole-requires-clause-whole c =
    let held : length c.args.self.now.written ≡ c.self.inside.count = sym (ap (λ s. length s.written) c.self.view_is) ∙ length_held _ _ c.self.invariant.0 in
    omega (arith, held, c.if-self-ne0.false)

pub push_words-requires-2-clause-room : goal.push_words-requires-2-clause-room
push_words-requires-2-clause-room c =
    omega (arith, c.push_whole.ensures.spare, run_long c.args.bytes.now _ c.args.from c.args.to c.requires.ordered c.requires.within c.if-from-ne0.false refl)

pub returns : goal.returns
returns c =
    record {
      bits = c.push_words-2.ensures.bits ∙ ap (λ prefix. prefix ++ bits_between c.args.bytes.now (c.args.to - c.args.to % 8) c.args.to) c.push_whole.ensures.bits ∙ append_assoc c.args.self.now.written _ _ ∙ ap (λ more. c.args.self.now.written ++ more) (run_and_rest c.args.bytes.now _ c.args.from c.args.to c.requires.ordered c.requires.within (omega arith) refl);
      spare =
          omega (
            arith,
            c.push_whole.ensures.spare,
            c.push_words-2.ensures.spare,
            run_long c.args.bytes.now _ c.args.from c.args.to c.requires.ordered c.requires.within c.if-from-ne0.false refl,
            length_of_bits_between c.args.bytes.now (c.args.to - c.args.to % 8) c.args.to c.requires.within,
            length_of_bits_between c.args.bytes.now c.args.from c.args.to c.requires.within,
          );
    }
