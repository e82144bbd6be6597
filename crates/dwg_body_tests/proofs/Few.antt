-- What is written of a body that was read has no more bits than it was read of.
use Rattle.std.proofs.Common.{◌≤◌, ℕ, ◌*◌, List, Bool, length, length-append, ap, arith}
use Rattle.dwg_bits.proofs.BitLaws.{length_of_bits_between}
use Rattle.dwg_bits.specs.Cursor.{rest}
use Rattle.dwg_bits.specs.declared.cursor.BitCursor.{BitCursor}
use Rattle.dwg_grammar.specs.Bodies.{BodyGrammar, BeginsWithBody, IsBody}

-- of main bits and of reference bits
pub record AreFew {V : Type 0} (body : BodyGrammar V) (value : V) (main_bits reference_bits : ℕ) : Type 0 where
  pub main : length (body.short_main value) ≤ main_bits
  pub references : length (body.short_references value) ≤ reference_bits

-- so it is
pub few_written : {V : Type 0} (base : ℕ) (body : BodyGrammar V) (value : V) (main references : BitCursor) (main_left references_left : List Bool) → IsBody base body
    → BeginsWithBody body value (rest main) main_left (rest references) references_left
    → AreFew body value (8 * length main.bytes.now) (8 * length references.bytes.now)
few_written base body value main references main_left references_left is begins = record {
  main = omega (
    arith,
    is.least_main value begins.main_prefix begins.reference_prefix (length references_left) begins.spelled,
    ap length begins.main_whole,
    length-append begins.main_prefix main_left,
    length_of_bits_between main.bytes.now main.place main.end main.within,
    main.within,
  );
  references = omega (
    arith,
    is.least_references value begins.main_prefix begins.reference_prefix (length references_left) begins.spelled,
    ap length begins.references_whole,
    length-append begins.reference_prefix references_left,
    length_of_bits_between references.bytes.now references.place references.end references.within,
    references.within,
  );
}
