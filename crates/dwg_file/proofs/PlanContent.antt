-- The content of the classes section: how long it is, and the bytes of a sink.
use Rattle.std.proofs.Common.{◌≡◌, sym, ◌∙◌, ap, ℕ, ◌+◌, ◌*◌, ◌<◌, ◌≤◌, Bool, List, length, length-append, arith}
use Rattle.dwg_base.specs.Bytes.{AreBytes}
use Rattle.dwg_bits.specs.Bits.{bits}
use Rattle.dwg_bits.proofs.PaddingLaw.{padding_fills}
use Rattle.dwg_bits.specs.Sink.{padding}
use Rattle.dwg_bits.specs.WholeBytes.{whole_bytes}
use Rattle.dwg_bits.proofs.WholeBytes.{whole_of_bits, length_of_whole}
use Rattle.dwg_classes.specs.declared.class.Class.{Class}
use Rattle.dwg_classes.specs.Class.{numbered_class}
use Rattle.dwg_classes.specs.WrittenClasses.{padded}
use Rattle.dwg_grammar.specs.ToEnd.{short_all}
use Rattle.dwg_file.specs.Canonical.{class_content}
use Rattle.dwg_file.proofs.CanonicalParts.{padded_whole}

-- the content has the bits of the classes, and fewer than eight more
pub record IsPadded (count content : ℕ) : Type 0 where
  pub enough : count ≤ 8 * content
  pub close : 8 * content < count + 8

-- so it has
pub content_padded : (classes : List Class) → IsPadded (length (short_all numbered_class classes)) (length (class_content classes))
content_padded classes = record {
  enough = omega (arith, length_of_whole (padded classes) (padded_whole classes), length-append (short_all numbered_class classes) (padding (short_all numbered_class classes)));
  close =
      omega (
        arith,
        length_of_whole (padded classes) (padded_whole classes),
        length-append (short_all numbered_class classes) (padding (short_all numbered_class classes)),
        (padding_fills (short_all numbered_class classes)).1,
      );
}

-- its bits are the padded ones
pub bits_of_padded : (classes : List Class) → length (padded classes) ≡ 8 * length (class_content classes)
bits_of_padded classes = length_of_whole (padded classes) (padded_whole classes)

-- bytes with these bits are the whole bytes of them
pub bytes_of_bits : (bytes same : List ℕ) (s : List Bool) → same ≡ bytes → AreBytes bytes → bits bytes ≡ s → same ≡ whole_bytes s
bytes_of_bits bytes same s is all reported = is ∙ sym (whole_of_bits bytes all) ∙ ap whole_bytes reported
