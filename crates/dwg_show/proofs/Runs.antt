-- So many texts, one after the other.
use Rattle.std.proofs.Common.{ℕ, List, ◌++◌}
use Rattle.std.specs.Prelude.{Option}
use Rattle.dwg_text.specs.declared.text_writer.TextWriter.{TextWriter}
use Rattle.dwg_text.specs.Writing.{WritesText}
use Rattle.dwg_text.proofs.Writing.{◌▷◌}

pub writes_2 : {p0 p1 p2 : TextWriter} {a0 a1 a2 : Option (List ℕ)} {f0 f1 f2 : ℕ} {t1 t2 : List ℕ}
    → WritesText p0 p1 a0 a1 f0 f1 t1 → WritesText p1 p2 a1 a2 f1 f2 t2
    → WritesText p0 p2 a0 a2 f0 f2 (t1 ++ t2)
writes_2 one two = one ▷ two

pub writes_4 : {p0 p1 p2 p3 p4 : TextWriter} {a0 a1 a2 a3 a4 : Option (List ℕ)} {f0 f1 f2 f3 f4 : ℕ} {t1 t2 t3 t4 : List ℕ}
    → WritesText p0 p1 a0 a1 f0 f1 t1 → WritesText p1 p2 a1 a2 f1 f2 t2 → WritesText p2 p3 a2 a3 f2 f3 t3 → WritesText p3 p4 a3 a4 f3 f4 t4
    → WritesText p0 p4 a0 a4 f0 f4 (t1 ++ t2 ++ t3 ++ t4)
writes_4 one two three four = one ▷ two ▷ three ▷ four
