-- What it means that no line on a certificate fails.
use Rattle.std.proofs.Common.{◌≡◌, refl, ◌∙◌, ap, ℕ, ◌≤◌, Bool, true, false, List, Option, Some, None, length, take, ltb-false, le-ltb}
use Rattle.std.specs.Prelude.{Ok, Err}
use Rattle.std.specs.Option.{option_or}
use Rattle.std.proofs.lemmas.Bool.{not-false, not_from_true}
use Rattle.std.proofs.lemmas.Slice.Eq.{bytes_eq-Decides}
use Rattle.dwg_base.specs.Refusals.{Tried, Answers, Reports, refuse_if, fault_of, first_fault}
use Rattle.dwg_base.specs.Refusal.{Refusal}
use Rattle.dwg_base.specs.declared.refusal.Fault.{Fault}
use Rattle.dwg_base.specs.declared.refusal.Fault.TheVariants.{NoMemory, Refused}
use Rattle.dwg_cert.specs.declared.entry.Entry.{Entry}
use Rattle.dwg_cert.specs.WrittenForm.{MAGIC, size_of}
use Rattle.dwg_cert.specs.CertificateLines.{CERTIFICATE_LINES, count_at, short_line, begin_line, length_line, entry_line, tried_certificate}

-- what each line before the entries asks of the bytes
pub record HasRoom (bytes : List ℕ) : Type 0 where
  pub long : 16 ≤ length bytes
  pub magic : take 8 bytes ≡ MAGIC
  pub whole : size_of (count_at bytes) ≤ length bytes

-- a line that does not refuse has its test false
no_refusal : (test : Bool) (line index place : ℕ) → refuse_if test line index place ≡ None → test ≡ false
no_refusal false line index place none = refl
no_refusal true line index place none = absurd cc

-- a line whose test is false does not refuse
keeps : (test : Bool) (line index place : ℕ) → test ≡ false → refuse_if test line index place ≡ None
keeps false line index place holds = refl
keeps true line index place holds = absurd cc

-- where the first of two gives none, both give what the second does
none_first : (first second : Option Refusal) → first ≡ None → option_or first second ≡ second
none_first None second none = refl
none_first (Some refusal) second none = absurd cc

-- and no refusal of two is none of either
both_none : (first second : Option Refusal) → option_or first second ≡ None → (first ≡ None) × (second ≡ None)
both_none None second none = (refl, none)
both_none (Some refusal) second none = absurd cc

-- where the three lines before the entries hold, the input has room
pub room_from_lines : (bytes : List ℕ) → short_line bytes ≡ None → begin_line bytes ≡ None → length_line bytes ≡ None → HasRoom bytes
unfolding short_line begin_line length_line
room_from_lines bytes short begin long = record {
  long = ltb-false _ _ (no_refusal _ 34 0 (length bytes) short);
  magic = (bytes_eq-Decides (take 8 bytes) MAGIC).0 (not-false _ (no_refusal _ 35 0 0 begin));
  whole = ltb-false _ _ (no_refusal _ 36 0 8 long);
}

-- where it has, they hold, and so the first line that fails is that on the entries
pub entries_decide : (bytes : List ℕ) → HasRoom bytes → first_fault CERTIFICATE_LINES bytes ≡ entry_line bytes
unfolding short_line begin_line length_line
entries_decide bytes room =
    let short : short_line bytes ≡ None = keeps _ 34 0 (length bytes) (le-ltb _ _ room.long) in
    let begin : begin_line bytes ≡ None = keeps _ 35 0 0 (not_from_true _ ((bytes_eq-Decides (take 8 bytes) MAGIC).1 room.magic)) in
    let long : length_line bytes ≡ None = keeps _ 36 0 8 (le-ltb _ _ room.whole) in
    none_first (short_line bytes) _ short ∙ (none_first (begin_line bytes) _ begin ∙ (none_first (length_line bytes) _ long ∙ alone (entry_line bytes)))
  where
    alone : (one : Option Refusal) → option_or one None ≡ one
    alone None = refl
    alone (Some refusal) = refl

-- where no line fails, the input has room, and entries are read
pub room_from_none : (bytes : List ℕ) → first_fault CERTIFICATE_LINES bytes ≡ None → HasRoom bytes × (entry_line bytes ≡ None)
room_from_none bytes none =
    let short = both_none (short_line bytes) _ none in
    let begin = both_none (begin_line bytes) _ short.1 in
    let long = both_none (length_line bytes) _ begin.1 in
    (room_from_lines bytes short.0 begin.0 long.0, (both_none (entry_line bytes) None long.1).0)

-- where the three lines before the entries give none, the input has room
pub room_from_prefix : (bytes : List ℕ) → option_or (short_line bytes) (option_or (begin_line bytes) (option_or (length_line bytes) None)) ≡ None → HasRoom bytes
room_from_prefix bytes none =
    let short = both_none (short_line bytes) _ none in
    let begin = both_none (begin_line bytes) _ short.1 in
    room_from_lines bytes short.0 begin.0 (both_none (length_line bytes) None begin.1).0

-- entries that are read give no refusal
pub none_of_read : (bytes : List ℕ) (entries : List Entry) → tried_certificate bytes ≡ Ok entries → entry_line bytes ≡ None
unfolding entry_line
none_of_read bytes entries tried = ap (λ (t : Tried (List Entry)). fault_of t) tried

-- and where there is none, entries are read
pub read_of_none : (bytes : List ℕ) → entry_line bytes ≡ None → (entries : List Entry) × (tried_certificate bytes ≡ Ok entries)
unfolding entry_line
read_of_none bytes none = given (tried_certificate bytes) refl none
  where
    given : (tried : Tried (List Entry)) → tried_certificate bytes ≡ tried → fault_of tried ≡ None → (entries : List Entry) × (tried_certificate bytes ≡ Ok entries)
    given (Ok entries) same none = (entries, same)
    given (Err refusal) same none = absurd cc

-- a fault in reading the entries reports the first line that fails
pub fault_reports : (bytes : List ℕ) (fault : Fault) → HasRoom bytes → Answers {V = List Entry} (Err fault) (tried_certificate bytes) → Reports fault (first_fault CERTIFICATE_LINES bytes)
unfolding entry_line
fault_reports bytes NoMemory room answers = tt
fault_reports bytes (Refused refusal) room answers = entries_decide bytes room ∙ ap (λ (t : Tried (List Entry)). fault_of t) answers
