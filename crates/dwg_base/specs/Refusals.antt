-- Why an input is refused: the first failing line of the table of refusals, with its place. A rule of this project.
use Rattle.std.specs.Prelude.{◌≡◌, ⊤, ℕ, ◌-◌, Bool, List, [], ◌∷◌, Option, Some, None, Result, Ok, Err, codes, nat_le, if◌then◌else◌, slice_index_or}
use Rattle.std.specs.Option.{option_or}
use Rattle.dwg_base.specs.Refusal.{Refusal}
use Rattle.dwg_base.specs.declared.refusal.Fault.{Fault}
use Rattle.dwg_base.specs.declared.refusal.Fault.TheVariants.{NoMemory, Refused}

-- one line of the table, or one group of lines that is tried item by item: its refusal of the bytes, if it fails
abbrev pub RefusalRow : Type 0
RefusalRow = List ℕ → Option Refusal

-- the refusal by a line, with its index and its place, where the line fails
abbrev pub refuse_if : Bool → ℕ → ℕ → ℕ → Option Refusal
refuse_if fails line index place = if fails then Some (record { line = line; index = index; place = place }) else None

-- the first refusal; a row is tried only where all rows before it hold
abbrev pub first_fault : List RefusalRow → List ℕ → Option Refusal
first_fault [] bytes = None
first_fault (row ∷ rows) bytes = option_or (row bytes) (first_fault rows bytes)

-- what a fault reports: a refusal is the first one, and out of memory reports nothing
abbrev pub Reports : Fault → Option Refusal → Type 0
Reports NoMemory first = ⊤
Reports (Refused refusal) first = first ≡ Some refusal

-- what a group of lines that is tried item by item gives: the value that was read, or the first refusal
abbrev pub Tried : Type 0 → Type 0
Tried V = Result V Refusal

-- the refusal of what was tried
abbrev pub fault_of : {V : Type 0} → Tried V → Option Refusal
fault_of (Ok value) = None
fault_of (Err refusal) = Some refusal

-- a call answers what was tried: its value or its refusal; out of memory reports nothing
abbrev pub Answers : {V : Type 0} → Result V Fault → Tried V → Type 0
Answers (Ok value) tried = tried ≡ Ok value
Answers (Err NoMemory) tried = ⊤
Answers (Err (Refused refusal)) tried = tried ≡ Err refusal

-- a refusal that a fault carries is one of which this holds
abbrev pub IfRefused : Fault → (Refusal → Type 0) → Type 0
IfRefused NoMemory Holds = ⊤
IfRefused (Refused refusal) Holds = Holds refusal

-- the part of the input that a line of the table speaks of: of a drawing, or the certificate before it
unfoldable pub part_word_of : ℕ → List ℕ
part_word_of line =
    if nat_le line 8 then codes "header"
    else (if nat_le line 13 then codes "variables"
    else (if nat_le line 20 then codes "classes"
    else (if nat_le line 26 then codes "map"
    else (if nat_le line 32 then codes "objects"
    else (if nat_le line 33 then codes "sections"
    else codes "certificate")))))

-- the reasons of the lines of the table, in the order of the table
abbrev pub REASONS : List (List ℕ)
REASONS =
    -- 1 to 8: the file header
    codes "short" ∷ codes "version" ∷ codes "count" ∷ codes "short" ∷ codes "check" ∷ codes "sentinel" ∷ codes "repeated" ∷ codes "missing"
    -- 9 to 13: the header variables
    ∷ codes "short" ∷ codes "begin" ∷ codes "length" ∷ codes "check" ∷ codes "end"
    -- 14 to 20: the classes
    ∷ codes "short" ∷ codes "begin" ∷ codes "length" ∷ codes "check" ∷ codes "end" ∷ codes "spelling" ∷ codes "number"
    -- 21 to 26: the object map
    ∷ codes "short" ∷ codes "size" ∷ codes "check" ∷ codes "pair" ∷ codes "null" ∷ codes "duplicate"
    -- 27 to 32: the objects
    ∷ codes "place" ∷ codes "length" ∷ codes "overlap" ∷ codes "check" ∷ codes "head" ∷ codes "handle"
    -- 33: unknown sections
    ∷ codes "short"
    -- 34 to 37: the certificate
    ∷ codes "short" ∷ codes "begin" ∷ codes "length" ∷ codes "entry" ∷ []

-- why a line of the table refuses
unfoldable pub reason_word_of : ℕ → List ℕ
reason_word_of line = slice_index_or REASONS (line - 1) []
