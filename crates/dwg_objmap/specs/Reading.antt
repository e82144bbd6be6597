-- What one step of reading does to what is left to try. A rule of this project.
use Rattle.std.specs.Prelude.{◌≡◌, ⊤, ℕ, List, Result, Ok, Err}
use Rattle.dwg_base.specs.Refusals.{Tried}
use Rattle.dwg_base.specs.declared.refusal.Fault.{Fault}
use Rattle.dwg_base.specs.declared.refusal.Fault.TheVariants.{NoMemory, Refused}
use Rattle.dwg_objmap.specs.declared.pair.Pair.{Pair}
use Rattle.dwg_objmap.specs.declared.page_places.Page.{Page}

-- a step answers what is tried: it goes on from what it read, or its refusal is the one that is tried; out of memory reports nothing
abbrev pub GoesOn : {S V : Type 0} → Result S Fault → Tried V → (S → Tried V) → Type 0
GoesOn (Ok step) tried after = tried ≡ after step
GoesOn (Err NoMemory) tried after = ⊤
GoesOn (Err (Refused refusal)) tried after = tried ≡ Err refusal

-- a call answers the page that is tried: its pairs and the place after it, or its refusal; out of memory reports nothing
abbrev pub AnswersPage : Result Page Fault → Tried (List Pair) → ℕ → Type 0
AnswersPage (Ok page) tried end = (tried ≡ Ok page.pairs) × (page.next ≡ end)
AnswersPage (Err NoMemory) tried end = ⊤
AnswersPage (Err (Refused refusal)) tried end = tried ≡ Err refusal
