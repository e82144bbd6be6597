-- What a call that reads a frame answers. A rule of this project.
use Rattle.std.specs.Prelude.{◌≡◌, ⊤, Result, Ok, Err}
use Rattle.dwg_base.specs.Refusals.{Tried}
use Rattle.dwg_base.specs.declared.refusal.Fault.{Fault}
use Rattle.dwg_base.specs.declared.refusal.Fault.TheVariants.{NoMemory, Refused}
use Rattle.dwg_object.specs.declared.frame.Found.{Found}
use Rattle.dwg_object.specs.declared.span.Span.{Span}
use Rattle.dwg_object.specs.Objects.{HeadParts, value_of, handle_of, number_of}

-- what was found is what was tried: the end of the frame, and the number and the own handle of its head
pub record IsTried (found : Found) (tried : Tried (Span × HeadParts)) : Type 0 where
  pub span : Span
  pub parts : HeadParts
  pub tries : tried ≡ Ok (span, parts)
  pub same_end : found.end ≡ span.end
  pub same_number : number_of (value_of found.object) ≡ parts.number
  pub same_own : handle_of (value_of found.object) ≡ parts.own

-- a call answers what was tried of a frame: what was found, or the refusal; out of memory reports nothing
abbrev pub AnswersFrame : Result Found Fault → Tried (Span × HeadParts) → Type 0
AnswersFrame (Ok found) tried = IsTried found tried
AnswersFrame (Err NoMemory) tried = ⊤
AnswersFrame (Err (Refused refusal)) tried = tried ≡ Err refusal
