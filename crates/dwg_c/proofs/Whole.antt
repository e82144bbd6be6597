-- What both buffers hold is the answer, where they have room for it.
use Rattle.std.proofs.Common.{◌≡◌, ◌<◌, ◌≤◌, ◌∙◌, ◌⊎◌, ℕ, List, length, take, inl, inr}
use Rattle.std.proofs.lemmas.List.{take_all}
use Rattle.dwg_commands.specs.declared.outcome.Outcome.{Outcome}
use Rattle.dwg_commands.specs.declared.status.Status.{Status}
use Rattle.dwg_commands.specs.declared.status.Status.TheVariants.{WriteFault}
use Rattle.dwg_commands.specs.Run.{IsSettled}
use Rattle.dwg_commands.specs.Status.{code_of}
use Rattle.dwg_c.specs.Answers.{Left, HasSizes, Answers}
use Rattle.dwg_c.specs.Buffers.{Keeps}

-- a buffer with room for all bytes begins with them
begins : (buffer bytes : List ℕ) (size : ℕ) → Keeps buffer bytes → size ≡ length bytes → size ≤ length buffer → take size buffer ≡ bytes
begins buffer bytes size keeps is fits = rw is (keeps ∙ take_all (length buffer) bytes (rw (← is) fits))

-- what was sent is answered
pub answered : (answer : Outcome) (left : Left) (status : Status) → HasSizes answer left → Keeps left.output answer.output → Keeps left.notes answer.note
    → IsSettled answer.status → status ≡ answer.status
    → ((left.status ≡ code_of WriteFault) × ((length left.output < left.written) ⊎ (length left.notes < left.noted)))
    ⊎ ((left.status ≡ code_of status) × (left.written ≤ length left.output) × (left.noted ≤ length left.notes))
    → Answers answer left
answered answer left status sizes output notes settled is ends =
    inr (
      sizes,
      elim ends [
        | inl short ↦ inl short
        | inr whole ↦ inr (settled, (rw (← is) whole.0), begins left.output answer.output left.written output sizes.0 whole.1, begins left.notes answer.note left.noted notes sizes.1 whole.2)
      ],
    )
