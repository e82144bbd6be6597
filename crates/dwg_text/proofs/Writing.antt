-- Texts that are written one after the other.
use Rattle.std.proofs.Common.{◌≡◌, refl, sym, ◌∙◌, ap, subst, ℕ, List, [], ◌++◌, Some, None, append-nil, append_assoc}
use Rattle.std.specs.Prelude.{⊤, Option, Result, Ok, Err, OnOk, IfErr, string_bytes}
use Rattle.std.specs.Io.KnownBytes.{Appends}
use Rattle.std.proofs.KnownBytes.{Appends-trans, Appends-nil}
use Rattle.dwg_base.specs.Devices.{AppendsPrefix, Sends}
use Rattle.dwg_base.proofs.SendingLemmas.{sends_both, prefix_of_both}
use Rattle.dwg_text.specs.declared.text_writer.ShowFault.{ShowFault}
use Rattle.dwg_text.specs.declared.text_writer.ShowFault.TheVariants as causes
use Rattle.dwg_text.specs.declared.text_writer.TextWriter.{TextWriter}
use Rattle.dwg_text.specs.Writing.{Rises, IsCause, WritesTextBy, WritesText}

-- a prefix, and nothing after it
prefix_alone : (taken taken' taken'' : Option (List ℕ)) (text : List ℕ) → AppendsPrefix taken taken' text → Appends taken' taken'' [] → AppendsPrefix taken taken'' text
prefix_alone taken taken' taken'' text (prefix, whole, took) none =
    (prefix, whole, subst (λ run. Appends taken taken'' run) (append-nil prefix) (Appends-trans taken taken' taken'' prefix [] took none))

-- one text and then another
written_then : (fault fault' fault'' : Option ShowFault) (piece piece' piece'' : List ℕ) (taken taken' taken'' : Option (List ℕ)) (faults faults' faults'' : ℕ) (text more : List ℕ)
    → WritesTextBy fault fault' piece piece' taken taken' faults faults' text → WritesTextBy fault' fault'' piece' piece'' taken' taken'' faults' faults'' more
    → WritesTextBy fault fault'' piece piece'' taken taken'' faults faults'' (text ++ more)
unfolding WritesTextBy
written_then None None None piece piece' piece'' taken taken' taken'' faults faults' faults'' text more first then = record {
  sent = first.sent ++ then.sent;
  sends = Appends-trans taken taken' taken'' first.sent then.sent first.sends then.sends;
  whole = sym (append_assoc piece text more) ∙ ap (λ prefix. prefix ++ more) first.whole ∙ append_assoc first.sent piece' more
      ∙ ap (λ rest. first.sent ++ rest) then.whole ∙ sym (append_assoc first.sent then.sent piece'');
  quiet = then.quiet ∙ first.quiet;
}
written_then None None (Some fault) piece piece' piece'' taken taken' taken'' faults faults' faults'' text more first then =
    let whole : first.sent ++ (piece' ++ more) ≡ piece ++ (text ++ more) =
    sym (append_assoc first.sent piece' more) ∙ ap (λ prefix. prefix ++ more) (sym first.whole) ∙ append_assoc piece text more in
    let failed : Result ⊤ ShowFault = Err fault in (
      subst (λ all. AppendsPrefix taken taken'' all) whole (sends_both taken taken' taken'' first.sent (piece' ++ more) failed first.sends then.0),
      subst (λ n. IsCause fault n faults'') first.quiet then.1,
    )
written_then None (Some fault) None piece piece' piece'' taken taken' taken'' faults faults' faults'' text more first then = absurd then
written_then None (Some fault) (Some fault') piece piece' piece'' taken taken' taken'' faults faults' faults'' text more first then = (
  subst (λ all. AppendsPrefix taken taken'' all) (append_assoc piece text more)
      (prefix_alone taken taken' taken'' (piece ++ text ++ more) (prefix_of_both taken taken' (piece ++ text) more first.0) then.1),
  subst (λ one. IsCause one faults faults'') (sym then.0) (subst (λ n. IsCause fault faults n) (sym then.2) first.1),
)
written_then (Some fault) None fault'' piece piece' piece'' taken taken' taken'' faults faults' faults'' text more first then = absurd first
written_then (Some fault) (Some fault') None piece piece' piece'' taken taken' taken'' faults faults' faults'' text more first then = absurd then
written_then (Some fault) (Some fault') (Some fault'') piece piece' piece'' taken taken' taken'' faults faults' faults'' text more first then = (
  then.0 ∙ first.0,
  Appends-trans taken taken' taken'' [] [] first.1 then.1,
  then.2 ∙ first.2,
)

-- and so do pages: `first ▷ then`
infixl 50 ◌▷◌
pub ◌▷◌ : {writer writer' writer'' : TextWriter} {taken taken' taken'' : Option (List ℕ)} {faults faults' faults'' : ℕ} {text more : List ℕ}
    → WritesText writer writer' taken taken' faults faults' text → WritesText writer' writer'' taken' taken'' faults' faults'' more → WritesText writer writer'' taken taken'' faults faults'' (text ++ more)
◌▷◌ {writer} {writer'} {writer''} {taken} {taken'} {taken''} {faults} {faults'} {faults''} {text} {more} first then = record {
  written = written_then writer.fault writer'.fault writer''.fault (string_bytes writer.piece) (string_bytes writer'.piece) (string_bytes writer''.piece)
      taken taken' taken'' faults faults' faults'' text more first.written then.written;
}

-- the same, where what is written last is found first
pub writes_more : {writer writer' writer'' : TextWriter} {taken taken' taken'' : Option (List ℕ)} {faults faults' faults'' : ℕ} {text more : List ℕ}
    → WritesText writer' writer'' taken' taken'' faults' faults'' more → WritesText writer writer' taken taken' faults faults' text → WritesText writer writer'' taken taken'' faults faults'' (text ++ more)
writes_more then first = first ▷ then

-- what was pushed onto a writer goes on as the writer does
pushed_by : (fault' : Option ShowFault) (piece pushed piece' : List ℕ) (taken taken' : Option (List ℕ)) (faults faults' : ℕ) (text : List ℕ)
    → pushed ≡ piece ++ text → WritesTextBy None fault' pushed piece' taken taken' faults faults' [] → WritesTextBy None fault' piece piece' taken taken' faults faults' text
unfolding WritesTextBy
pushed_by None piece pushed piece' taken taken' faults faults' text push goes = record {
  sent = goes.sent;
  sends = goes.sends;
  whole = sym push ∙ sym (append-nil pushed) ∙ goes.whole;
  quiet = goes.quiet;
}
pushed_by (Some fault) piece pushed piece' taken taken' faults faults' text push goes =
    (subst (λ all. AppendsPrefix taken taken' all) (append-nil pushed ∙ push) goes.0, goes.1)

pub writes_pushed : (writer pushed writer' : TextWriter) (taken taken' : Option (List ℕ)) (faults faults' : ℕ) (text : List ℕ)
    → writer.fault ≡ None → pushed.fault ≡ None → string_bytes pushed.piece ≡ string_bytes writer.piece ++ text
    → WritesText pushed writer' taken taken' faults faults' [] → WritesText writer writer' taken taken' faults faults' text
writes_pushed writer pushed writer' taken taken' faults faults' text none still push writes = record {
  written = subst (λ fault. WritesTextBy fault writer'.fault (string_bytes writer.piece) (string_bytes writer'.piece) taken taken' faults faults' text) (sym none)
      (pushed_by writer'.fault (string_bytes writer.piece) (string_bytes pushed.piece) (string_bytes writer'.piece) taken taken' faults faults' text push
      (subst (λ fault. WritesTextBy fault writer'.fault (string_bytes pushed.piece) (string_bytes writer'.piece) taken taken' faults faults' []) still writes.written));
}

-- after a fault any text is written by doing nothing
idle_by : (fault : Option ShowFault) (stopped : ShowFault) (piece : List ℕ) (taken : Option (List ℕ)) (faults : ℕ) (text : List ℕ)
    → fault ≡ Some stopped → WritesTextBy fault fault piece piece taken taken faults faults text
unfolding WritesTextBy
idle_by None stopped piece taken faults text is = absurd cc
idle_by (Some fault) stopped piece taken faults text is = (refl, Appends-nil taken, refl)

pub writes_idle : (writer : TextWriter) (stopped : ShowFault) (taken : Option (List ℕ)) (faults : ℕ) (text : List ℕ) → writer.fault ≡ Some stopped
    → WritesText writer writer taken taken faults faults text
writes_idle writer stopped taken faults text is = record { written = idle_by writer.fault stopped (string_bytes writer.piece) taken faults text is }

-- what wants memory sends nothing
wanting_by : (piece piece' : List ℕ) (taken : Option (List ℕ)) (faults : ℕ) (text : List ℕ)
    → WritesTextBy None (Some causes.NoMemory) piece piece' taken taken faults faults text
unfolding WritesTextBy
wanting_by piece piece' taken faults text = (([], (piece ++ text, refl), Appends-nil taken), refl)

pub writes_wanting : (writer writer' : TextWriter) (taken : Option (List ℕ)) (faults : ℕ) (text : List ℕ) → writer.fault ≡ None → writer'.fault ≡ Some causes.NoMemory
    → WritesText writer writer' taken taken faults faults text
writes_wanting writer writer' taken faults text none wants = record {
  written = subst (λ fault. WritesTextBy fault writer'.fault (string_bytes writer.piece) (string_bytes writer'.piece) taken taken faults faults text) (sym none)
      (subst (λ fault. WritesTextBy None fault (string_bytes writer.piece) (string_bytes writer'.piece) taken taken faults faults text) (sym wants)
      (wanting_by (string_bytes writer.piece) (string_bytes writer'.piece) taken faults text));
}

-- a writer is sent whole
pub writes_sent : (writer writer' : TextWriter) (taken taken' : Option (List ℕ)) (faults faults' : ℕ) → writer.fault ≡ None → writer'.fault ≡ None → string_bytes writer'.piece ≡ []
    → Appends taken taken' (string_bytes writer.piece) → faults' ≡ faults → WritesText writer writer' taken taken' faults faults' []
unfolding WritesTextBy
writes_sent writer writer' taken taken' faults faults' none still empty sends quiet = record {
  written = subst (λ fault. WritesTextBy fault writer'.fault (string_bytes writer.piece) (string_bytes writer'.piece) taken taken' faults faults' []) (sym none)
      (subst (λ fault. WritesTextBy None fault (string_bytes writer.piece) (string_bytes writer'.piece) taken taken' faults faults' []) (sym still)
      (record { sent = string_bytes writer.piece; sends = sends; whole = ap (λ rest. string_bytes writer.piece ++ rest) (sym empty); quiet = quiet }));
}

-- or in part
pub writes_in_part : (writer writer' : TextWriter) (taken taken' : Option (List ℕ)) (faults faults' : ℕ) → writer.fault ≡ None → writer'.fault ≡ Some causes.WriteFault
    → AppendsPrefix taken taken' (string_bytes writer.piece) → Rises faults faults' → WritesText writer writer' taken taken' faults faults' []
unfolding WritesTextBy
writes_in_part writer writer' taken taken' faults faults' none failed part rises = record {
  written = subst (λ fault. WritesTextBy fault writer'.fault (string_bytes writer.piece) (string_bytes writer'.piece) taken taken' faults faults' []) (sym none)
      (subst (λ fault. WritesTextBy None fault (string_bytes writer.piece) (string_bytes writer'.piece) taken taken' faults faults' []) (sym failed)
      (subst (λ all. AppendsPrefix taken taken' all) (sym (append-nil (string_bytes writer.piece))) part, rises));
}

-- a writer that writes nothing
nothing_by : (fault : Option ShowFault) (piece : List ℕ) (taken : Option (List ℕ)) (faults : ℕ) → WritesTextBy fault fault piece piece taken taken faults faults []
unfolding WritesTextBy
nothing_by None piece taken faults = record { sent = []; sends = Appends-nil taken; whole = append-nil piece; quiet = refl }
nothing_by (Some fault) piece taken faults = (refl, Appends-nil taken, refl)

pub writes_nothing : (writer : TextWriter) (taken : Option (List ℕ)) (faults : ℕ) → WritesText writer writer taken taken faults faults []
writes_nothing writer taken faults = record { written = nothing_by writer.fault (string_bytes writer.piece) taken faults }

-- a text that was written from an empty writer on, and its last piece sent, was sent; or a prefix of it, where the writer has a fault
sent_by : {E : Type 0} (fault' : Option ShowFault) (piece' : List ℕ) (taken taken' : Option (List ℕ)) (faults faults' : ℕ) (text : List ℕ) (result : Result ⊤ E)
    → WritesTextBy None fault' [] piece' taken taken' faults faults' text → OnOk result ((fault' ≡ None) × (piece' ≡ [])) → IfErr result (λ fault. (stop : ShowFault) × (fault' ≡ Some stop))
    → Sends taken taken' text result
unfolding WritesTextBy
sent_by {E} None piece' taken taken' faults faults' text (Ok done) goes whole cut =
    subst (Appends taken taken') (sym (goes.whole ∙ ap (λ rest. goes.sent ++ rest) whole.1 ∙ append-nil goes.sent)) goes.sends
sent_by {E} (Some fault) piece' taken taken' faults faults' text (Ok done) goes whole cut = absurd cc
sent_by {E} None piece' taken taken' faults faults' text (Err stop) goes whole cut = absurd cc
sent_by {E} (Some fault) piece' taken taken' faults faults' text (Err stop) goes whole cut = goes.0

-- what the fault is that the last call writes
stop_of : (fault : Option ShowFault) (result : Result ⊤ ShowFault) → IfErr result (λ stop. fault ≡ Some stop) → IfErr result (λ _. (stop : ShowFault) × (fault ≡ Some stop))
stop_of fault (Ok done) cut = tt
stop_of fault (Err stop) cut = (stop, cut)

pub written_whole : (writer writer' : TextWriter) (taken taken' : Option (List ℕ)) (faults faults' : ℕ) (text whole : List ℕ) (result : Result ⊤ ShowFault)
    → string_bytes writer.piece ≡ [] → writer.fault ≡ None → text ≡ whole → WritesText writer writer' taken taken' faults faults' (text ++ [])
    → OnOk result ((writer'.fault ≡ None) × (string_bytes writer'.piece ≡ [])) → IfErr result (λ fault. writer'.fault ≡ Some fault) → Sends taken taken' whole result
written_whole writer writer' taken taken' faults faults' text whole result empty none same writes ends cut =
    sent_by writer'.fault (string_bytes writer'.piece) taken taken' faults faults' whole result
    (subst (λ piece. WritesTextBy None writer'.fault piece (string_bytes writer'.piece) taken taken' faults faults' whole) empty
    (subst (λ fault. WritesTextBy fault writer'.fault (string_bytes writer.piece) (string_bytes writer'.piece) taken taken' faults faults' whole) none
    (subst (λ all. WritesTextBy writer.fault writer'.fault (string_bytes writer.piece) (string_bytes writer'.piece) taken taken' faults faults' all) (append-nil text ∙ same) writes.written)))
    ends (stop_of writer'.fault result cut)
