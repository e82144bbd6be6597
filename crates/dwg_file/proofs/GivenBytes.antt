-- Bytes that are given to a sink piece by piece, while some of them wait.
use Rattle.std.proofs.Common.{◌≡◌, sym, ◌∙◌, ap, subst, ℕ, List, [], ◌++◌, append_assoc, append-nil}
use Rattle.std.proofs.KnownBytes.{Appends-nil, Appends-trans}
use Rattle.std.specs.Prelude.{Option, Result, Ok, Err}
use Rattle.std.specs.Io.KnownBytes.{Appends}
use Rattle.dwg_base.specs.Devices.{AppendsPrefix, Sends}
use Rattle.dwg_base.proofs.SendingLemmas.{prefix_of_both}
use Rattle.dwg_file.specs.WriteBuffer.{WritesWhole, WritesPrefix, Writes}

-- bytes that are put after what waits and wait too are given
pub waits : (now : Option (List ℕ)) (waited bytes waiting : List ℕ) → waiting ≡ waited ++ bytes → WritesWhole now now waited waiting bytes
waits now waited bytes waiting both = record { sent = []; taken = Appends-nil now; whole = sym both }

-- so are those that are put after it and sent with it
pub goes_out : (old new : Option (List ℕ)) (waited bytes all left : List ℕ) → all ≡ waited ++ bytes → Appends old new all → left ≡ [] → WritesWhole old new waited left bytes
goes_out old new waited bytes all left both sent none = record {
  sent = all;
  taken = sent;
  whole = sym both ∙ sym (append-nil all) ∙ ap (λ rest. all ++ rest) (sym none);
}

-- they are cut off where a prefix of both is sent
pub prefix_given : (old new : Option (List ℕ)) (waited bytes all : List ℕ) → all ≡ waited ++ bytes → AppendsPrefix old new all → WritesPrefix old new waited bytes
prefix_given old new waited bytes all both sent = subst (AppendsPrefix old new) both sent

-- where none wait, bytes that are sent as they are, are given, or cut off
pub sends_gives : {T E : Type 0} (old new : Option (List ℕ)) (waited waiting bytes : List ℕ) (result : Result T E) → waited ≡ [] → waiting ≡ [] → Sends old new bytes result
    → Writes old new waited waiting bytes result
sends_gives old new waited waiting bytes (Ok value) none still sent = goes_out old new waited bytes bytes waiting (ap (λ prefix. prefix ++ bytes) (sym none)) sent still
sends_gives old new waited waiting bytes (Err fault) none still sent = prefix_given old new waited bytes bytes (ap (λ prefix. prefix ++ bytes) (sym none)) sent

-- what waits is sent, or cut off
pub flushes : {T E : Type 0} (old new : Option (List ℕ)) (waited waiting : List ℕ) (result : Result T E) → waiting ≡ [] → Sends old new waited result → Writes old new waited waiting [] result
flushes old new waited waiting (Ok value) none sent = goes_out old new waited [] waited waiting (sym (append-nil waited)) sent none
flushes old new waited waiting (Err fault) none sent = prefix_given old new waited [] waited (sym (append-nil waited)) sent

-- what is given and then more is both
pub given_both : (a b c : Option (List ℕ)) (waited between waiting first second whole : List ℕ) → first ++ second ≡ whole → WritesWhole a b waited between first → WritesWhole b c between waiting second
    → WritesWhole a c waited waiting whole
given_both a b c waited between waiting first second whole same one two = record {
  sent = one.sent ++ two.sent;
  taken = Appends-trans a b c one.sent two.sent one.taken two.taken;
  whole =
      ap (λ all. waited ++ all) (sym same) ∙ sym (append_assoc waited first second) ∙ ap (λ all. all ++ second) one.whole ∙ append_assoc one.sent between second
      ∙ ap (λ rest. one.sent ++ rest) two.whole ∙ sym (append_assoc one.sent two.sent waiting);
}

-- bytes that are cut off are cut off with what was to be given after them
pub cut_before : (a b : Option (List ℕ)) (waited first second whole : List ℕ) → first ++ second ≡ whole → WritesPrefix a b waited first → WritesPrefix a b waited whole
cut_before a b waited first second whole same one =
    subst (AppendsPrefix a b) (append_assoc waited first second ∙ ap (λ all. waited ++ all) same) (prefix_of_both a b (waited ++ first) second one)

-- and with what was given before them
pub cut_after : (a b c : Option (List ℕ)) (waited between first second whole : List ℕ) → first ++ second ≡ whole → WritesWhole a b waited between first → WritesPrefix b c between second → WritesPrefix a c waited whole
cut_after a b c waited between first second whole same one (prefix, (rest, is), took) = (
  one.sent ++ prefix,
  (
    rest,
    ap (λ all. waited ++ all) (sym same) ∙ sym (append_assoc waited first second) ∙ ap (λ all. all ++ second) one.whole ∙ append_assoc one.sent between second
        ∙ ap (λ all. one.sent ++ all) is ∙ sym (append_assoc one.sent prefix rest),
  ),
  Appends-trans a b c one.sent prefix one.taken took,
)

-- what is given and then more is both, whatever becomes of the more
pub gives_both : {T E : Type 0} (a b c : Option (List ℕ)) (waited between waiting first second whole : List ℕ) (result : Result T E) → first ++ second ≡ whole
    → WritesWhole a b waited between first → Writes b c between waiting second result → Writes a c waited waiting whole result
gives_both a b c waited between waiting first second whole (Ok value) same one two = given_both a b c waited between waiting first second whole same one two
gives_both a b c waited between waiting first second whole (Err fault) same one two = cut_after a b c waited between first second whole same one two

-- what is cut off where none waited is sent in part
pub cut_sends : (old new : Option (List ℕ)) (waited bytes : List ℕ) → waited ≡ [] → WritesPrefix old new waited bytes → AppendsPrefix old new bytes
cut_sends old new waited bytes none cut = subst (AppendsPrefix old new) (ap (λ prefix. prefix ++ bytes) none) cut

-- what is given where none waited and none wait at the end is sent
given_sends : {T E : Type 0} (old new : Option (List ℕ)) (waited waiting bytes : List ℕ) (result : Result T E) → waited ≡ [] → waiting ≡ [] → Writes old new waited waiting bytes result
    → Sends old new bytes result
given_sends old new waited waiting bytes (Ok value) none still given =
    subst (Appends old new) (sym (ap (λ prefix. prefix ++ bytes) (sym none) ∙ given.whole ∙ ap (λ rest. given.sent ++ rest) still ∙ append-nil given.sent)) given.taken
given_sends old new waited waiting bytes (Err fault) none still cut = cut_sends old new waited bytes none cut

-- so is what is given and then sent with all that waits
pub flushed_sends : {T E : Type 0} (old mid new : Option (List ℕ)) (waited between waiting bytes : List ℕ) (result : Result T E) → waited ≡ [] → waiting ≡ [] → WritesWhole old mid waited between bytes
    → Writes mid new between waiting [] result → Sends old new bytes result
flushed_sends old mid new waited between waiting bytes result none still given flush =
    given_sends old new waited waiting bytes result none still (gives_both old mid new waited between waiting bytes [] bytes result (append-nil bytes) given flush)
