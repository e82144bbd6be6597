-- What a sink took of a piece that is sent in several calls.
use Rattle.std.proofs.Common.{ℕ, ◌+◌, List, take, drop, subst, sym, take-append-drop}
use Rattle.std.proofs.Math.Seq.{take-add}
use Rattle.std.proofs.KnownBytes.{Appends-trans, Appends-kept}
use Rattle.std.specs.Prelude.{Option}
use Rattle.std.specs.Io.KnownBytes.{Appends, Keeps}
use Rattle.dwg_base.specs.Devices.{AppendsPrefix}

-- the first n bytes of the piece, and then m bytes of what is after them
pub sent_more : (a b c : Option (List ℕ)) (piece : List ℕ) (n m : ℕ) → Appends a b (take n piece) → Appends b c (take m (drop n piece)) → Appends a c (take (n + m) piece)
sent_more a b c piece n m first more = subst (Appends a c) (sym (take-add n m piece)) (Appends-trans a b c _ _ first more)

-- a fault after the first n bytes leaves a prefix of the piece
pub sent_so_far : (a b c : Option (List ℕ)) (piece : List ℕ) (n : ℕ) → Appends a b (take n piece) → Keeps b c → AppendsPrefix a c piece
sent_so_far a b c piece n first kept = (take n piece, (drop n piece, sym (take-append-drop n piece)), Appends-kept a b c _ first kept)
