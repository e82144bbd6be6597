use Rattle.std.proofs.Common.{◌≡◌, ◌∙◌, ap, ap₂, List, ℕ, ◌++◌, take-append-drop}
use Rattle.std.proofs.lemmas.Result.{err_from_is_err_and}
use Rattle.dwg_file.proofs.GivenBytes.{waits, goes_out, prefix_given, given_both, gives_both, cut_before, sends_gives}
use Rattle.dwg_file.proofs.write_buffer.WriteBuffer.write.Goals as goal

pub returns-in_err-send-clause-writes : goal.returns-in_err-send-clause-writes
returns-in_err-send-clause-writes g c =
    let p = err_from_is_err_and c.from_residual.result c.from_residual.ensures.1 in
    rw p.1 (
    let pieces = c.split_at.result in
    let whole : pieces.0.now ++ pieces.1.now ≡ c.args.bytes.now = ap₂ (λ (prefix back : List ℕ). prefix ++ back) c.split_at.ensures.front c.split_at.ensures.back ∙ take-append-drop _ c.args.bytes.now in
    let both : c.append_bytes-2.new.bytes.items ≡ c.args.self.now ++ pieces.0.now = c.append_bytes-2.ensures.both ∙ ap (λ (waited : List ℕ). waited ++ pieces.0.now) c.self.view_is in
    cut_before _ _ c.args.self.now pieces.0.now pieces.1.now c.args.bytes.now whole (prefix_given _ _ c.args.self.now pieces.0.now _ both c.in_err-send.ensures.sends)
    )

pub returns-then-rest-lt-LEAST_PIECE-clause-writes : goal.returns-then-rest-lt-LEAST_PIECE-clause-writes
returns-then-rest-lt-LEAST_PIECE-clause-writes g c =
    let pieces = c.split_at.result in
    let whole : pieces.0.now ++ pieces.1.now ≡ c.args.bytes.now = ap₂ (λ (prefix back : List ℕ). prefix ++ back) c.split_at.ensures.front c.split_at.ensures.back ∙ take-append-drop _ c.args.bytes.now in
    let both : c.append_bytes-2.new.bytes.items ≡ c.args.self.now ++ pieces.0.now = c.append_bytes-2.ensures.both ∙ ap (λ (waited : List ℕ). waited ++ pieces.0.now) c.self.view_is in
    given_both _ _ _ c.args.self.now c.send.new.bytes.items _ pieces.0.now pieces.1.now c.args.bytes.now whole
    (goes_out _ _ c.args.self.now pieces.0.now _ _ both c.in_ok-send.ensures.sends c.in_ok-send.ensures.none)
    (waits _ c.send.new.bytes.items pieces.1.now _ c.append_bytes-then-rest-lt-LEAST_PIECE.ensures.both)

pub returns-clause-writes : goal.returns-clause-writes
returns-clause-writes g c =
    let pieces = c.split_at.result in
    let whole : pieces.0.now ++ pieces.1.now ≡ c.args.bytes.now = ap₂ (λ (prefix back : List ℕ). prefix ++ back) c.split_at.ensures.front c.split_at.ensures.back ∙ take-append-drop _ c.args.bytes.now in
    let both : c.append_bytes-2.new.bytes.items ≡ c.args.self.now ++ pieces.0.now = c.append_bytes-2.ensures.both ∙ ap (λ (waited : List ℕ). waited ++ pieces.0.now) c.self.view_is in
    gives_both _ _ _ c.args.self.now c.send.new.bytes.items _ pieces.0.now pieces.1.now c.args.bytes.now _ whole
    (goes_out _ _ c.args.self.now pieces.0.now _ _ both c.in_ok-send.ensures.sends c.in_ok-send.ensures.none)
    (sends_gives _ _ _ _ pieces.1.now _ c.in_ok-send.ensures.none c.in_ok-send.ensures.none c.put_all.ensures.bytes)
