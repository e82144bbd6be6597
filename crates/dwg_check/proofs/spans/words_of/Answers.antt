use Rattle.std.proofs.Common.{◌∙◌, ap, [], ◌∷◌, ◌++◌}
use Rattle.dwg_check.proofs.PrefixWords.{no_byte_yet, first_word, all_words}
use Rattle.dwg_check.proofs.spans.words_of.Goals as goal

pub bytes-init : goal.bytes-init
bytes-init c =
    (c.in_ok-push.ensures.items ∙ ap (λ words. words ++ 0 ∷ []) c.new-words.ensures.items ∙ first_word c.args.bytes.now, no_byte_yet c.args.bytes.now)

pub returns : goal.returns
returns c =
    all_words c.bytes.words.items c.args.bytes.now c.bytes.byte-index c.bytes.invariant.0 c.bytes-test.false c.bytes.auto.byte-index-end
