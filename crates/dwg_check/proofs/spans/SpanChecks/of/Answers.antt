use Rattle.std.proofs.Common.{◌∙◌, ap}
use Rattle.dwg_check.specs.Spans.{prefix_words}
use Rattle.dwg_check.proofs.PrefixWords.{span_word}
use Rattle.dwg_check.proofs.spans.SpanChecks.of.Goals as goal

pub returns-clause-word : goal.returns-clause-word
returns-clause-word g c =
    span_word c.self.inside.words.items c.args.self.now c.args.start c.args.from c.args.to c.index-first.result.now c.index-last.result.now c.after_zeros.result
    (c.self.invariant ∙ ap prefix_words c.self.view_is) c.requires.order c.requires.within c.index-first.ensures c.index-last.ensures c.after_zeros.ensures.word
