use Rattle.std.proofs.Common.{◌∙◌, sym}
use Rattle.map_forms.proofs.Words.{words_more, words_less, words_end}
use Rattle.map_forms.proofs.names.are_words.Goals as goal

pub returns-then-not-is_good : goal.returns-then-not-is_good
returns-then-not-is_good c =
    sym (words_less c.args.bytes.now c.loop-byte.byte-index c.loop-byte-test.true
    (sym c.is_word-is_good.ensures ∙ c.if-not-is_good.true)) ∙ c.loop-byte.invariant

pub loop-byte-preserved : goal.loop-byte-preserved
loop-byte-preserved c =
    words_more c.args.bytes.now c.loop-byte.byte-index c.loop-byte-test.true
    (sym c.is_word-is_good.ensures ∙ c.if-not-is_good.false) ∙ c.loop-byte.invariant

pub returns : goal.returns
returns c = sym (words_end c.args.bytes.now c.loop-byte.byte-index c.loop-byte-test.false) ∙ c.loop-byte.invariant
