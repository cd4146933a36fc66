use Rattle.std.proofs.Common.{List, sym}
use Rattle.texts.specs.declared.words.Word.{Word}
use Rattle.endings.proofs.Writing.{word_more, all_words, then_fails, says}
use Rattle.endings.proofs.lines.put_words.Goals as goal

pub loop-word-preserved : goal.loop-word-preserved
loop-word-preserved g c = word_more _ _ _ c.args.words.now _ _ _ _ c.in_ok-put_word.was c.loop-word-test.true
    c.loop-word.invariant c.put_word.ensures

pub returns-in_err-put_word : goal.returns-in_err-put_word
returns-in_err-put_word g c =
    let words : List Word = c.args.words.now in
    says _ _ _ _ _ (sym (all_words words c.loop-word.word-index _ c.loop-word-test.true))
    (then_fails _ _ _ _ _ _ _ _ _ c.in_err-put_word.was c.from_residual.ensures.0 c.loop-word.invariant c.put_word.ensures)
