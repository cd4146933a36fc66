use Rattle.std.proofs.Common.{◌++◌}
use Rattle.std.specs.Prelude.{codes}
use Rattle.endings.proofs.Writing.{cut_short, then_writes, line_pieces, says, text_of}
use Rattle.endings.proofs.lines.say_words.Goals as goal

pub returns-in_err-put : goal.returns-in_err-put
returns-in_err-put g c = says _ _ _ _ _ (line_pieces c.args.first c.args.words.now)
    (cut_short _ _ (codes "cps:") _ _ _ _ c.in_err-put.was c.from_residual.ensures.0 c.put.ensures.writes)

pub returns-in_err-put_word : goal.returns-in_err-put_word
returns-in_err-put_word g c = says _ _ _ _ _ (line_pieces c.args.first c.args.words.now)
    (then_writes _ _ _ (codes "cps:") _ _ _ _ c.in_ok-put.was c.put.ensures.writes
    (cut_short _ _ _ (text_of c.args.words.now ++ codes "\n") _ _ _ c.in_err-put_word.was
    c.from_residual-in_err-put_word.ensures.0 c.put_word.ensures))

pub returns-in_err-put_words : goal.returns-in_err-put_words
returns-in_err-put_words g c = says _ _ _ _ _ (line_pieces c.args.first c.args.words.now)
    (then_writes _ _ _ (codes "cps:") _ _ _ _ c.in_ok-put.was c.put.ensures.writes
    (then_writes _ _ _ _ _ _ _ _ c.in_ok-put_word.was c.put_word.ensures
    (cut_short _ _ _ (codes "\n") _ _ _ c.in_err-put_words.was c.from_residual-in_err-put_words.ensures.0
    c.put_words.ensures)))

pub returns : goal.returns
returns g c = says _ _ _ _ _ (line_pieces c.args.first c.args.words.now)
    (then_writes _ _ _ (codes "cps:") _ _ _ _ c.in_ok-put.was c.put.ensures.writes
    (then_writes _ _ _ _ _ _ _ _ c.in_ok-put_word.was c.put_word.ensures
    (then_writes _ _ _ _ (codes "\n") _ _ _ c.in_ok-put_words.was c.put_words.ensures c.put-2.ensures.writes)))
