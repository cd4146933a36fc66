use Rattle.std.proofs.Common.{take}
use Rattle.endings.proofs.Writing.{Written, text_of}
use Rattle.endings.proofs.lines.put_words.Given as goal

-- the words so far were put
abbrev pub invariant-loop-word : goal.invariant-loop-word
invariant-loop-word g l =
    Written (g.E.Sink.state l.fn.err) (g.E.Sink.state l.err) (text_of (take l.word-index l.fn.words))
