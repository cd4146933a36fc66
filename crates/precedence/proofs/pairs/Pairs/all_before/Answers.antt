use Rattle.std.proofs.lemmas.Bool.Decides.{Decides-eqb}
use Rattle.precedence.proofs.PairsLemmas.{and-same}
use Rattle.precedence.proofs.pairs.Pairs.all_before.Goals as goal

pub returns-clause-all : goal.returns-clause-all
returns-clause-all c = rw (← c.self.view_is) (
  λ t. (and-same _ _).0 ((Decides-eqb _ _).0 t),
  λ all. (Decides-eqb _ _).1 ((and-same _ _).1 all),
)
