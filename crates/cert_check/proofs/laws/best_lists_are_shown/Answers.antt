-- The landings of a best list are shown optimal.
use Rattle.cert_check.proofs.ShownOrder.{best_order_shown}
use Rattle.cert_check.proofs.laws.best_lists_are_shown.Goals as goal

pub returns : goal.returns
returns c = λ p t order well best as_many ranks distinct. best_order_shown p well t order as_many ranks distinct best
