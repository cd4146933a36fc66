-- Each pair is in range.
use Rattle.std.proofs.Common.{rules, ap, ◌∙◌}
use Rattle.std.proofs.lemmas.Bool.{and_parts, leb-true}
use Rattle.std.proofs.lemmas.List.Sums.{AllPass-from_list_all}
use Rattle.std.proofs.lemmas.Iterator.{YieldsList-from_slice}
use Rattle.std.proofs.lemmas.Iterator.Adapters.{serves_from_places}
use Rattle.certificate.specs.States.{is_pair}
use Rattle.cert_check.proofs.closure.misses_any.Goals as goal

pub any-requires-clause-callable : goal.any-requires-clause-callable
any-requires-clause-callable c = serves_from_places
    (YieldsList-from_slice c.args.pairs.now (cc)) (λ x q k. search rules) (λ x k lt e. let last = leb-true x.now.0 _
    (and_parts _ _ (ap is_pair e ∙ (AllPass-from_list_all is_pair c.args.pairs.now c.requires.pairs) k x.now lt)).0
    in search (rules, last))
