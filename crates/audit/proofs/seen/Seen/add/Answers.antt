use Rattle.std.proofs.Common.{ℕ, List, ◌||◌, ap, ◌∙◌}
use Rattle.std.specs.Str.{bytes_eq}
use Rattle.audit.specs.Seen.{has_name}
use Rattle.audit.proofs.SeenNames.{has-insert}
use Rattle.audit.proofs.seen.Seen.add.Goals as goal

pub returns-clause-more : goal.returns-clause-more
returns-clause-more c d = ap (λ (ks : List (List ℕ)). has_name ks d) c.in_ok-is_new.ensures.keys
    ∙ has-insert c.self.inside.callsigns.keys c.args.callsign d
    ∙ ap (λ (ks : List (List ℕ)). bytes_eq c.args.callsign d || has_name ks d) c.self.view_is
