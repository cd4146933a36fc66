-- What the shape of a state says of its last rank.
use Rattle.std.proofs.Common.{rules, ◌≡◌, ◌≤◌, false}
use Rattle.landing_rules.specs.Problem.{Problem}
use Rattle.certificate.specs.States.{State}
use Rattle.cert_check.specs.Landings.{count}
use Rattle.cert_check.specs.States.{is_shaped, is_misshapen}

pub last_is_rank : (p : Problem) (s : State) → is_misshapen p s ≡ false → s.last ≤ count p
unfolding is_shaped
last_is_rank p s e = search rules
