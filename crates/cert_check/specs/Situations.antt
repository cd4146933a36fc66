-- The verdict on a certificate is one for a situation, and so are the states that leave nothing out.
use Rattle.std.specs.Prelude.{◌≡◌, List}
use Rattle.landing_rules.specs.Flights.{Situation}
use Rattle.landing_rules.specs.Problem.{Problem, IsProblemOf}
use Rattle.certificate.specs.Reading.{Cert}
use Rattle.certificate.specs.States.{State}
use Rattle.cert_check.specs.Verdict.{verdict_of}
use Rattle.cert_check.specs.Whole.{AreWholeStates}

-- whichever problem of the situation it is judged for
abbrev pub OneVerdictLaw : Type 0
OneVerdictLaw = (s : Situation) (p q : Problem) (c : Cert) → IsProblemOf s p → IsProblemOf s q
    → verdict_of p c ≡ verdict_of q c

-- whichever problem of the situation they are those of
abbrev pub OneStatesLaw : Type 0
OneStatesLaw = (s : Situation) (p q : Problem) (ss ts : List State) → IsProblemOf s p → IsProblemOf s q
    → AreWholeStates p ss → AreWholeStates q ts → ss ≡ ts
