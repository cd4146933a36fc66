-- How many bytes a certificate has at most that leaves nothing out.
use Rattle.std.specs.Prelude.{ℕ, zero, suc, ◌*◌, ◌<◌, ◌≤◌, length}
use Rattle.landing_rules.specs.declared.objective.Objective.{Objective}
use Rattle.landing_rules.specs.declared.objective.Objective.TheVariants.{Makespan, Delay}
use Rattle.landing_rules.specs.Flights.{Situation}
use Rattle.cps_base.specs.Limits.{greatest_k, most_bytes, most_open_seconds, most_waiting}
use Rattle.landing_rules.specs.Problem.{IsProblemOf, Problem}
use Rattle.landing_rules.specs.Sound.{IsSound}
use Rattle.cps_problem.specs.WellFormed.{IsWellFormed}
use Rattle.certificate.specs.Reading.{Cert, IsCertificate}
use Rattle.certificate.specs.Spelling.{certificate_text}
use Rattle.cert_check.specs.Whole.{IsWhole}
use Rattle.cert_check.specs.WholeSizes.{most_nodes}
use Rattle.text_bounds.specs.Certificates.{certificate_bound}

-- how many pairs a state has: one for the makespan, and for delay one for each second that its last flight may land at
abbrev pub most_pairs : Objective → ℕ
most_pairs Makespan = 1
most_pairs Delay = most_open_seconds

-- of n waiting flights that may be shifted by k
abbrev pub whole_bound : Objective → ℕ → ℕ → ℕ
whole_bound o k n = certificate_bound n (n * most_nodes k) (n * most_nodes k * most_pairs o)

abbrev pub WholeCertificateIsBoundedLaw : Type 0
WholeCertificateIsBoundedLaw = (s : Situation) (p : Problem) (c : Cert) → IsSound s → IsProblemOf s p
    → IsWellFormed p → IsCertificate c → IsWhole p c
    → length (certificate_text c) ≤ whole_bound p.objective p.k (length p.flights)

-- with so many waiting flights each certificate is one that `check` loads: for the makespan always, for delay always
-- with no shift, with up to 32 flights with a shift of one place, and with up to 7 with a shift of two
abbrev pub IsLoadable : Objective → ℕ → ℕ → Type 0
IsLoadable Makespan k n = (k ≤ greatest_k) × (n ≤ most_waiting)
IsLoadable Delay zero n = n ≤ most_waiting
IsLoadable Delay (suc zero) n = n ≤ 32
IsLoadable Delay (suc (suc zero)) n = n ≤ 7
IsLoadable Delay (suc (suc (suc k))) n = ⊥

abbrev pub LoadableIsShortLaw : Type 0
LoadableIsShortLaw = (o : Objective) (k n : ℕ) → IsLoadable o k n → whole_bound o k n < most_bytes
