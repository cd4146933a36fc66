-- How many bytes a certificate has at most.
use Rattle.std.specs.Prelude.{ℕ, ◌+◌, ◌*◌, ◌≤◌, List, length, sum_by}
use Rattle.certificate.specs.States.{State}
use Rattle.certificate.specs.Reading.{Cert, IsCertificate}
use Rattle.certificate.specs.Spelling.{certificate_text}

-- how many pairs the states have together
abbrev pub pair_count : List State → ℕ
pair_count states = sum_by (λ (s : State). length s.pairs) states

-- the first two lines have at most 39 bytes, the line of a landing 21, that of a state 19 and 18 more for each of its
-- pairs
abbrev pub certificate_bound : ℕ → ℕ → ℕ → ℕ
certificate_bound landings states pairs = 39 + 21 * landings + 19 * states + 18 * pairs

abbrev pub CertificateIsBoundedLaw : Type 0
CertificateIsBoundedLaw = (c : Cert) → IsCertificate c →
    length (certificate_text c) ≤ certificate_bound (length c.landings) (length c.states) (pair_count c.states)
