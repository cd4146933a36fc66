-- The certificate that a text is, or the first fault of its first line that has one.
use Rattle.std.specs.Prelude.{◌≡◌, ℕ, ◌+◌, ◌<◌, ◌≤◌, List, [], ◌∷◌, ◌++◌, true, ◌==◌, length, codes, bytes_eq, Option}
use Rattle.std.specs.Prelude.{Some, None, Result, Ok, Err, if◌then◌else◌}
use Rattle.cps_base.specs.Answers.{◌>>=◌, Fails}
use Rattle.cps_base.specs.Text.{is_callsign}
use Rattle.cps_base.specs.Limits.{greatest_value, greatest_word}
use Rattle.landing_rules.specs.Rules.{last_second}
use Rattle.certificate.specs.declared.certificate.Claim.{Claim}
use Rattle.certificate.specs.declared.certificate.Claim.TheVariants.{Optimal, Infeasible}
use Rattle.certificate.specs.declared.fault.CertFault.{CertFault}
use Rattle.certificate.specs.declared.fault.CertFault.TheVariants as fault
use Rattle.certificate.specs.States.{State, follows, AreStates, AreAscending}
use Rattle.texts.specs.Parts.{parts}
use Rattle.certificate.specs.Lines.{claim_in, landing_in, state_in}

pub record Cert : Type 0 where
  pub claim : Claim
  pub landings : List (List ℕ × ℕ)
  pub states : List State

abbrev pub IsClaim : Claim → Type 0
IsClaim (Optimal v) = v ≤ greatest_value
IsClaim Infeasible = Unit {0}

abbrev pub AreLandings : List (List ℕ × ℕ) → Type 0
AreLandings [] = Unit {0}
AreLandings (l ∷ ls) = (is_callsign l.0 ≡ true) × (l.1 ≤ last_second) × AreLandings ls

pub record IsCertificate (c : Cert) : Type 0 where
  pub claim : IsClaim c.claim
  pub landings : AreLandings c.landings
  pub states : AreStates c.states
  pub ascending : AreAscending c.states
  pub few : length c.states < greatest_word

-- the landings and the states so far
abbrev pub Body : Type 0
Body = List (List ℕ × ℕ) × List State

abbrev pub with_landing : ℕ → Body → Option (List ℕ × ℕ) → Result Body CertFault
with_landing n b None = Err (fault.Line n)
with_landing n b (Some l) = if length b.1 == 0 then Ok (b.0 ++ l ∷ [], b.1) else Err (fault.Line n)

abbrev pub with_state : ℕ → Body → List ℕ → Option State → Result Body CertFault
with_state n b line None = with_landing n b (landing_in line)
with_state n b line (Some s) = if follows b.1 s then Ok (b.0, b.1 ++ s ∷ []) else Err (fault.Order n)

-- the landings and the states after line n
unfoldable pub line_in : ℕ → Body → List ℕ → Result Body CertFault
line_in n b line = with_state n b line (state_in line)

-- the certificate of the lines from line n on, behind what was read before; behind the last line feed nothing stands
unfoldable pub lines_in : ℕ → Claim → Body → List ℕ → List (List ℕ) → Result Cert CertFault
lines_in n c b line [] = if length line == 0 then Ok (record { claim = c; landings = b.0; states = b.1 })
    else Err (fault.Line n)
lines_in n c b line (next ∷ rest) = line_in n b line >>= (λ more. lines_in (n + 1) c more next rest)

abbrev pub body_lines : Claim → List (List ℕ) → Result Cert CertFault
body_lines c [] = Err (fault.Line 2)
body_lines c (line ∷ rest) = lines_in 3 c ([], []) line rest

abbrev pub body_behind : Option Claim → List (List ℕ) → Result Cert CertFault
body_behind None rest = Err (fault.Line 2)
body_behind (Some c) rest = body_lines c rest

abbrev pub claim_behind : List (List ℕ) → Result Cert CertFault
claim_behind [] = Err (fault.Line 1)
claim_behind (line ∷ rest) = body_behind (claim_in line) rest

unfoldable pub certificate_by : List (List ℕ) → Result Cert CertFault
certificate_by [] = Err (fault.Line 1)
certificate_by (line ∷ rest) = if bytes_eq line (codes "certificate 1") then claim_behind rest else Err (fault.Line 1)

unfoldable pub certificate_of : List ℕ → Result Cert CertFault
certificate_of bytes = certificate_by (parts 10 bytes)

-- memory ran out
abbrev pub memory_fault : CertFault
memory_fault = fault.Memory

-- what one line leaves, unless memory ran out
abbrev pub Takes : Result (Unit {0}) CertFault → Body → Result Body CertFault → Type 0
Takes (Ok x) new read = read ≡ Ok new
Takes (Err e) new read = Fails memory_fault e read
