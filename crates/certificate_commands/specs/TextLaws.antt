-- What the texts of `certify` and `check` have in common, and how many bytes they have at most, over the bytes of their
-- files.
use Rattle.std.specs.Prelude.{◌≡◌, ℕ, ◌≤◌, ◌<◌, min, List, length, Result, Ok, Err}
use Rattle.arrivals.specs.declared.aerodrome.Aerodrome.{Aerodrome}
use Rattle.aerodrome_file.specs.Reading.{aerodrome_of}
use Rattle.aerodrome_file.specs.declared.fault.AeroFault.{AeroFault}
use Rattle.cps_base.specs.Limits.{most_bytes, most_waiting}
use Rattle.certificate.specs.declared.certificate.Claim.{Claim}
use Rattle.certificate.specs.declared.certificate.Claim.TheVariants.{Infeasible}
use Rattle.certificate.specs.States.{State}
use Rattle.certificate.specs.Spelling.{certificate_text}
use Rattle.cert_check.specs.Landings.{Landings}
use Rattle.text_bounds.specs.Counts.{flight_count}
use Rattle.text_bounds.specs.WholeCertificates.{IsLoadable, whole_bound}
use Rattle.endings.specs.declared.ending.Answer.{Answer}
use Rattle.certificate_commands.specs.Certify.{AdmitsCertify}
use Rattle.certificate_commands.specs.Check.{AdmitsCheck}

-- the texts are of one claim and of one list of states, and differ in their landing lines alone; where the claim is
-- that nothing is feasible they are one
pub record DifferInLandingsAlone (text other : List ℕ) : Type 0 where
  pub claim : Claim
  pub states : List State
  pub landings : Landings
  pub others : Landings
  pub first : text ≡ certificate_text (record { claim = claim; landings = landings; states = states })
  pub second : other ≡ certificate_text (record { claim = claim; landings = others; states = states })
  pub none : claim ≡ Infeasible → text ≡ other

-- two texts that `certify` may print for the same files
abbrev pub CertifyTextsLaw : Type 0
CertifyTextsLaw = (aerodrome flights text other : List ℕ) (answer another : Answer)
    → AdmitsCertify aerodrome flights text answer
    → AdmitsCertify aerodrome flights other another → DifferInLandingsAlone text other × (answer ≡ another)

-- ---- lengths

-- the bound of a certificate of the problem of the opening situation: at most `most_waiting` of its flights wait
abbrev pub certify_bound_of : Result Aerodrome AeroFault → ℕ → ℕ
certify_bound_of (Ok aerodrome) flights = whole_bound aerodrome.objective aerodrome.k (min most_waiting flights)
certify_bound_of (Err fault) flights = 0

abbrev pub certify_bound : List ℕ → List ℕ → ℕ
certify_bound aerodrome flights = certify_bound_of (aerodrome_of aerodrome) (flight_count flights)

-- a verdict's line has at most two numbers, of ten and of two digits
abbrev pub check_bound : ℕ
check_bound = 33

abbrev pub CertifyIsBoundedLaw : Type 0
CertifyIsBoundedLaw = (aerodrome flights text : List ℕ) (answer : Answer) → AdmitsCertify aerodrome flights text answer
    → length text ≤ certify_bound aerodrome flights

abbrev pub CheckIsBoundedLaw : Type 0
CheckIsBoundedLaw = (aerodrome flights certificate text : List ℕ) (answer : Answer)
    → AdmitsCheck aerodrome flights certificate text answer → length text ≤ check_bound

-- of so many flights each certificate is one that `check` loads
abbrev pub CertifyIsLoadableLaw : Type 0
CertifyIsLoadableLaw = (aerodrome flights text : List ℕ) (answer : Answer)
    → (printed : AdmitsCertify aerodrome flights text answer)
    → IsLoadable printed.aerodrome.objective printed.aerodrome.k (min most_waiting (length printed.flights))
    → length text < most_bytes
