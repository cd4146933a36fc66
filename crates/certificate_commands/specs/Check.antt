-- What `check` prints over the contents of its three files, and which it refuses.
use Rattle.std.specs.Prelude.{◌≡◌, ℕ, List, None}
use Rattle.landing_rules.specs.Problem.{Problem, IsProblemOf}
use Rattle.landing_rules.specs.Sound.{IsSound}
use Rattle.cps_problem.specs.WellFormed.{IsWellFormed}
use Rattle.arrivals.specs.declared.aerodrome.Aerodrome.{Aerodrome}
use Rattle.arrivals.specs.declared.flight.Flight.{Flight}
use Rattle.certificate.specs.Reading.{Cert, IsCertificate, certificate_of}
use Rattle.cert_check.specs.Verdict.{verdict_of}
use Rattle.cert_check.specs.declared.verdict.Verdict.{Verdict}
use Rattle.sequencer.specs.Opened.{opened}
use Rattle.cps_outside.specs.SinkState.{SinkState}
use Rattle.endings.specs.declared.ending.Answer.{Answer}
use Rattle.endings.specs.declared.ending.Ending.{Ending}
use Rattle.endings.specs.declared.ending.FilesFault.{FilesFault}
use Rattle.endings.specs.declared.ending.FilesFault.TheVariants as refusal
use Rattle.endings.specs.Files.{HoldsOfThree}
use Rattle.endings.specs.Refusing.{RefusesThree, Stops, opening_refusal}
use Rattle.openings.specs.Follows.{FollowsAtOnce}
use Rattle.certificate_commands.specs.Verdicts.{verdict_text, answer_of_verdict, IsTrueOf}

abbrev pub RefusesCheck : List ℕ → List ℕ → List ℕ → FilesFault → Type 0
RefusesCheck = RefusesThree refusal.Certificate certificate_of

-- The files are taken. This is the verdict on the certificate for the problem of their opening situation, and what it
-- says of that situation is true. The situation, the problem and the certificate have their numbers in their ranges.
pub record IsJudged (aerodrome : Aerodrome) (flights : List Flight) (certificate : Cert)
    (verdict : Verdict) : Type 0 where
  pub taken : opening_refusal aerodrome flights ≡ None
  pub problem : Problem
  pub problem_of : IsProblemOf (opened aerodrome flights) problem
  pub verdict_is : verdict ≡ verdict_of problem certificate
  pub true_of : IsTrueOf (opened aerodrome flights) problem certificate.landings verdict
  pub sound : IsSound (opened aerodrome flights)
  pub well_formed : IsWellFormed problem
  pub in_form : IsCertificate certificate

-- The files read as an aerodrome, flights and a certificate, with this verdict.
abbrev pub Judges : List ℕ → List ℕ → List ℕ → Verdict → Type 0
Judges a f c verdict =
    HoldsOfThree certificate_of a f c (λ aerodrome flights certificate. IsJudged aerodrome flights certificate verdict)

-- The text is the line of that verdict.
pub record AdmitsCheck (aerodrome flights certificate text : List ℕ) (answer : Answer) : Type 0 where
  pub verdict : Verdict
  pub judges : Judges aerodrome flights certificate verdict
  pub prints : text ≡ verdict_text verdict
  pub answers : answer ≡ answer_of_verdict verdict

-- Two texts that `check` may print for the same files are one, with one answer.
abbrev pub CheckTextIsOneLaw : Type 0
CheckTextIsOneLaw = (aerodrome flights certificate text other : List ℕ) (answer another : Answer)
    → AdmitsCheck aerodrome flights certificate text answer → AdmitsCheck aerodrome flights certificate other another
    → (text ≡ other) × (answer ≡ another)

-- what `check` does, with this ending
abbrev pub FollowsCheck : List ℕ → List ℕ → List ℕ → SinkState → SinkState → Ending → Type 0
FollowsCheck aerodrome flights certificate =
    FollowsAtOnce (AdmitsCheck aerodrome flights certificate) (RefusesCheck aerodrome flights certificate)

-- how `check` may stop before it writes
abbrev pub StopsCheck : List ℕ → List ℕ → List ℕ → Ending → Type 0
StopsCheck aerodrome flights certificate = Stops (RefusesCheck aerodrome flights certificate)
