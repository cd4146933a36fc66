-- What `certify` prints over the contents of its two files. It refuses those that `plan` refuses.
use Rattle.std.specs.Prelude.{◌≡◌, ◌↔◌, ℕ, List, Ok, Option}
use Rattle.landing_rules.specs.Flights.{Schedule}
use Rattle.arrivals.specs.declared.aerodrome.Aerodrome.{Aerodrome}
use Rattle.arrivals.specs.declared.flight.Flight.{Flight}
use Rattle.certificate.specs.declared.certificate.Claim.{Claim}
use Rattle.certificate.specs.Reading.{Cert, certificate_of}
use Rattle.certificate.specs.Spelling.{certificate_text}
use Rattle.cert_check.specs.Whole.{IsWhole}
use Rattle.cert_check.specs.WholeLaws.{claimed}
use Rattle.cert_writer.specs.Answer.{ShowsAnswer}
use Rattle.cps_problem.specs.Plans.{IsAnswerOf}
use Rattle.cps_outside.specs.SinkState.{SinkState}
use Rattle.endings.specs.declared.ending.Answer.{Answer}
use Rattle.endings.specs.declared.ending.Answer.TheVariants.{Accepted, Certified}
use Rattle.endings.specs.declared.ending.Ending.{Ending}
use Rattle.endings.specs.declared.ending.FilesFault.{FilesFault}
use Rattle.endings.specs.Files.{HoldsOfTwo}
use Rattle.openings.specs.Follows.{FollowsAtOnce}
use Rattle.openings.specs.Plan.{RefusesPlan}
use Rattle.certificate_commands.specs.Check.{AdmitsCheck, IsJudged, RefusesCheck}
use Rattle.certificate_commands.specs.Verdicts.{verdict_text}

-- The files are taken. This certificate leaves nothing out of the problem of their opening situation, and its verdict
-- is what it claims, which is true of that situation. The claim and the landings, in landing order, are those of a best
-- and tight list of the problem; or nothing is feasible, and they say so.
pub record IsCertified (aerodrome : Aerodrome) (flights : List Flight) (certificate : Cert) : Type 0 where
  pub judged : IsJudged aerodrome flights certificate (claimed certificate.claim)
  pub whole : IsWhole judged.problem certificate
  pub answer : Option Schedule
  pub best : IsAnswerOf judged.problem answer
  pub shows : ShowsAnswer judged.problem answer certificate.claim certificate.landings

-- The text is that of such a certificate, and reads as it.
pub record Certifies (aerodrome : Aerodrome) (flights : List Flight) (text : List ℕ) (answer : Answer) : Type 0 where
  pub certificate : Cert
  pub certified : IsCertified aerodrome flights certificate
  pub prints : text ≡ certificate_text certificate
  pub reads : certificate_of text ≡ Ok certificate
  pub answers : answer ≡ Certified

-- The files read as an aerodrome and flights, of which the text says so.
abbrev pub AdmitsCertify : List ℕ → List ℕ → List ℕ → Answer → Type 0
AdmitsCertify a f text answer = HoldsOfTwo a f (λ aerodrome flights. Certifies aerodrome flights text answer)

-- what `certify` does, with this ending
abbrev pub FollowsCertify : List ℕ → List ℕ → SinkState → SinkState → Ending → Type 0
FollowsCertify aerodrome flights = FollowsAtOnce (AdmitsCertify aerodrome flights) (RefusesPlan aerodrome flights)

-- `check` takes this text as a certificate for the files, and answers it by the line of this claim and in no other way.
pub record IsAccepted (aerodrome flights text : List ℕ) (claim : Claim) : Type 0 where
  pub taken : (cause : FilesFault) → RefusesCheck aerodrome flights text cause → ⊥
  pub answered : (line : List ℕ) (told : Answer) → AdmitsCheck aerodrome flights text line told
      ↔ ((line ≡ verdict_text (claimed claim)) × (told ≡ Accepted))

-- A text that `certify` may print for two files is accepted with what it claims, for the same files.
abbrev pub PrintedIsAcceptedLaw : Type 0
PrintedIsAcceptedLaw = (aerodrome flights text : List ℕ) (answer : Answer)
    (printed : AdmitsCertify aerodrome flights text answer) →
    IsAccepted aerodrome flights text printed.holds.certificate.claim
