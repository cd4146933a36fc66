-- What `audit` prints over the contents of its three files, and which it refuses.
use Rattle.std.specs.Prelude.{⊤, ◌≡◌, ◌↔◌, ◌≤◌, ℕ, ◌+◌, ◌*◌, List, [], ◌∷◌, length, codes, None, Ok, Result}
use Rattle.landing_rules.specs.Flights.{Situation}
use Rattle.landing_rules.specs.Text.{line}
use Rattle.landing_rules.specs.Audit.{Finding, IsClean, findings}
use Rattle.landing_rules.specs.Sound.{IsSound}
use Rattle.arrivals.specs.declared.aerodrome.Aerodrome.{Aerodrome}
use Rattle.arrivals.specs.declared.flight.Flight.{Flight}
use Rattle.plan_file.specs.declared.plan.PlanFault.{PlanFault}
use Rattle.plan_file.specs.declared.plan.PlanText.{PlanText}
use Rattle.plan_file.specs.declared.plan.PlanText.TheVariants as plans
use Rattle.plan_file.specs.Blocks.{seen_block}
use Rattle.plan_file.specs.Reading.{plan_of}
use Rattle.audit.specs.Texts.{findings_text}
use Rattle.sequencer.specs.Opened.{opened}
use Rattle.text_bounds.specs.Counts.{flight_count}
use Rattle.cps_outside.specs.SinkState.{SinkState}
use Rattle.endings.specs.declared.ending.Answer.{Answer}
use Rattle.endings.specs.declared.ending.Answer.TheVariants.{Clean, Broken, Claimed}
use Rattle.endings.specs.declared.ending.Ending.{Ending}
use Rattle.endings.specs.declared.ending.FilesFault.{FilesFault}
use Rattle.endings.specs.declared.ending.FilesFault.TheVariants as refusal
use Rattle.endings.specs.Files.{HoldsOfThree}
use Rattle.endings.specs.Refusing.{RefusesThree, Stops, opening_refusal}
use Rattle.openings.specs.Follows.{FollowsAtOnce}

abbrev pub RefusesAudit : List ℕ → List ℕ → List ℕ → FilesFault → Type 0
RefusesAudit = RefusesThree refusal.Plan plan_of

-- the lines of the findings, or that there is none
abbrev pub report : List Finding → List ℕ
report [] = line (codes "ok")
report (first ∷ others) = findings_text (first ∷ others)

abbrev pub report_answer : List Finding → Answer
report_answer [] = Clean
report_answer (first ∷ others) = Broken

-- what is printed of a plan in a situation. That there is no plan is a claim, which is not judged
abbrev pub audit_text : Situation → PlanText → List ℕ
audit_text s plans.Nothing = line (codes "infeasible claimed")
audit_text s (plans.Block b) = report (findings s (seen_block b))

abbrev pub audit_answer : Situation → PlanText → Answer
audit_answer s plans.Nothing = Claimed
audit_answer s (plans.Block b) = report_answer (findings s (seen_block b))

-- `ok` is printed of a block exactly where it is that of a feasible schedule
abbrev pub TellsClean : Situation → PlanText → List ℕ → Type 0
TellsClean s plans.Nothing text = ⊤
TellsClean s (plans.Block b) text = (text ≡ line (codes "ok")) ↔ IsClean s (seen_block b)

-- The files are taken, and the text is what is found of the plan in their opening situation, which is sound.
pub record IsAudited (aerodrome : Aerodrome) (flights : List Flight) (plan : PlanText) (text : List ℕ)
    (answer : Answer) : Type 0 where
  pub taken : opening_refusal aerodrome flights ≡ None
  pub prints : text ≡ audit_text (opened aerodrome flights) plan
  pub answers : answer ≡ audit_answer (opened aerodrome flights) plan
  pub sound : IsSound (opened aerodrome flights)
  pub clean : TellsClean (opened aerodrome flights) plan text

-- The files read as an aerodrome, flights and a plan, and this is found.
abbrev pub AdmitsAudit : List ℕ → List ℕ → List ℕ → List ℕ → Answer → Type 0
AdmitsAudit a f p text answer =
    HoldsOfThree plan_of a f p (λ aerodrome flights plan. IsAudited aerodrome flights plan text answer)

-- what `audit` does, with this ending
abbrev pub FollowsAudit : List ℕ → List ℕ → List ℕ → SinkState → SinkState → Ending → Type 0
FollowsAudit aerodrome flights plan =
    FollowsAtOnce (AdmitsAudit aerodrome flights plan) (RefusesAudit aerodrome flights plan)

-- how `audit` may stop before it writes
abbrev pub StopsAudit : List ℕ → List ℕ → List ℕ → Ending → Type 0
StopsAudit aerodrome flights plan = Stops (RefusesAudit aerodrome flights plan)

-- ---- lengths

-- how many landing lines the bytes of a plan file hold; none where they read as none
abbrev pub line_count_of : Result PlanText PlanFault → ℕ
line_count_of (Ok (plans.Block b)) = length b.lines
line_count_of read = 0

abbrev pub line_count : List ℕ → ℕ
line_count bytes = line_count_of (plan_of bytes)

-- the line of a finding has at most 30 bytes: two for the first line, one for each flight without a line, ten for each
-- line, four of which by its list, and one for each two lines
abbrev pub audit_bound : ℕ → ℕ → ℕ
audit_bound flights lines = 60 + 30 * flights + 300 * lines + 15 * (lines * lines)

abbrev pub AuditIsBoundedLaw : Type 0
AuditIsBoundedLaw = (aerodrome flights plan text : List ℕ) (answer : Answer)
    → AdmitsAudit aerodrome flights plan text answer
    → length text ≤ audit_bound (flight_count flights) (line_count plan)
