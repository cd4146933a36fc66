-- From the one verdict of a situation to the one text of `check`, and to its answer on what `certify` prints.
use Rattle.std.proofs.Common.{◌≡◌, refl, ℕ, List, sym, ◌∙◌}
use Rattle.certificate.specs.declared.certificate.Claim.{Claim}
use Rattle.certificate.specs.declared.certificate.Claim.TheVariants as claim
use Rattle.cert_check.specs.Situations.{OneVerdictLaw}
use Rattle.cert_check.specs.WholeLaws.{claimed}
use Rattle.cert_check.specs.declared.verdict.Verdict.{Verdict}
use Rattle.sequencer.specs.Opened.{opened}
use Rattle.endings.specs.declared.ending.Answer.{Answer}
use Rattle.endings.specs.declared.ending.Answer.TheVariants.{Accepted}
use Rattle.endings.specs.declared.ending.FilesFault.TheVariants.{Certificate}
use Rattle.endings.specs.shared.Files.{same_three, three_taken}
use Rattle.certificate_commands.specs.Certify.{AdmitsCertify, PrintedIsAcceptedLaw}
use Rattle.certificate_commands.specs.Check.{AdmitsCheck, CheckTextIsOneLaw, IsJudged, Judges}
use Rattle.certificate_commands.specs.Verdicts.{answer_of_verdict, verdict_text}

-- a certificate is judged in one way for the files of one situation
one_verdict : OneVerdictLaw → (a f c : List ℕ) (v w : Verdict) → Judges a f c v → Judges a f c w → v ≡ w
one_verdict law a f c v w x y =
    let here = x.holds in
    let there = same_three _ a f c _ x _ y (λ b fs d. IsJudged b fs d w) y.holds in
    here.verdict_is
    ∙ law (opened x.aerodrome x.flights) here.problem there.problem x.third here.problem_of there.problem_of
    ∙ sym there.verdict_is

pub text_is_one : OneVerdictLaw → CheckTextIsOneLaw
text_is_one law a f c text other answer another x y =
    let verdicts = one_verdict law a f c x.verdict y.verdict x.judges y.judges in
    (cc (x.prints, y.prints), cc (x.answers, y.answers))

accepted_answer : (c : Claim) → Accepted ≡ answer_of_verdict (claimed c)
accepted_answer (claim.Optimal v) = refl
accepted_answer claim.Infeasible = refl

-- what `certify` printed `check` may accept
may_accept : (a f text : List ℕ) (answer : Answer) (printed : AdmitsCertify a f text answer)
    → AdmitsCheck a f text (verdict_text (claimed printed.holds.certificate.claim)) Accepted
may_accept a f text answer printed = record {
  verdict = claimed printed.holds.certificate.claim;
  judges = record {
    aerodrome = printed.aerodrome;
    flights = printed.flights;
    third = printed.holds.certificate;
    aerodrome_read = printed.aerodrome_read;
    flights_read = printed.flights_read;
    third_read = printed.holds.reads;
    holds = printed.holds.certified.judged;
  };
  prints = refl;
  answers = accepted_answer printed.holds.certificate.claim;
}

-- and in no other way
pub printed_accepted : OneVerdictLaw → PrintedIsAcceptedLaw
printed_accepted law a f text answer printed =
    let line = verdict_text (claimed printed.holds.certificate.claim) in
    let there : AdmitsCheck a f text line Accepted = may_accept a f text answer printed in
    record {
      taken = λ cause. three_taken _ a f text _ there.judges Certificate cause there.judges.holds.taken;
      answered = λ other told.
          (λ here. text_is_one law a f text other line told Accepted here there, λ same. rw (same.0, same.1) there);
    }
