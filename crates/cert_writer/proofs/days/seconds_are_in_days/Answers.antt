use Rattle.std.proofs.Common.{ℕ, suc, ◌≤◌, inl, inr, arith, sym, subst}
use Rattle.std.proofs.lemmas.Bool.{cases_eq}
use Rattle.std.proofs.lemmas.List.{get_or_default}
use Rattle.landing_rules.specs.Rules.{last_second}
use Rattle.cps_theory.specs.RankLists.{of_rank}
use Rattle.cert_writer.proofs.AnswerLemmas.{open_in_days}
use Rattle.cert_writer.proofs.days.seconds_are_in_days.Goals as goal

pub loop-rank-preserved : goal.loop-rank-preserved
loop-rank-preserved c = λ r one lt. elim (cases_eq r c.loop-rank.rank) [
  | inl e ↦
      let here = open_in_days c.args.problem.now c.args.schedule.now c.requires c.loop-rank.rank c.second.result
      (omega arith, omega (arith, c.loop-rank-test.true, c.len-rank-end.ensures.value)) c.second.ensures
      c.first_open-open.result c.first_open-open.ensures.value c.first_open-open.ensures.in_days in
      subst (λ (m : ℕ). of_rank 0 c.args.schedule.now m ≤ last_second) (sym e) here
  | inr ne ↦ c.loop-rank.invariant r one (omega (arith, lt, ne))
]

pub returns : goal.returns
returns c = λ k d lt.
    let here = c.loop-rank.invariant (suc k) (omega arith)
    (omega (arith, lt, c.loop-rank-test.false, c.len-rank-end.ensures.value, c.requires.one_each)) in
    let same = get_or_default c.args.schedule.now k d 0 lt in
    omega (arith, here, same)
