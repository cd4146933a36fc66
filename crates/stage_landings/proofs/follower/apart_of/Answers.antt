use Rattle.std.proofs.Common.{◌≡◌, ℕ, ◌+◌, ◌%◌, ◌<◌, ◌≤◌, length-set, set, sym, ap, ◌∙◌, arith, subst, inl, inr}
use Rattle.std.specs.Prelude.{slice_index}
use Rattle.std.proofs.lemmas.Bool.{cases_eq}
use Rattle.landing_rules.specs.Problem.{Problem}
use Rattle.stage_landings.specs.Followers.{IsApart}
use Rattle.stage_landings.proofs.Places.{other_place, set_there, set_elsewhere}
use Rattle.stage_landings.proofs.follower.apart_of.Goals as goal

pub loop-leader-preserved : goal.loop-leader-preserved
loop-leader-preserved c =
    let p = c.args.problem.now in
    let place = c.place_of.result in
    let xs = c.loop-leader.apart in
    let x = c.seconds_behind.result in
    let k_is : c.args.problem.now.k ≡ c.head.result.now.k = ap (λ (q : Problem). q.k) c.head.ensures.value in (
      length-set xs place x ∙ c.loop-leader.invariant.0,
      λ r lo hi. elim (cases_eq r c.loop-leader.leader) [
        | inl same ↦
            let at : r % 8 ≡ place = ap (λ (n : ℕ). n % 8) same ∙ sym c.place_of.ensures.value in
            subst (λ (s : ℕ). IsApart p s c.args.rank (slice_index (set xs place x) (r % 8))) (sym same)
            (subst (IsApart p c.loop-leader.leader c.args.rank)
            (sym (set_there xs place (r % 8) x at (omega (arith, c.place_of.ensures.within, c.loop-leader.invariant.0))))
            c.seconds_behind.ensures)
        | inr other ↦
            let near : c.loop-leader.leader ≤ r + 7 = omega (
              arith,
              lo,
              k_is,
              c.head.ensures.well_formed.few_places,
              c.saturating_sub-first.ensures,
              c.saturating_add.ensures,
              c.min-end.ensures,
              c.loop-leader-test.true,
            ) in
            let before : r < c.loop-leader.leader = omega (arith, other, hi) in
            let away = other_place r c.loop-leader.leader place before near c.place_of.ensures.value in
            subst (IsApart p r c.args.rank) (sym (set_elsewhere xs place (r % 8) x away))
            (c.loop-leader.invariant.1 r lo before)
      ],
    )

pub returns : goal.returns
returns c =
    let k_is : c.args.problem.now.k ≡ c.head.result.now.k = ap (λ (q : Problem). q.k) c.head.ensures.value in
    record {
      count = c.loop-leader.invariant.0;
      each = λ leader may. c.loop-leader.invariant.1 leader
          (omega (arith, may.late, k_is, c.saturating_sub-first.ensures))
          (omega (
            arith,
            may.to_count,
            may.early,
            k_is,
            c.len.ensures,
            c.saturating_add.ensures,
            c.min-end.ensures,
            c.loop-leader-test.false,
          ));
    }
