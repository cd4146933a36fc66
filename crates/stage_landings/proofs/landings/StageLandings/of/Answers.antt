use Rattle.std.proofs.Common.{◌≡◌, ℕ, ◌+◌, ◌%◌, ◌<◌, ◌≤◌, length, length-set, set, sym, ap, ◌∙◌, arith, subst, inl, inr}
use Rattle.std.specs.Prelude.{slice_index_or}
use Rattle.std.proofs.lemmas.Bool.{cases_eq}
use Rattle.std.proofs.lemmas.List.{get_or-set_same, get_or-set_other}
use Rattle.landing_rules.specs.Problem.{Problem}
use Rattle.stage_landings.specs.Followers.{IsFollower}
use Rattle.stage_landings.proofs.Places.{other_place}
use Rattle.stage_landings.proofs.landings.StageLandings.of.Goals as goal

pub loop-rank-preserved : goal.loop-rank-preserved
loop-rank-preserved c =
    let p = c.args.problem.now in
    let number = c.args.number in
    let place = c.place_of.result in
    let xs = c.loop-rank.followers in
    let x = c.of.result in
    let k_is : p.k ≡ c.head.result.now.k = ap (λ (q : Problem). q.k) c.head.ensures.value in
    let few : place < length xs = omega (arith, c.place_of.ensures.within, c.loop-rank.invariant.0) in (
      length-set xs place x ∙ c.loop-rank.invariant.0,
      λ r d lo hi. elim (cases_eq r c.loop-rank.rank) [
        | inl same ↦
            let at : r % 8 ≡ place = ap (λ (n : ℕ). n % 8) same ∙ sym c.place_of.ensures.value in
            let there : slice_index_or (set xs place x) (r % 8) d ≡ x =
            ap (λ (n : ℕ). slice_index_or (set xs place x) n d) at ∙ get_or-set_same xs place x d few in
            subst (IsFollower p number r) (sym there)
            (subst (λ (s : ℕ). IsFollower p number s x) (sym same) c.of.ensures)
        | inr other ↦
            let near : c.loop-rank.rank ≤ r + 7 = omega (
              arith,
              lo,
              k_is,
              c.head.ensures.well_formed.few_places,
              c.saturating_sub.ensures,
              c.saturating_add.ensures,
              c.max-first.ensures,
              c.min-end.ensures,
              c.loop-rank-test.true,
            ) in
            let before : r < c.loop-rank.rank = omega (arith, other, hi) in
            let away = other_place r c.loop-rank.rank place before near c.place_of.ensures.value in
            subst (IsFollower p number r) (sym (get_or-set_other xs place (r % 8) x d away))
            (c.loop-rank.invariant.1 r d lo before)
      ],
    )
