use Rattle.std.proofs.Common.{◌≡◌, ◌≤◌, ◌<◌, ℕ, inl, inr, ap, ◌∙◌, arith, rules, tests, length}
use Rattle.std.specs.Prelude.{slice_index_or}
use Rattle.std.proofs.lemmas.Bool.{cases_eq}
use Rattle.std.proofs.lemmas.Iterator.{YieldsList-from_slice}
use Rattle.std.proofs.lemmas.Option.{slice_get_within, get_or_from_slice_get}
use Rattle.cps_theory.specs.Labels.{InPairs, Pair}
use Rattle.cps_network.specs.Pairs.{list_at}
use Rattle.cps_base.specs.laws.Folds.{kept_by_fold}
use Rattle.cps_base.specs.laws.FoldCalls.{fold_may_call}
use Rattle.first_best.proofs.WayLemmas.{pairs_late}
use Rattle.first_best.proofs.complete.latest.Goals as goal

pub fold-latest-requires-clause-callable : goal.fold-latest-requires-clause-callable
fold-latest-requires-clause-callable c =
    let ways = c.args.ways.now in
    fold_may_call (YieldsList-from_slice ways (cc)) (λ a x b q k. search (rules, tests)) (λ k a x at.
    let lt = slice_get_within ways k x.now at in
    let is = get_or_from_slice_get ways k x.now 0 at in
    let within : x.now < length c.args.next.now.lists = omega arith in
    search (rules, tests, c.requires.next.rising x.now))

pub returns-clause-last : goal.returns-clause-last
returns-clause-last c = λ v q h.
    let p = c.args.problem.now in
    let lists = c.args.next.now.lists in
    let ways = c.args.ways.now in
    let all = kept_by_fold _ (λ n latest. (i : ℕ) → i < n → (q : Pair)
    → InPairs q (list_at lists (slice_index_or ways i 0)) → q.0 ≤ latest) c.fold-latest.ensures.ran
    (YieldsList-from_slice ways (cc)) (λ i lt. absurd (omega arith)) (λ i a x b q at held k.
    let is = get_or_from_slice_get ways i x.now 0 at in
    let same : q ≡ record { 0 = c.args.next } = search (rules, tests) in
    let more : a ≤ b = search (rules, tests, arith) in
    let here : (o : Pair) → InPairs o (list_at lists x.now) → o.0 ≤ b = λ o m. search (rules, tests, arith) in (
      same,
      λ j below o m. elim (cases_eq j i) [
        | inl e ↦ here o (rw (ap (λ n. slice_index_or ways n 0) e ∙ is) at m)
        | inr ne ↦ (let late = held j (omega arith) o m in omega arith)
      ],
    )) in
    let late = pairs_late p v _ _ _ ways _ c.requires.node.0 (omega arith) c.requires.ways all q h in
    let days = c.last_open-last.ensures.last q.0 h.opened in
    omega arith
