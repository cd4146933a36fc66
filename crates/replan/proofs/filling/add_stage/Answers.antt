use Rattle.std.proofs.Common.{◌≡◌, ◌-◌, ◌<◌, length, rules, arith, ◌∙◌, sym, ap}
use Rattle.std.specs.Prelude.{vec_len}
use Rattle.replan.specs.Stages.{stage_at}
use Rattle.replan.proofs.StageLemmas.{due_of_one, held_at, read_stage, one_more, has_candidates}
use Rattle.replan.proofs.filling.add_stage.Goals as goal

pub candidates_after-requires : goal.candidates_after-requires
candidates_after-requires g c =
    let long : length c.args.begun.now.stages.items ≡ vec_len c.args.begun.now.stages = omega arith in
    let r = c.requires in
    let is = c.deref.ensures.value in (
      search rules,
      (search rules, (search rules, (r.width, (rw is r.held, (rw (is, long) r.some, rw (is, long) r.number))))),
    )

pub next-requires : goal.next-requires
next-requires g c =
    let lt : c.len.result - 1 < length c.args.begun.now.stages.items = omega arith in
    let e = read_stage _ _ _ _ c.last.view_is c.index-last.ensures lt in
    let h = held_at _ _ c.requires.held _ _ e lt in
    let number = rw c.deref.ensures.value at c.in_ok-stage.ensures.number in
    let exact = rw c.deref.ensures.value at c.in_ok-stage.ensures.exact in
    let long : length c.args.begun.now.stages.items ≡ c.len.result = omega arith in (
      search rules,
      (search rules, (search rules, (c.requires.width, (h.0, (omega arith, rw (long, ← e, ← h.1) at exact))))),
    )

pub returns-clause-held : goal.returns-clause-held
returns-clause-held g c =
    let number = rw c.deref.ensures.value at c.in_ok-stage.ensures.number in
    let exact = rw c.deref.ensures.value at c.in_ok-stage.ensures.exact in
    let left = c.in_ok-labels.ensures.left in
    one_more _ _ _ _ c.requires.held c.in_ok-push.ensures.items (left.number ∙ number)
    c.windows-ascending.ensures.ascending left.held (λ last is whole.
    let f : c.len-2.result ≡ c.len-candidates.result = search (rules, whole) in
    let same : last ≡ length c.args.begun.now.stages.items - 1 = omega arith in
    rw (left.all (sym c.len-2.ensures.value ∙ f ∙ c.len-candidates.ensures.value), same) exact)

pub returns-clause-steps : goal.returns-clause-steps
returns-clause-steps g c =
    let stages = c.args.begun.now.stages.items in
    let long : length stages ≡ vec_len c.args.begun.now.stages = omega arith in
    let lt : length stages - 1 < length stages = omega arith in
    let candidates = rw c.deref.ensures.value at c.in_ok-stage.ensures.candidates in (
      length c.in_ok-stage.stage.1,
      due_of_one c.args.planning.now.problem.now (vec_len c.args.begun.now.stages) _ c.requires.some
          (has_candidates _ (stage_at stages _).stage c.in_ok-stage.stage (vec_len c.args.begun.now.stages - 1)
          (c.requires.held.number (length stages - 1) lt ∙ ap (λ n. n - 1) long)
          (c.requires.held.held (length stages - 1) lt).held.landable candidates c.in_ok-stage.ensures.ascending),
      c.in_ok-labels.ensures.steps,
    )
