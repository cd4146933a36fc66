use Rattle.std.proofs.Common.{◌≡◌, ℕ, ◌+◌, ◌-◌, ◌*◌, ◌/◌, ◌%◌, ◌<◌, ◌≤◌, ◌^◌, List, [], ◌∷◌, ◌++◌, length, get_or}
use Rattle.std.proofs.Common.{Option, arith, ap, ap₂, subst, sym, ◌∙◌}
use Rattle.std.specs.Prelude.{All, Bool}
use Rattle.std.proofs.lemmas.Bool.Decides.{nat_tests}
use Rattle.landing_rules.specs.Problem.{Problem}
use Rattle.cps_theory.specs.Labels.{InPairs, Pair}
use Rattle.certificate.specs.Patterns.{bits, number_of}
use Rattle.certificate.specs.States.{State, IsState}
use Rattle.cert_writer.specs.StageEntries.{IsEntryOf}
use Rattle.replan.specs.Held.{HeldProblem}
use Rattle.replan.specs.Kept.{held_of}
use Rattle.replan.specs.Readers.{stage_in, lists_in}
use Rattle.cert_writer.specs.Gathered.{HasBetter, HasOnly, IsPairInRange}
use Rattle.cert_writer.specs.Written.{AreWrittenBelow, IsGathered}
use Rattle.cert_writer.proofs.WriteLemmas.{AreBestAt, stage_held, slot_within, slot_is, found_in, covers_in, none_best}
use Rattle.cert_writer.proofs.WriteLemmas.{last_known, written_in_form, written_more}
use Rattle.cert_writer.proofs.states.add_state.Goals as goal

-- what is read at the slot of a number
best_at : (p : Problem) (held : Option HeldProblem) (stage number k ones : ℕ) (slots : List (List Pair))
    (now best : List Pair) → k ≡ p.k → number_of (bits (2 * k) ones) ≡ number / 8 → ones < 2 ^ (2 * k)
    → IsGathered p held stage slots → now ≡ get_or slots (ones * 8 + number % 8) now → HasOnly best (λ q. InPairs q now)
    → HasBetter best (λ q. InPairs q now) → AreBestAt p (stage_in held) (lists_in held) stage number ones slots best
best_at p held stage number k ones slots now best same digits below gathered is found covers =
    let slot = ones * 8 + number % 8 in
    let low = subst (λ (m : ℕ). ones < 2 ^ (2 * m)) same below in
    let within = slot_within p.k number ones (length slots) low gathered.room in
    record {
      turned = subst (λ (m : ℕ). number_of (bits (2 * m) ones) ≡ number / 8) same digits;
      low = low;
      gathered = gathered;
      found = found_in slots slot within now is best found;
      covers = covers_in slots slot within now is best covers;
    }

-- the state as it is made
made : (k same stage number ones : ℕ) (pattern : List Bool) (best : List Pair) → k ≡ same → pattern ≡ bits (2 * k) ones
    → ◌≡◌ {A = State} (record { stage = stage; pattern = pattern; last = stage + number % 8 - k; pairs = best })
    (record { stage = stage; pattern = bits (2 * same) ones; last = stage + number % 8 - same; pairs = best })
made k same stage number ones pattern best is bits_are = ap₂ (λ (ds : List Bool) (m : ℕ). record {
  stage = stage;
  pattern = ds;
  last = stage + number % 8 - m;
  pairs = best;
}) (bits_are ∙ ap (λ (m : ℕ). bits (2 * m) ones) is) is

pub best-requires : goal.best-requires
best-requires c =
    let ones = c.turned-ones.result in
    let slots = c.args.slots.now.items in
    let slot = ones * 8 + c.args.number % 8 in
    subst (λ (l : List Pair). All IsPairInRange l)
    (sym (slot_is slots slot
    (slot_within c.args.problem.now.k c.args.number ones (length slots)
    (subst (λ (m : ℕ). ones < 2 ^ (2 * m)) c.most_shift-k.ensures.k c.turned-ones.ensures.below)
    c.requires.gathered.room) c.index.result.now c.index.ensures))
    (c.requires.gathered.in_range slot)

pub returns-then-is_empty : goal.returns-then-is_empty
returns-then-is_empty c =
    let p = c.args.problem.now in
    let held = held_of c.args.kept.now in
    let best = c.in_ok-pairs.pairs.items in
    none_best p (stage_in held) (lists_in held) c.args.stage
    (stage_held p held c.args.stage c.most_shift-k.ensures.well_formed
    (c.stages-held.ensures.held p c.requires.held) c.requires.stage) c.args.number c.turned-ones.result
    c.args.slots.now.items best (best_at p held c.args.stage c.args.number c.most_shift-k.result c.turned-ones.result
    c.args.slots.now.items c.index.result.now best c.most_shift-k.ensures.k
    c.turned-ones.ensures.digits c.turned-ones.ensures.below c.requires.gathered c.index.ensures
    c.in_ok-pairs.ensures.found c.in_ok-pairs.ensures.covers) c.args.states.now.items c.requires.written
    (subst (λ (l : List Pair). length l ≡ 0) c.as_slice.ensures.value (grind (arith, nat_tests, c.if-is_empty.ensures)))

pub overflow_sub-stage : goal.overflow_sub-stage
overflow_sub-stage c =
    let p = c.args.problem.now in
    let held = held_of c.args.kept.now in
    let best = c.in_ok-pairs.pairs.items in
    omega (
      arith,
      (last_known p (stage_in held) (lists_in held) c.args.stage
          (stage_held p held c.args.stage c.most_shift-k.ensures.well_formed
          (c.stages-held.ensures.held p c.requires.held) c.requires.stage) c.args.number
          c.turned-ones.result c.args.slots.now.items best
          (best_at p held c.args.stage c.args.number c.most_shift-k.result c.turned-ones.result
          c.args.slots.now.items c.index.result.now best c.most_shift-k.ensures.k
          c.turned-ones.ensures.digits c.turned-ones.ensures.below c.requires.gathered c.index.ensures
          c.in_ok-pairs.ensures.found c.in_ok-pairs.ensures.covers)
          (subst (λ (l : List Pair). 1 ≤ length l) c.as_slice.ensures.value
          (grind (arith, nat_tests, c.if-is_empty.ensures)))),
      c.most_shift-k.ensures.k,
    )

pub new-requires : goal.new-requires
new-requires c =
    let p = c.args.problem.now in
    let held = held_of c.args.kept.now in
    let best = c.in_ok-pairs.pairs.items in
    subst IsState (sym (made c.most_shift-k.result p.k c.args.stage c.args.number c.turned-ones.result
    _ best c.most_shift-k.ensures.k c.new-pattern.ensures))
    (written_in_form p (stage_in held) (lists_in held) c.args.stage
    (stage_held p held c.args.stage c.most_shift-k.ensures.well_formed
    (c.stages-held.ensures.held p c.requires.held) c.requires.stage) c.args.number
    c.turned-ones.result c.args.slots.now.items best
    (best_at p held c.args.stage c.args.number c.most_shift-k.result c.turned-ones.result
    c.args.slots.now.items c.index.result.now best c.most_shift-k.ensures.k
    c.turned-ones.ensures.digits c.turned-ones.ensures.below c.requires.gathered c.index.ensures
    c.in_ok-pairs.ensures.found c.in_ok-pairs.ensures.covers)
    (subst (λ (l : List Pair). 1 ≤ length l) c.as_slice.ensures.value
    (grind (arith, nat_tests, c.if-is_empty.ensures))) c.in_ok-pairs.ensures.rising
    c.in_ok-pairs.ensures.in_range)

pub returns : goal.returns
returns c =
    let p = c.args.problem.now in
    let held = held_of c.args.kept.now in
    let best = c.in_ok-pairs.pairs.items in
    subst (λ (ss : List State). AreWrittenBelow p.k (IsEntryOf p (stage_in held) (lists_in held)) c.args.stage
    (c.args.number + 1) ss)
    (sym (c.in_ok-push.ensures.items ∙ ap (λ (s : State). c.args.states.now.items ++ s ∷ [])
    (c.new.ensures ∙ made c.most_shift-k.result p.k c.args.stage c.args.number c.turned-ones.result
    _ best c.most_shift-k.ensures.k c.new-pattern.ensures)))
    (written_more p (stage_in held) (lists_in held) c.args.stage
    (stage_held p held c.args.stage c.most_shift-k.ensures.well_formed
    (c.stages-held.ensures.held p c.requires.held) c.requires.stage) c.args.number
    c.turned-ones.result c.args.slots.now.items best
    (best_at p held c.args.stage c.args.number c.most_shift-k.result c.turned-ones.result
    c.args.slots.now.items c.index.result.now best c.most_shift-k.ensures.k
    c.turned-ones.ensures.digits c.turned-ones.ensures.below c.requires.gathered c.index.ensures
    c.in_ok-pairs.ensures.found c.in_ok-pairs.ensures.covers)
    (subst (λ (l : List Pair). 1 ≤ length l) c.as_slice.ensures.value
    (grind (arith, nat_tests, c.if-is_empty.ensures))) c.args.states.now.items
    c.requires.written c.in_ok-pairs.ensures.rising c.in_ok-pairs.ensures.in_range)
