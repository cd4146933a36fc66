use Rattle.std.proofs.Common.{◌≡◌, ℕ, length, map, filter, ap, ◌∙◌, arith}
use Rattle.std.specs.Prelude.{◌↔◌}
use Rattle.std.specs.List.{AllZip}
use Rattle.precedence.specs.Pairs.{MustPrecede}
use Rattle.landing_rules.specs.Flights.{Active, waiting, is_waiting}
use Rattle.landing_rules.specs.Problem.{IsWaitingOf, by_rank}
use Rattle.cps_problem.specs.Seen.{waiting_of}
use Rattle.sequencer.specs.Predecessors.{IsListed}
use Rattle.sequencer.specs.Ranked.{ArePlacesByRank}
use Rattle.sequencer.proofs.Fronts.{frozen_and_placed}
use Rattle.sequencer.proofs.Places.{by_rank_places, few_ranked}
use Rattle.sequencer.proofs.ProblemOf.{IsHeadOf, posed, well_formed}
use Rattle.sequencer.proofs.problem.posed.Goals as goal
use Rattle.sequencer.proofs.problem.posed.Goals.{After-len, In_ok-with_times}

pub ranked_of-requires : goal.ranked_of-requires
ranked_of-requires c = rw c.flights-flights.ensures c.requires.sound.callsigns

pub pairs_of-pairs-requires : goal.pairs_of-pairs-requires
pairs_of-pairs-requires c = few_ranked _
    (λ a. a.now) _ c.requires.sound (c.in_ok-waiting.ensures ∙ ap (map (λ p. p.active.now)) c.deref.ensures.value
    ∙ c.in_ok-ranked.ensures.flights ∙ ap (λ l. by_rank (filter is_waiting l)) c.flights-flights.ensures)

ranks : (c : In_ok-with_times) → map (λ a. a.now) c.in_ok-waiting.waiting.items ≡ by_rank (waiting c.args.situation.now)
ranks c = c.in_ok-waiting.ensures ∙ ap (map (λ p. p.active.now)) c.deref.ensures.value
    ∙ c.in_ok-ranked.ensures.flights ∙ ap (λ l. by_rank (filter is_waiting l)) c.flights-flights.ensures

zip : (c : In_ok-with_times) → AllZip (IsWaitingOf c.args.situation.now.closures)
    (by_rank (waiting c.args.situation.now)) (map waiting_of c.in_ok-with_times.with_times.items)
zip c = rw c.closures.ensures at (rw (ranks c) at c.in_ok-with_times.ensures)

listed : (c : In_ok-with_times) → (i j : ℕ) → MustPrecede c.pairs_of-pairs.result i j
    ↔ IsListed (by_rank (waiting c.args.situation.now)) i j
listed c = rw (ranks c) at c.pairs_of-pairs.ensures

heads : (c : In_ok-with_times) → IsHeadOf c.args.situation.now c.head-head.result
heads c = record {
  fixed = c.head-head.ensures.fixed;
  horizon = c.head-head.ensures.horizon;
  last = c.head-head.ensures.last ∙ c.last_frozen-last.ensures;
  base = c.head-head.ensures.base;
}

pub build-requires : goal.build-requires
build-requires c = λ table. well_formed _ _ _ _ c.requires.sound
    (heads c) (zip c) (listed c) c.head-head.ensures.few_places c.head-head.ensures.near

pub returns-clause-problem : goal.returns-clause-problem
returns-clause-problem c =
    let d = (goal.at.returns-clause-problem c).In_ok-with_times in
    rw c.build.ensures (posed _ _ _ _ c.requires.sound (heads d) (zip d) (listed d))

placed : (c : After-len) → ArePlacesByRank c.args.situation.now c.in_ok-places.places.items
placed c = by_rank_places c.args.situation.now (λ p. p.place)
    (λ p. p.active.now) c.in_ok-ranked.ranked.items _ _ c.flights-flights.ensures c.in_ok-ranked.ensures.flights
    c.in_ok-ranked.ensures.places (c.in_ok-places.ensures ∙ ap (map (λ p. p.place)) c.deref-2.ensures.value)

pub overflow_sub-flights : goal.overflow_sub-flights
overflow_sub-flights c = omega (
  arith,
  frozen_and_placed _ _ c.requires.sound (placed c),
  ap (length {A = Active}) c.flights-flights.ensures,
  c.in_ok-places.places.ok.0,
  c.len.ensures,
)

pub last_frozen-last-requires-clause-count : goal.last_frozen-last-requires-clause-count
last_frozen-last-requires-clause-count c = omega (
  arith,
  frozen_and_placed _ _ c.requires.sound (placed c),
  ap (length {A = Active}) c.flights-flights.ensures,
  c.in_ok-places.places.ok.0,
  c.len.ensures,
)

pub returns-clause-places : goal.returns-clause-places
returns-clause-places c = placed (goal.at.returns-clause-places c).After-len
