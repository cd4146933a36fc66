use Rattle.std.proofs.Common.{map, ap, ◌∙◌}
use Rattle.sequencer.proofs.Places.{by_rank_places}
use Rattle.sequencer.proofs.problem.ranked_places.Goals as goal

pub returns : goal.returns
returns c = by_rank_places c.args.situation.now
    (λ p. p.place) (λ p. p.active.now) c.in_ok-ranked.ranked.items _ _ c.flights.ensures c.in_ok-ranked.ensures.flights
    c.in_ok-ranked.ensures.places (c.in_ok-places.ensures ∙ ap (map (λ p. p.place)) c.deref.ensures.value)
