use Rattle.std.proofs.Common.{ap, ◌∙◌}
use Rattle.landing_rules.specs.Events.{revised}
use Rattle.arrivals.specs.Seen.{revision_of}
use Rattle.situations.proofs.ChangedFlights.{IsChanged, none_changed, one_changed}
use Rattle.situations.proofs.Keyed.{revision_keeps_name}
use Rattle.situations.proofs.situation.Situation.revise.Goals as goal
use Rattle.situations.proofs.situation.Situation.revise.Goals.{Joined-get_mut, in-None, in-Some}

changed : (c : Joined-get_mut) → IsChanged c.args.callsign
    (λ a. record a { flight = revised (revision_of c.args.revision.now) a.flight }) c.self.inside
    c.match-get_mut.self-inside c.self.invariant
changed c = elim c.match-get_mut.branch [
  | in-None w ↦ none_changed _ _ _ _ c.self.invariant
      (w.self-inside-is ∙ ap (λ n. record c.self.inside { active = n }) c.get_mut.follows.holds-at-none)
      w.in-None.ensures.value
  | in-Some w ↦
      let new = w.revise.new.active in
      let holds = c.get_mut.follows.holds new in
      one_changed _ _ _ _ c.self.invariant (c.get_mut.follows.lender new) w.self-inside-is
      (revision_keeps_name (revision_of c.args.revision.now)) c.get_mut.ensures.unique _ _ w.in-Some.ensures.value
      w.revise.ensures holds.0 holds.1
]

pub invariant_of-self : goal.invariant_of-self
invariant_of-self c = (changed c).0

pub returns : goal.returns
returns c = rw (← c.self.view_is) (changed c).1
