use Rattle.std.proofs.Common.{Some, length, ap, ◌∙◌}
use Rattle.std.specs.Prelude.{option_map, find}
use Rattle.landing_rules.specs.Rules.{is_shut}
use Rattle.landing_rules.specs.Events.{Refusal, in_landing_order, frozen_landings}
use Rattle.situations.proofs.Finds.{covered, covers-same, CoversAnswer, named_second}
use Rattle.situations.proofs.situation.Situation.close_refusal.Goals as goal

pub returns : goal.returns
returns c =
    let found = find (λ g. is_shut g.second (c.args.from, c.args.to))
    (in_landing_order (frozen_landings c.args.self.now)) in
    c.closure_refusal.ensures ∙ ap (λ o. option_map {T = Refusal} Some (CoversAnswer o c.count_closures.result))
    (c.earliest_covered.ensures ∙ covered (c.args.from, c.args.to) c.args.self.now.active)
    ∙ ap (λ n. option_map {T = Refusal} Some (CoversAnswer (option_map named_second found) n)) c.count_closures.ensures
    ∙ ap (option_map {T = Refusal} Some) (covers-same found (length c.args.self.now.closures))
