use Rattle.std.proofs.Common.{arith, rules, [], ap, ◌≡◌, ◌∙◌}
use Rattle.std.specs.Map.{values_of}
use Rattle.situations.specs.Opened.{opened}
use Rattle.situations.proofs.Keyed.{all_opened, newcomers_keyed}
use Rattle.situations.proofs.Named.{seconds_on}
use Rattle.situations.proofs.OpeningSound.{opening_sound}
use Rattle.situations.proofs.situation.Situation.opening.Goals as goal
use Rattle.situations.proofs.situation.Situation.opening.Goals.{After-count_listed}

pub with-situation-requires-clause-keyed : goal.with-situation-requires-clause-keyed
with-situation-requires-clause-keyed c = search (rules, newcomers_keyed)

opens : (c : After-count_listed) → c.count_listed.new.self ≡ opened c.args.aerodrome.now c.args.flights.now
opens c =
    let a = c.args.aerodrome.now in
    let frozen = c.freeze_listed.ensures ∙ (λ j. seconds_on (c.entries.ensures j) ((c.with-situation.ensures.value
    ∙ ap (λ l. record (opened a []) { active = values_of l }) c.in_ok-active.ensures) j)) in grind
    (arith, all_opened a c.args.flights.now)

pub returns-clause-value : goal.returns-clause-value
returns-clause-value c = opens c

pub returns-clause-sound : goal.returns-clause-sound
returns-clause-sound c none = search (rules, opens, opening_sound)
