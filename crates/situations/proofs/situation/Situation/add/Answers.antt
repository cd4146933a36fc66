use Rattle.std.proofs.Common.{arith, rules, ◌≡◌, [], ◌∷◌, ◌++◌}
use Rattle.std.proofs.lemmas.Grind.{common_steps}
use Rattle.indexmap.proofs.CallerLemmas.{insert_entry-new}
use Rattle.situations.proofs.Keyed.{not_there}
use Rattle.situations.proofs.situation.Situation.add.Goals as goal
use Rattle.situations.proofs.situation.Situation.add.Goals.{In_ok-insert}

-- the new entry goes last
last : (c : In_ok-insert) → c.insert.new.self.entries ≡ c.self.inside.active.entries
    ++ (c.args.flight.now.callsign, c.waiting.result) ∷ []
last c = search (rules, insert_entry-new, not_there)

pub invariant_of-self-2 : goal.invariant_of-self-2
invariant_of-self-2 c = grind (arith, common_steps, last ((goal.at.invariant_of-self-2 c).In_ok-insert))

pub returns : goal.returns
returns c = grind (arith, common_steps, last ((goal.at.returns c).In_ok-insert))
