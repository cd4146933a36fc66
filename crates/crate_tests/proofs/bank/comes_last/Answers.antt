use Rattle.std.proofs.Common.{◌≡◌, ◌<◌, ℕ, true, length, subst, rules, tests}
use Rattle.std.specs.Prelude.{⊤, ◌≢◌}
use Rattle.std.specs.Bool.{MatchBool}
use Rattle.std.specs.List.{AllWithin, HoldsAt}
use Rattle.std.proofs.lemmas.Iterator.{YieldsList-from_slice, cases_from_all}
use Rattle.std.proofs.lemmas.List.Elements.{All-map, All-from_all_within}
use Rattle.landing_rules.specs.Problem as rules
use Rattle.cps_problem.specs.Seen.{waiting_of}
use Rattle.cps_problem.specs.declared.problem.Waiting.{Waiting}
use Rattle.crate_tests.proofs.bank.comes_last.Goals as goal

pub returns : goal.returns
returns c = λ yes.
    let flights = c.args.waiting.now.items in
    let Before = λ (f : Waiting). ((waiting_of f).eta < c.args.flight.now.eta)
    × ((waiting_of f).callsign ≢ c.args.flight.now.callsign) in
    let cases = cases_from_all _ _ c.all.result Before (λ f. ⊤) c.all.ensures.ran (YieldsList-from_slice flights (cc))
    (λ x q k. (search (rules, tests), search (rules, tests))) (λ x q k. tt) in
    let all : c.all.result ≡ true = search (rules) in
    let each : AllWithin Before flights 0 (length flights) =
    subst (λ b. MatchBool b (AllWithin Before flights 0 (length flights)) ((k : ℕ) × (k < length flights)
    × HoldsAt (λ f. ⊤) flights k)) all cases in
    All-map (λ (f : rules.Waiting). (f.eta < c.args.flight.now.eta)
    × (f.callsign ≢ c.args.flight.now.callsign)) waiting_of flights (All-from_all_within Before flights each)
