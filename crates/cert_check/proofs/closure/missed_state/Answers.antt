use Rattle.std.proofs.Common.{◌≡◌, ◌+◌, ◌<◌, ℕ, length, List, [], ◌∷◌, refl, ap, rules, tests, arith, ◌∙◌}
use Rattle.std.specs.List.{enumerate_from}
use Rattle.std.proofs.lemmas.Iterator.{YieldsList-from_slice}
use Rattle.std.proofs.lemmas.Iterator.Adapters.{serves_from_places}
use Rattle.std.proofs.lemmas.Iterator.Consumers.{YieldsList-from_enumerate}
use Rattle.std.proofs.lemmas.List.FromFn.{length-enumerate_from, get_or-enumerate_from}
use Rattle.cps_base.specs.Limits.{greatest_word}
use Rattle.certificate.specs.States.{State}
use Rattle.landing_rules.specs.Problem.{Problem}
use Rattle.cps_theory.specs.FirstFound.{with_number}
use Rattle.cps_theory.specs.CertificateClosure as closure
use Rattle.cps_theory.specs.laws.FirstFound.{each_fails}
use Rattle.cert_check.specs.States.{node_of, first_missed, missed_from, is_misshapen}
use Rattle.cps_base.specs.laws.FindMap.{first_answer, first_answer_from_find_map}
use Rattle.cert_check.proofs.closure.missed_state.Goals as goal

states_answer : (p : Problem) (all : List State) (n : ℕ) (ss : List State)
    → first_answer (λ s. with_number (s.0 + 1) (first_missed p all (node_of s.1) s.1.pairs))
    (enumerate_from n ss) ≡ missed_from p all (n + 1) ss
unfolding first_answer closure.missed_from
states_answer p all n [] = refl
states_answer p all n (s ∷ ss) = cc (states_answer p all (n + 1) ss)

pub find_map-requires-clause-callable : goal.find_map-requires-clause-callable
find_map-requires-clause-callable c =
    let p = c.args.problem.now in
    let ss = c.args.states.now in
    serves_from_places (YieldsList-from_enumerate (YieldsList-from_slice ss (search (rules))) (search (rules)))
    (λ x q k. search (rules, tests)) (λ x k lt e.
    let below : k < length ss = omega (arith, length-enumerate_from 0 ss, lt) in
    let there = e ∙ get_or-enumerate_from 0 ss k (x.0, x.1.now) below in
    let few : x.0 < greatest_word = omega (arith, ap (λ s. s.0) there, below, c.requires.few) in
    let shaped = ap (λ s. is_misshapen p s.1) there ∙ each_fails _ 1 ss c.requires.shaped k _ below in
    search (rules, few, shaped))

pub returns : goal.returns
returns c = first_answer_from_find_map (λ s. with_number _ _) _ (λ x r q k. search (rules, tests)) c.find_map.result
    c.find_map.ensures.runs (YieldsList-from_enumerate (YieldsList-from_slice c.args.states.now (search (rules)))
    (search (rules))) ∙ states_answer c.args.problem.now c.args.states.now 0 c.args.states.now
