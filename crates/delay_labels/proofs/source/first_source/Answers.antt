use Rattle.std.proofs.lemmas.Grind.{common_steps}
use Rattle.std.proofs.Common.{◌≡◌, ℕ, ◌<◌, ◌≤◌, List, length, Option, rules, tests, refl, arith}
use Rattle.std.specs.Prelude.{MatchOption}
use Rattle.std.proofs.lemmas.Iterator.{serves_from_Range}
use Rattle.cps_theory.specs.Labels.{Pair}
use Rattle.landing_rules.specs.Problem.{Problem}
use Rattle.cps_network.specs.Pairs.{list_at}
use Rattle.delay_labels.specs.Sources.{GivesNone, GivesFirst, IsFirstSource}
use Rattle.delay_labels.proofs.FoundPairs.{first_from_find_map}
use Rattle.delay_labels.proofs.source.first_source.Goals as goal

-- the place that is found is the place of the list
at_place : (p : Problem) (l r : ℕ) (lists : List (List Pair)) (from to : ℕ) (q : Pair) (found : Option (ℕ × ℕ))
    → MatchOption found ((i : ℕ) → from ≤ i → i < to → GivesNone p l r (list_at lists i) q)
    (λ y. (k : ℕ) × (from ≤ k) × (k < to) × ((y.0 ≡ k) × GivesFirst p l r (list_at lists k) q y.1)
    × ((i : ℕ) → from ≤ i → i < k → GivesNone p l r (list_at lists i) q))
    → MatchOption found ((i : ℕ) → from ≤ i → i < to → GivesNone p l r (list_at lists i) q)
    (IsFirstSource p l r lists from to q)
at_place p l r lists from to q found none = grind (arith, common_steps)

pub find_map-requires-clause-callable : goal.find_map-requires-clause-callable
find_map-requires-clause-callable c =
    let last = c.requires.last in
    let first = c.requires.rank.0 in
    let rank = c.requires.rank.1 in
    serves_from_Range (λ x q k. search (rules, tests)) (λ x lo hi.
    let small = c.requires.costs x lo hi in
    let below : x < length c.args.labels.now = omega (arith, hi, c.requires.range) in
    search (last, first, rank, below, small))

pub returns : goal.returns
returns c =
    at_place c.args.problem.now c.args.last c.args.rank c.args.labels.now c.args.range.0 c.args.range.1
    c.args.wanted c.find_map.result
    (first_from_find_map _ (λ x y. (y.0 ≡ x) × GivesFirst c.args.problem.now c.args.last c.args.rank
    (list_at c.args.labels.now x) c.args.wanted y.1)
    (λ x. GivesNone c.args.problem.now c.args.last c.args.rank (list_at c.args.labels.now x) c.args.wanted)
    (λ x y q k. search (rules, tests)) (λ x q k. search (rules, tests)) c.args.range.0 c.args.range.1
    refl c.find_map.result c.find_map.ensures.runs)
