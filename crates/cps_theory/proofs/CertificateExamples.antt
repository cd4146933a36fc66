-- Examples of a certificate: its states, what they cover and what they miss, for two flights 60 seconds apart.
use Rattle.std.proofs.Common.{◌≡◌, ℕ, zero, suc, ◌+◌, inl, List, [], ◌∷◌, true, false, Option, Some, None, cond, leb}
use Rattle.std.proofs.Common.{max, refl}
use Rattle.std.specs.declared.cmp.Ordering.TheVariants.{Less}
use Rattle.cps_theory.specs.Labels.{Pair}
use Rattle.cps_theory.specs.Patterns.{PatternNode, pattern_node}
use Rattle.cps_theory.specs.FirstFound.{element_from, first_from, first_pair_from}
use Rattle.cps_theory.specs.CertificateClosure.{InNodeOrder, IsListed, IsListedOrStart, covers, first_missed, is_final}
use Rattle.cps_theory.specs.CertificateClosure.{is_final_below, is_placed_by_pattern, missed_from, node_cmp}
use Rattle.cps_theory.specs.CertificateClosure.{permits_next}
use Rattle.cps_theory.proofs.NodeExamples.{two}

second_passes : first_from (λ x. leb 5 x) 3 9 ≡ Some 5
second_passes = refl

none_passes : first_from (λ x. leb 50 x) 3 9 ≡ None
none_passes = refl

pair_found : first_pair_from (λ x. cond (leb 4 x) (Some 9) None) 3 9 ≡ Some (4, 9)
pair_found = refl

-- a state is its node and its pairs here
abbrev State : Type 0
State = PatternNode × List Pair

abbrev node_of : State → PatternNode
node_of s = s.0

abbrev pairs_of : State → List Pair
pairs_of s = s.1

-- rank 1 first, rank 2 first, and both
abbrev states : List State
states = (pattern_node two (1 ∷ []), (1000, 0) ∷ []) ∷ (pattern_node two (2 ∷ []), (1000, 0) ∷ [])
    ∷ (pattern_node two (2 ∷ 1 ∷ []), (1060, 0) ∷ []) ∷ (pattern_node two (1 ∷ 2 ∷ []), (1060, 0) ∷ []) ∷ []

abbrev first : ℕ → ℕ → Option ℕ
first r t = Some (max t 1000)

abbrev after : ℕ → ℕ → ℕ → ℕ
after zero t r = 1000
after (suc l) t r = t + 60

permits_both : permits_next two (pattern_node two []) 2 ≡ true
unfolding permits_next is_placed_by_pattern
permits_both = refl

not_again : permits_next two (pattern_node two (2 ∷ [])) 2 ≡ false
unfolding permits_next is_placed_by_pattern
not_again = refl

covered : covers node_of pairs_of states (pattern_node two (1 ∷ [])) (1010, 5) ≡ true
unfolding covers
covered = refl

not_covered : covers node_of pairs_of states (pattern_node two (1 ∷ [])) (990, 5) ≡ false
unfolding covers
not_covered = refl

is_listed : IsListed node_of pairs_of states (pattern_node two (1 ∷ [])) (1000, 0)
is_listed = inl (refl, inl refl)

start_misses_none : first_missed node_of pairs_of two first after (λ r t. 0) states (pattern_node two [])
    ((0, 0) ∷ []) ≡ None
unfolding first_missed covers permits_next is_placed_by_pattern
start_misses_none = refl

states_miss_none : missed_from node_of pairs_of two first after (λ r t. 0) states 1 states ≡ None
unfolding missed_from first_missed covers permits_next is_placed_by_pattern
states_miss_none = refl

-- without the last state, the second one misses its successor by rank 1
second_misses_one : missed_from node_of pairs_of two first after (λ r t. 0)
    ((pattern_node two (1 ∷ []), (1000, 0) ∷ []) ∷ (pattern_node two (2 ∷ 1 ∷ []), (1060, 0) ∷ []) ∷ []) 1
    ((pattern_node two (1 ∷ []), (1000, 0) ∷ []) ∷ (pattern_node two (2 ∷ []), (1000, 0) ∷ []) ∷ []) ≡ Some (2, 1)
unfolding missed_from first_missed covers permits_next is_placed_by_pattern
second_misses_one = refl

final_one : element_from (is_final node_of pairs_of 2) 1 states ≡ Some 3
unfolding element_from
final_one = refl

none_final_below : element_from (is_final_below node_of pairs_of 2 (λ q. q.0) 1060) 1 states ≡ None
unfolding element_from
none_final_below = refl

-- ---- the order of states: by stage, then by pattern

stage_first : node_cmp (1, true ∷ false ∷ [], 1) (2, false ∷ true ∷ [], 2) ≡ Less
stage_first = refl

states_in_order : InNodeOrder node_of pairs_of ((pattern_node two (2 ∷ []), (1000, 0) ∷ [])
    ∷ (pattern_node two (1 ∷ []), (1000, 0) ∷ []) ∷ [])
states_in_order = (refl, tt)

start_listed : IsListedOrStart node_of pairs_of two states (pattern_node two []) (0, 0)
start_listed = inl (refl, refl)
