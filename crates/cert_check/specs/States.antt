-- The states of a certificate as nodes with their pairs: the shape of a state, what the states miss, and which of them
-- contradict a claim.
use Rattle.std.specs.Prelude.{ℕ, zero, suc, max, ◌+◌, ◌-◌, ◌*◌, ◌&&◌, ◌||◌, ◌==◌, not, List, [], ◌∷◌, length, get_or}
use Rattle.std.specs.Prelude.{Bool, false, nat_le, nat_lt, Option, Some, is_none, count_by, if◌then◌else◌}
use Rattle.std.specs.Option.{option_or}
use Rattle.landing_rules.specs.Problem.{Problem}
use Rattle.cps_theory.specs.Labels.{Pair, next_pair}
use Rattle.cps_theory.specs.FirstFound.{first_from, with_number, element_from}
use Rattle.cps_theory.specs.LegalPrefix.{OrderRules}
use Rattle.cps_theory.specs.Patterns.{PatternNode, pattern_node}
use Rattle.cps_theory.specs.CertificateClosure as closure
use Rattle.cps_theory.specs.CertificateClosure.{is_placed_by_pattern}
use Rattle.landing_joint.specs.RankedProblem.{ranked, start_at, apart_at, first_at, cost_at, value_at}
use Rattle.certificate.specs.declared.certificate.Claim.{Claim}
use Rattle.certificate.specs.declared.certificate.Claim.TheVariants.{Optimal, Infeasible}
use Rattle.certificate.specs.States.{State}
use Rattle.cert_check.specs.Landings.{count}

-- a state's stage, pattern and last rank, and its pairs
abbrev pub node_of : State → PatternNode
node_of s = (s.stage, s.pattern, s.last)

abbrev pub pairs_of : State → List Pair
pairs_of s = s.pairs

-- ---- the shape of a state

abbrev pub is_one : Bool → Bool
is_one d = d

-- digit j of a pattern, 0 beyond its end
abbrev pub digit : List Bool → ℕ → Bool
digit pattern j = get_or pattern (j - 1) false

-- digit j tells of rank stage + j - k: a rank below 1 is to have a 1, a rank above n a 0
abbrev pub is_wrong_digit : ℕ → ℕ → PatternNode → ℕ → Bool
is_wrong_digit k n w j = (nat_le (w.0 + j) k && not (digit w.1 j)) || (nat_lt (n + k) (w.0 + j) && digit w.1 j)

-- of n flights with shift k: the stage is up to n; of the 2k digits k are 1, and none is wrong; the last rank is a
-- rank, within k of its place, and placed
unfoldable pub is_shaped : ℕ → ℕ → PatternNode → Bool
is_shaped k n w =
    (((((nat_le w.0 n && length w.1 == 2 * k) && count_by is_one w.1 == k)
    && is_none (first_from (is_wrong_digit k n w) 1 (2 * k)))
    && nat_le w.2 n) && (nat_le w.0 (w.2 + k) && nat_le w.2 (w.0 + k))) && is_placed_by_pattern k w w.2

abbrev pub is_misshapen : Problem → State → Bool
is_misshapen p s = not (is_shaped p.k (count p) (node_of s))

-- ---- what the states miss

abbrev pub rules_of : Problem → OrderRules
rules_of p = (ranked p).rules

-- from when on rank r may land behind rank l at a second, and as the first. A pair may be earlier than any landing, so
-- that what the last frozen flight asks of r is not in every such second; the start alone asks it
abbrev pub ready : Problem → ℕ → ℕ → ℕ → ℕ
ready p zero u r = start_at p r
ready p (suc l) u r = max p.horizon (u + apart_at p (suc l) r)

-- the pair behind another of last rank l, by rank r
abbrev pub successor : Problem → ℕ → Pair → ℕ → Option Pair
successor p = next_pair (first_at p) (ready p) (cost_at p)

-- some state of this node lists a pair that is no later and no dearer
abbrev pub covers : List State → PatternNode → Pair → Bool
covers ss w q = closure.covers node_of pairs_of ss w q

-- the successor of a pair by rank r is not covered; some such pair, where r may come next
abbrev pub is_missed : Problem → List State → PatternNode → ℕ → Pair → Bool
is_missed p ss w r b = closure.is_missed node_of pairs_of (rules_of p) (first_at p) (ready p) (cost_at p) ss w r b

abbrev pub misses : Problem → List State → PatternNode → List Pair → ℕ → Bool
misses p ss w pairs r = closure.misses node_of pairs_of (rules_of p) (first_at p) (ready p) (cost_at p) ss w pairs r

-- the least rank that is missed at a node with these pairs; the first such state from number i on, with that rank
abbrev pub first_missed : Problem → List State → PatternNode → List Pair → Option ℕ
first_missed p ss w pairs =
    closure.first_missed node_of pairs_of (rules_of p) (first_at p) (ready p) (cost_at p) ss w pairs

abbrev pub missed_from : Problem → List State → ℕ → List State → Option (ℕ × ℕ)
missed_from p ss i rest = closure.missed_from node_of pairs_of (rules_of p) (first_at p) (ready p) (cost_at p) ss i rest

-- the start is number 0, and lists the pair (0, 0)
abbrev pub start_node : Problem → PatternNode
start_node p = pattern_node (rules_of p) []

abbrev pub successor_failure : Problem → List State → Option (ℕ × ℕ)
successor_failure p ss = option_or (with_number 0 (first_missed p ss (start_node p) ((0, 0) ∷ [])))
    (missed_from p ss 1 ss)

-- ---- the first state of its kind

abbrev pub shape_failure : Problem → List State → Option ℕ
shape_failure p ss = element_from (is_misshapen p) 1 ss

-- a state of the last stage; one that lists a pair of a smaller objective
abbrev pub is_final : Problem → State → Bool
is_final p s = closure.is_final node_of pairs_of (count p) s

abbrev pub is_final_below : Problem → ℕ → State → Bool
is_final_below p v s = closure.is_final_below node_of pairs_of (count p) (value_at p) v s

-- with no flight the start is of the last stage
abbrev pub final_failure : Problem → Claim → List State → Option ℕ
final_failure p (Optimal v) ss = element_from (is_final_below p v) 1 ss
final_failure p Infeasible ss = if count p == 0 then Some 0 else element_from (is_final p) 1 ss
