-- A problem has one list of states that leaves nothing out.
use Rattle.std.proofs.lemmas.Grind.{common_steps}
use Rattle.std.proofs.Common.{arith, rules, ◌≡◌, true, List, [], ◌∷◌, sym, subst}
use Rattle.std.specs.Ordering.{is_lt}
use Rattle.std.specs.declared.cmp.Ordering.{Ordering}
use Rattle.std.specs.declared.cmp.Ordering.TheVariants.{Less}
use Rattle.std.proofs.lemmas.Cmp.{tied_itself}
use Rattle.landing_rules.specs.Problem.{Problem}
use Rattle.cps_theory.specs.Labels.{InPairs, Pair}
use Rattle.cps_theory.specs.Network.{Undominated}
use Rattle.cps_theory.specs.Patterns.{PatternNode}
use Rattle.cps_theory.specs.CertificateClosure.{node_cmp}
use Rattle.cps_theory.specs.laws.NodeOrder.{node_total}
use Rattle.cps_theory.specs.laws.Staircases.{staircase_same}
use Rattle.certificate.specs.States.{State, AreAscending}
use Rattle.cert_check.specs.States.{node_of}
use Rattle.cert_check.specs.Whole.{Attains, IsWholeState, AreWholeStates}
use Rattle.landing_rules.specs.shared.Counting.{Member}
use Rattle.landing_rules.specs.shared.Members.{all_at, contains_member}
use Rattle.landing_rules.specs.shared.OneList.{AscendBy, one_list}
use Rattle.cert_check.specs.shared.KeptPairs.{rising_staircase}

-- its node comes before the other's
abbrev Before : State → State → Type 0
Before s t = node_cmp (node_of s) (node_of t) ≡ Less

less_of : (o : Ordering) → is_lt o ≡ true → o ≡ Less
less_of o e = grind (arith, common_steps)

before_trans : (a b c : State) → Before a b → Before b c → Before a c
before_trans a b c h k = node_total.trans (node_of a) (node_of b) (node_of c) h k

one_way : (s t : State) → Before s t → Before t s → ⊥
one_way s t h k = cc (before_trans s t s h k, tied_itself node_total (node_of s))

pub ascending : (ss : List State) → AreAscending ss → AscendBy (λ s t. node_cmp (node_of s) (node_of t) ≡ Less) ss
ascending [] h = tt
ascending (a ∷ []) h = (λ b i. absurd i, tt)
ascending (a ∷ b ∷ rest) h = search (rules, less_of, before_trans, ascending (b ∷ rest) h.1)

module _ (p : Problem) where
  moved : (s t : State) → IsWholeState p s → IsWholeState p t → node_of s ≡ node_of t → (q : Pair)
      → InPairs q s.pairs → InPairs q t.pairs
  moved s t h k e q i = (k.undominated q).1 (subst (λ (w : PatternNode). Undominated (Attains p w) q) e
      ((h.undominated q).0 i))

  one_state : (s t : State) → IsWholeState p s → IsWholeState p t → node_of s ≡ node_of t → s ≡ t
  one_state s t h k e =
      let pairs = staircase_same s.pairs t.pairs (rising_staircase s.pairs h.rising) (rising_staircase t.pairs k.rising)
      (moved s t h k e) (moved t s k h (sym e)) in search rules

  found : (ss ts : List State) → AreWholeStates p ss → AreWholeStates p ts → (s : State) → Member s ss → Member s ts
  found ss ts h k s i =
      let here = all_at (IsWholeState p) ss h.each s i in
      let t = k.every (node_of s) here.landable.0 here.begun here.landable.1 in
      let among = contains_member ts t.0 t.1 in
      let there = all_at (IsWholeState p) ts k.each t.0 among in grind (arith, one_state)

  pub whole_is_unique : (ss ts : List State) → AreWholeStates p ss → AreWholeStates p ts → ss ≡ ts
  whole_is_unique ss ts h k = search (rules, one_list, one_way, ascending, found)
