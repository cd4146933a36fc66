-- One state more, behind others.
use Rattle.std.proofs.Common.{arith, rules, ◌≡◌, List, [], ◌∷◌, ◌++◌, inr}
use Rattle.std.proofs.lemmas.Grind.{common_steps}
use Rattle.std.specs.declared.cmp.Ordering.TheVariants.{Less}
use Rattle.cps_theory.specs.Patterns.{PatternNode}
use Rattle.cps_theory.specs.CertificateClosure.{node_cmp}
use Rattle.certificate.specs.States.{State, AreAscending}
use Rattle.cert_check.specs.States.{node_of}
use Rattle.cert_check.specs.Whole.{HasNode}
use Rattle.landing_rules.specs.shared.Counting.{Member}
use Rattle.landing_rules.specs.shared.Members.{member_contains, pushed_in}

-- the state's node comes before this one
abbrev pub IsBefore : State → PatternNode → Type 0
IsBefore s d = node_cmp (node_of s) d ≡ Less

-- it keeps the order where its node comes behind all others
pub ascending_end : (ss : List State) (s : State) → AreAscending ss
    → ((x : State) → Member x ss → IsBefore x (node_of s)) → AreAscending (ss ++ s ∷ [])
ascending_end [] s h k = tt
ascending_end (a ∷ []) s h k = search rules
ascending_end (a ∷ b ∷ ss) s h k = (h.0, ascending_end (b ∷ ss) s h.1 (λ x i. k x (inr i)))

pub node_left : (ss : List State) (t : State) (w : PatternNode) → HasNode ss w → HasNode (ss ++ t ∷ []) w
node_left ss t w n = grind (arith, common_steps)

pub node_end : (ss : List State) (t : State) (w : PatternNode) → node_of t ≡ w → HasNode (ss ++ t ∷ []) w
node_end ss t w e = search (rules, member_contains, pushed_in)
