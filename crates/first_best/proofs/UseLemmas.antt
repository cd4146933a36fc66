-- What is of use behind a node is of use behind the nodes that it leads to, and a budget has room for it.
use Rattle.std.proofs.Common.{◌≡◌, ℕ, suc, ◌+◌, ◌≤◌, inl, inr, List, ◌∷◌, length, Option, Some, None, refl, sym, ap}
use Rattle.std.proofs.Common.{subst, ◌∙◌, le_refl, le_trans, arith}
use Rattle.landing_rules.specs.Problem.{Problem}
use Rattle.cps_theory.specs.Feasible.{SoundProblem, next_from}
use Rattle.cps_theory.specs.Labels.{Pair}
use Rattle.cps_theory.specs.LandingTrail.{cost_of, last_rank, latest_landing, ranks}
use Rattle.cps_theory.specs.Patterns.{PatternPermits}
use Rattle.cps_theory.specs.ProblemNetwork.{LandedIn}
use Rattle.cps_theory.specs.Separation.{Landing}
use Rattle.cps_theory.specs.CompletingPairs.{KeptCompleting, NoEarlierNoDearer}
use Rattle.cps_theory.specs.laws.LabelDominance.{last_ranks}
use Rattle.cps_theory.specs.laws.LeastObjective.{next_later}
use Rattle.landing_joint.specs.RankedProblem.{ranked, cost_at, landing_after}
use Rattle.landing_joint.specs.CompletingPairs.{AreOneNode, IsLegal}
use Rattle.landing_joint.specs.shared.FirstOpen.{is_first_open}
use Rattle.landing_joint.specs.shared.NodePairs.{net, one_pattern}
use Rattle.first_best.specs.declared.node.EarlyNode.{EarlyNode}
use Rattle.first_best.specs.Nodes.{IsLandedPrefix, IsPrefixOf}
use Rattle.first_best.specs.Completing.{IsWithinBudget}
use Rattle.first_best.specs.Uses.{IsWanted, KeepsWanted}
use Rattle.first_best.proofs.NodeLemmas.{node_one}

-- of all pairs each has itself
pub all_kept : (C : Pair → Type 0) → KeptCompleting C C
all_kept C = record { completes = λ q c. c; covers = λ q c. (q, c, (le_refl q.0, le_refl q.1)) }

-- those of use are among all
pub all_useful : (p : Problem) (budget : Option ℕ) (rs : List ℕ) (C Keeps : Pair → Type 0)
    → KeepsWanted C (IsWanted p None rs) Keeps → KeepsWanted C (IsWanted p budget rs) Keeps
all_useful p budget rs C Keeps k = record { completes = k.completes; covers = λ q c w. k.covers q c tt }

-- ---- one rank more

module _ (p : Problem) (sound : SoundProblem (ranked p)) (rs : List ℕ) (r : ℕ) (more : IsLegal p (r ∷ rs)) where
  -- a rank that may follow a prefix may follow each prefix of its node
  follows_each : (os : List ℕ) → IsLegal p rs → IsLegal p os → AreOneNode os rs → IsLegal p (r ∷ os)
  follows_each os legal other one = (net p sound).grows r os other (subst (λ w. PatternPermits (ranked p).rules w r)
      (sym (one_pattern p sound os rs one)) ((net p sound).shrinks r rs more).1)

  one_longer : (os : List ℕ) → AreOneNode os rs → AreOneNode (r ∷ os) (r ∷ rs)
  one_longer os one = record {
    stage = ap suc one.stage;
    placed = λ x. (
      λ i. elim i [ inl e ↦ inl e | inr j ↦ inr ((one.placed x).0 j) ],
      λ i. elim i [ inl e ↦ inl e | inr j ↦ inr ((one.placed x).1 j) ],
    );
    latest = refl;
  }

  -- where it lands behind one by a second, it may land behind each that is no later
  lands_each : (b t : ℕ) → landing_after p (last_rank rs) b r ≡ Some t → (xs : List Landing) → LandedIn (ranked p) xs
      → last_rank (ranks xs) ≡ last_rank rs → (latest_landing xs).1 ≤ b → LandedIn (ranked p) ((r, t) ∷ xs)
  lands_each b t lands xs landed last le =
      let f = (is_first_open p).found r (next_from (ranked p) (last_rank rs) b r) t lands in
      let from = le_trans ((next_later (ranked p)).mono (last_rank rs) (latest_landing xs).1 b r le) f.1 in
      (f.0, subst (λ n. next_from (ranked p) n (latest_landing xs).1 r ≤ t) (sym last ∙ last_ranks xs) from, landed)

  -- a pair of use behind a prefix makes the pair that it came from one of use behind the next
  pub wanted_next : (budget : Option ℕ) (q s o : Pair) (t : ℕ) → IsLegal p rs
      → landing_after p (last_rank rs) s.0 r ≡ Some t → t ≤ o.0 → cost_at p r t + o.1 ≡ s.1 → NoEarlierNoDearer s q
      → IsWanted p budget rs q → IsWanted p budget (r ∷ rs) o
  wanted_next None q s o t legal lands in_time cost no_worse w = tt
  wanted_next (Some budget) q s o t legal lands in_time cost no_worse w = record {
    landings = (r, t) ∷ w.landings;
    legal = follows_each (ranks w.landings) legal w.legal w.one_node;
    landed = lands_each s.0 t lands w.landings w.landed w.one_node.latest (le_trans w.by no_worse.0);
    one_node = one_longer (ranks w.landings) w.one_node;
    by = in_time;
    cheap = (let a = w.cheap in let b = no_worse.1 in omega (arith, a, b, cost));
  }

-- ---- room

-- there is room for what costs no more
pub room_below : (budget : Option ℕ) (cheapest c d : ℕ) → c ≤ d → IsWithinBudget budget cheapest d
    → IsWithinBudget budget cheapest c
room_below None cheapest c d le h = tt
room_below (Some budget) cheapest c d le h = omega arith

-- and for what is of use
pub wanted_room : (p : Problem) (budget : Option ℕ) (rs : List ℕ) (node : EarlyNode)
    → ((xs : List Landing) → IsLandedPrefix p (length rs) xs → IsPrefixOf (ranks xs) node
    → node.cheapest ≤ cost_of (cost_at p) xs) → IsPrefixOf rs node
    → (q : Pair) (cost : ℕ) → cost ≤ q.1 → IsWanted p budget rs q → IsWithinBudget budget node.cheapest cost
wanted_room p None rs node cheap of q cost le w = tt
wanted_room p (Some budget) rs node cheap of q cost le w =
    let a = cheap w.landings (record { legal = w.legal; landed = w.landed; long = w.one_node.stage })
    (node_one rs _ node w.one_node of) in
    let b = w.cheap in
    omega arith
