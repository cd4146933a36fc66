-- The completing pairs of a prefix are those of its node, told by its pattern.
use Rattle.std.proofs.Common.{arith}
use Rattle.std.proofs.Common.{◌≡◌, ℕ, ◌≤◌, ◌↔◌, Bool, true, List, [], ◌∷◌}
use Rattle.std.proofs.Common.{subst}
use Rattle.std.proofs.lemmas.Bool.{false≢true}
use Rattle.landing_rules.specs.Problem.{Problem}
use Rattle.cps_theory.specs.RankLists.{In}
use Rattle.cps_theory.specs.Separation.{Landing}
use Rattle.cps_theory.specs.Labels.{Pair}
use Rattle.cps_theory.specs.LegalPrefix.{Legal}
use Rattle.cps_theory.specs.Network.{Network}
use Rattle.cps_theory.specs.Patterns.{IsPlacedByPattern, PatternNode, PatternPermits, is_member}
use Rattle.cps_theory.specs.Patterns.{pattern_newest, pattern_node, pattern_push}
use Rattle.cps_theory.specs.Feasible.{SoundProblem, next_from}
use Rattle.cps_theory.specs.CompletingPairs.{Follows}
use Rattle.cps_theory.specs.FirstBest.{CompletesNode, ReachedIn}
use Rattle.cps_theory.specs.laws.LegalPrefix.{legal_each_fits, in_from_one}
use Rattle.cps_theory.specs.laws.PatternNetwork.{in_member, member_in, pattern_network, same, tests_agree}
use Rattle.landing_joint.specs.RankedProblem.{ranked, cost_at}
use Rattle.landing_joint.specs.CompletingPairs.{AreOneNode, CanLandBy, EndsOrder, IsCompletingPair, IsLegal, is_low}

-- ---- nodes

same_member : (x : ℕ) (rs os : List ℕ) → In x rs ↔ In x os → is_member x rs ≡ is_member x os
same_member x rs os h = grind (arith, false≢true, in_member, member_in)

pub node_is : (m n : ℕ) (ds es : List Bool) (q r : ℕ) → m ≡ n → ds ≡ es → q ≡ r
    → ◌≡◌ {A = PatternNode} (m, ds, q) (n, es, r)
node_is m n ds es q r a b c = cc

module _ (p : Problem) (sound : SoundProblem (ranked p)) where
  ones : (a r : ℕ) → (ranked p).rules.before a r ≡ true → 1 ≤ a
  ones a r b = (sound.ranked a r b).0

  pub net : Network PatternNode (Legal (ranked p).rules) (pattern_node (ranked p).rules)
      (PatternPermits (ranked p).rules) (pattern_push (ranked p).rules) pattern_newest
  net = pattern_network _ ones

  -- prefixes of one node have one pattern
  pub one_pattern : (rs os : List ℕ) → AreOneNode rs os
      → pattern_node (ranked p).rules rs ≡ pattern_node (ranked p).rules os
  one_pattern rs os n = grind (arith, tests_agree, same_member, node_is)

  placed_one : (rs os : List ℕ) → IsLegal p rs → IsLegal p os
      → pattern_node (ranked p).rules rs ≡ pattern_node (ranked p).rules os → (x : ℕ) → In x rs → In x os
  placed_one rs os l m e x i =
      let one = (in_from_one _ x rs (legal_each_fits _ rs l) i).0 in
      (same _ ones os m x one).1 (subst (λ w. IsPlacedByPattern (ranked p).rules w x) e ((same _ ones rs l x one).0 i))

  -- and legal prefixes of one pattern are of one node
  pub pattern_one : (rs os : List ℕ) → IsLegal p rs → IsLegal p os
      → pattern_node (ranked p).rules rs ≡ pattern_node (ranked p).rules os → AreOneNode rs os
  pattern_one rs os l m e = grind (arith, placed_one)

  -- a node that can land is reached
  pub reached_by : (rs : List ℕ) (b : ℕ) → CanLandBy p rs b → ReachedIn (ranked p) (pattern_node (ranked p).rules rs) b
  reached_by rs b c = search one_pattern

  pub by_reached : (rs : List ℕ) (b : ℕ) → IsLegal p rs → ReachedIn (ranked p) (pattern_node (ranked p).rules rs) b
      → CanLandBy p rs b
  by_reached rs b l c = search pattern_one

  -- ---- what follows

  module _ (v : ℕ) where
    abbrev FollowsIn : PatternNode → ℕ → List Landing → Type 0
    FollowsIn w b ys = Follows PatternNode (λ x u. (ranked p).is_open x u ≡ true) (next_from (ranked p))
        (PatternPermits (ranked p).rules) (pattern_push (ranked p).rules) pattern_newest
        (λ z. z.0 ≡ (ranked p).rules.count) (λ t. is_low p v t ≡ true) w b ys

    ends_follows : (rs : List ℕ) (b : ℕ) (ys : List Landing) → IsLegal p rs → EndsOrder p v rs b ys
        → FollowsIn (pattern_node (ranked p).rules rs) b ys
    ends_follows rs b [] l e = e
    ends_follows rs b (y ∷ ys) l e = (
      (net.shrinks y.0 rs e.0).1,
      e.1,
      e.2,
      e.3,
      rw (net.pushes y.0 rs l) at (ends_follows _ y.1 ys e.0 e.4),
    )

    follows_ends : (rs : List ℕ) (b : ℕ) (ys : List Landing) → IsLegal p rs
        → FollowsIn (pattern_node (ranked p).rules rs) b ys → EndsOrder p v rs b ys
    follows_ends rs b [] l f = f
    follows_ends rs b (y ∷ ys) l f =
        let m = net.grows y.0 rs l f.0 in (m, f.1, f.2, f.3, follows_ends _ y.1 ys m (rw (net.pushes y.0 rs l) f.4))

    abbrev CompletesIn : PatternNode → Pair → Type 0
    CompletesIn w q = CompletesNode (ranked p) (cost_at p) (is_low p v) w q

    -- the completing pairs of a legal prefix are those of its pattern
    pub completes_node : (rs : List ℕ) (q : Pair) → IsLegal p rs → IsCompletingPair p v rs q
        → CompletesIn (pattern_node (ranked p).rules rs) q
    completes_node rs q l c = search (reached_by, ends_follows)

    pub node_completes : (rs : List ℕ) (q : Pair) → IsLegal p rs → CompletesIn (pattern_node (ranked p).rules rs) q
        → IsCompletingPair p v rs q
    node_completes rs q l c = search (by_reached, follows_ends)

    -- so they are those of each legal prefix of the node
    pub completes_one : (rs os : List ℕ) (q : Pair) → IsLegal p rs → IsLegal p os → AreOneNode rs os
        → IsCompletingPair p v rs q → IsCompletingPair p v os q
    completes_one rs os q l m n c = node_completes os q m (rw (one_pattern rs os n) at (completes_node rs q l c))
