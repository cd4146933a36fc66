-- The windows of legal prefixes, whose latest rank comes first, are the nodes of a network.
use Rattle.std.proofs.Common.{[], ◌≡◌, ℕ, zero, suc, ◌+◌, ◌-◌, ◌*◌, ◌<◌, ◌≤◌, List, ◌∷◌, ◌++◌, length, reverse, get_or}
use Rattle.std.proofs.Common.{refl, arith, rules, length-append, sym, inl, inr, subst, Bool}
use Rattle.std.specs.Prelude.{ℤ, pos, ◌/◌, ◌+ℤ◌, ◌-ℤ◌, ◌↔◌, Contains, IsTrue, All}
use Rattle.std.proofs.lemmas.Int.{ints}
use Rattle.std.proofs.lemmas.List.{length-reverse, get_or_default, get_or_past, get_or_append_left}
use Rattle.std.proofs.Math.Seq.{get_or-append_seam}
use Rattle.std.proofs.lemmas.List.Elements.{Contains-append_left, Contains-push, Contains-push_cases}
use Rattle.std.proofs.lemmas.Bool.{cases_lt}
use Rattle.precedence.specs.Pairs.{AreInRange}
use Rattle.cps_nodes.specs.Windows.{HoldsRank, IsPlaced, offset_at}
use Rattle.cps_nodes.specs.Ranks.{HasLanded, RanksKeepShift, window_of}
use Rattle.cps_nodes.specs.Laws.{FollowRanks, offset_after}
use Rattle.cps_theory.specs.RankLists.{In}
use Rattle.cps_theory.specs.LandingTrail.{last_rank}
use Rattle.cps_theory.specs.LegalPrefix.{IsLegalPrefix, MayFollow, Legal}
use Rattle.cps_theory.specs.laws.LegalPrefix.{legal_is_prefix}
use Rattle.landing_joint.specs.RankedProblem.{ranked}
use Rattle.landing_rules.specs.Problem.{Problem}
use Rattle.cps_problem.specs.Seen.{passed_at}
use Rattle.cps_network.specs.Permits.{IsPermitted}
use Rattle.cps_network.specs.Nodes.{node_of, permits, land, latest, IsWindowNetwork, StepsAreWhole}
use Rattle.cps_network.specs.WindowRanks.{TellTheirRanks}
use Rattle.cps_network.specs.shared.LegalWindows.{reverse_more}
use Rattle.cps_network.proofs.ListLemmas.{last_or_before}

contains_in : (rs : List ℕ) (x : ℕ) → Contains (reverse rs) x → In x rs
contains_in [] x has = absurd (omega (arith, has.1))
contains_in (r ∷ rs) x has = elim (Contains-push_cases (reverse rs) r x (rw (reverse_more r rs) at has)) [
  | inl old ↦ inr (contains_in rs x old)
  | inr same ↦ inl (sym same)
]

in_contains : (rs : List ℕ) (x : ℕ) → In x rs → Contains (reverse rs) x
in_contains [] x i = absurd i
in_contains (r ∷ rs) x (inl e) = rw (reverse_more r rs, e) (Contains-push (reverse rs) r)
in_contains (r ∷ rs) x (inr i) =
    rw (reverse_more r rs) (Contains-append_left (reverse rs) (r ∷ []) x (in_contains rs x i))

read_old : (ranks : List ℕ) (r i : ℕ) → i < length ranks → get_or (ranks ++ r ∷ []) i 0 ≡ get_or ranks i 0
read_old ranks r i lt = get_or_append_left ranks (r ∷ []) 0 i lt

read_last : (ranks : List ℕ) (r i : ℕ) → i ≡ length ranks → get_or (ranks ++ r ∷ []) i 0 ≡ r
read_last ranks r i e = rw e (get_or-append_seam ranks r [] 0)

zero_at : (w i : ℕ) → offset_at (window_of w []) i ≡ pos 0
zero_at zero zero = refl
zero_at zero (suc i) = refl
zero_at (suc w) zero = refl
zero_at (suc w) (suc i) = zero_at w i

module _ (p : Problem) where
  -- the shift rule with one rank more
  keeps_more : (rs : List ℕ) (r : ℕ) → RanksKeepShift ((2 * p.k + 1) / 2) (reverse rs)
      → MayFollow (ranked p).rules rs r → RanksKeepShift ((2 * p.k + 1) / 2) (reverse rs ++ r ∷ [])
  keeps_more rs r is next =
      let len : length (reverse rs) ≡ length rs = length-reverse rs in
      let longer : length (reverse rs ++ r ∷ []) ≡ length (reverse rs) + 1 = length-append (reverse rs) (r ∷ []) in
      record {
        positive = grind (arith, read_last, read_old);
        early = grind (arith, read_last, read_old);
        late = grind (arith, read_last, read_old);
        differ = search (rules, read_old, last_or_before, contains_in, get_or_default, read_last, is.differ);
        due = λ rank positive passed. elim (cases_lt (rank + p.k) (length rs + 1)) [
          | inl long ↦ grind (arith, Contains-append_left)
          | inr now ↦ rw (← reverse_more r rs) (in_contains (r ∷ rs) rank (next.due rank positive (omega arith)))
        ];
      }

  module _ (law : FollowRanks (2 * p.k + 1)) where
    keeps : (rs : List ℕ) → Legal (ranked p).rules rs → RanksKeepShift ((2 * p.k + 1) / 2) (reverse rs)
    keeps [] legal = law.none
    keeps (r ∷ rs) legal = grind (arith, reverse_more, keeps_more, (keeps rs legal.1))

    -- the window of a legal prefix places its ranks alone
    pub tells_ranks : TellTheirRanks p
    tells_ranks rs rank legal one = grind (arith, here.0, contains_in, here.1, in_contains)
      where
        here : IsPlaced (node_of p.k rs).1 (pos (length rs)) (pos rank) ↔ HasLanded (reverse rs) (pos rank)
        here = subst (λ (n : ℕ). IsPlaced (node_of p.k rs).1 (pos n) (pos rank) ↔ HasLanded (reverse rs) (pos rank))
            (length-reverse rs) (law.places (reverse rs) (pos rank) (keeps rs legal))

    module _ (range : AreInRange p.pairs) (low : (q : ℕ) → passed_at p q ≤ p.k) (rs : List ℕ) (r : ℕ)
        (legal : Legal (ranked p).rules rs) where
      -- a rank that may follow is permitted after the window
      may_permits : MayFollow (ranked p).rules rs r → permits p (node_of p.k rs) r
      may_permits next = grind (arith, law.goes_on, keeps_more, keeps, length-reverse, tells_ranks)

      -- and back
      permits_may : permits p (node_of p.k rs) r → MayFollow (ranked p).rules rs r
      permits_may may =
          let len : length (reverse rs) ≡ length rs = length-reverse rs in
          let more : RanksKeepShift ((2 * p.k + 1) / 2) (reverse (r ∷ rs)) =
          rw (reverse_more r rs) ((law.goes_on (reverse rs) r).1 (
            keeps rs legal,
            record {
              early = omega (arith, may.early);
              late = omega (arith, may.late);
              accepted = grind arith;
            },
          )) in
          record {
            fits = record {
              from_one = may.from_one;
              to_count = may.to_count;
              is_new = λ i. elim ((tells_ranks rs r legal may.from_one).1 i) [
                | inl due ↦ search rules
                | inr held ↦
                    let e : pos r -ℤ pos (length rs) +ℤ pos (length (node_of p.k rs).1 - 1)
                    ≡ pos (length (node_of p.k rs).1) +ℤ offset_after (length rs) r =
                    omega (arith, ints, law.wide (reverse rs)) in
                    may.accepted.fresh (subst (HoldsRank (node_of p.k rs).1) e held)
              ];
              not_early = omega (arith, may.early);
              not_late = omega (arith, may.late);
              after = grind (arith, tells_ranks);
            };
            due = λ x one e. contains_in (r ∷ rs) x (more.due x one (omega (arith, length-reverse (r ∷ rs))));
          }

pushed : (p : Problem) (rs : List ℕ) (r : ℕ) → FollowRanks (2 * p.k + 1)
    → node_of p.k (r ∷ rs) ≡ land (node_of p.k rs) r
pushed p rs r law = grind (arith, reverse_more, length-reverse)

latest_rank : (p : Problem) (rs : List ℕ) → FollowRanks (2 * p.k + 1) → latest (node_of p.k rs) ≡ last_rank rs
latest_rank p [] law = grind (arith, zero_at)
latest_rank p (r ∷ rs) law =
    let wide : length (window_of (2 * p.k + 1) (reverse (r ∷ rs))) ≡ 2 * p.k + 1 = law.wide (reverse (r ∷ rs)) in
    let last : pos (length (reverse rs) + 1) +ℤ offset_at (window_of (2 * p.k + 1) (reverse rs ++ r ∷ []))
    (2 * p.k + 1 - 1) ≡ pos r = law.last (reverse rs) r in
    let here : offset_at (window_of (2 * p.k + 1) (reverse (r ∷ rs)))
    (length (window_of (2 * p.k + 1) (reverse (r ∷ rs))) - 1)
    ≡ offset_at (window_of (2 * p.k + 1) (reverse rs ++ r ∷ [])) (2 * p.k + 1 - 1) = grind (arith, reverse_more) in
    grind (arith, length-reverse)

pub window_network : (p : Problem) → AreInRange p.pairs → ((q : ℕ) → passed_at p q ≤ p.k) → FollowRanks (2 * p.k + 1)
    → IsWindowNetwork p
window_network p range low law = record {
  empty = tt;
  grows = search (rules, permits_may);
  shrinks = λ r rs legal. grind (arith, may_permits);
  pushes = λ r rs legal. pushed p rs r law;
  newest_is = λ rs legal. latest_rank p rs law;
}

-- at most k flights passed that of each rank, and none one that is of no flight
pub passed_low : (p : Problem) → All (λ f. f.passed ≤ p.k) p.flights → (q : ℕ) → passed_at p q ≤ p.k
passed_low p all zero = omega arith
passed_low p all (suc i) = grind (arith, get_or_past)

pub steps_are_whole : (p : Problem) → StepsAreWhole p
steps_are_whole p ranks = grind (arith, legal_is_prefix)

-- where a test says whether a rank is permitted after the window of a legal prefix, it says whether the prefix with it
-- is legal
pub whole_permitted : (p : Problem) (b : Bool) (stage : ℕ) (xs : List ℤ) (rank w : ℕ) → w ≡ 2 * p.k + 1
    → IsWindowNetwork p
    → (IsTrue b ↔ IsPermitted p stage xs rank) → (ranks : List ℕ) → IsLegalPrefix (ranked p).rules ranks
    → xs ≡ window_of w (reverse ranks)
    → stage ≡ length ranks → IsTrue b ↔ IsLegalPrefix (ranked p).rules (rank ∷ ranks)
whole_permitted p b stage xs rank w odd net test ranks legal at e =
    let here : IsTrue b ↔ permits p (node_of p.k ranks) rank = grind arith in (
      λ t. (steps_are_whole p (rank ∷ ranks)).0 (net.grows rank ranks ((steps_are_whole p ranks).1 legal) (here.0 t)),
      λ is. here.1 (net.shrinks rank ranks ((steps_are_whole p (rank ∷ ranks)).1 is)).1,
    )
