-- What the windows of legal prefixes are: windows of the width, whose last offset tells the rank that landed last.
use Rattle.std.proofs.Common.{[], rules, ◌≡◌, ℕ, suc, ◌+◌, ◌-◌, ◌*◌, ◌≤◌, List, ◌∷◌, ◌++◌, length, reverse, replicate}
use Rattle.std.proofs.Common.{subst, arith}
use Rattle.std.specs.Prelude.{ℤ, pos, ◌+ℤ◌}
use Rattle.std.proofs.lemmas.Int.{ints}
use Rattle.std.proofs.lemmas.List.{reverse-append, length-reverse, append-nil, get_or-replicate}
use Rattle.cps_nodes.specs.Windows.{IsWindow, offset_at, shifted}
use Rattle.cps_nodes.specs.Ranks.{window_of}
use Rattle.cps_nodes.specs.Laws.{offset_after}
use Rattle.cps_theory.specs.LandingTrail.{last_rank, ranks}
use Rattle.cps_theory.specs.LegalPrefix.{Legal}
use Rattle.landing_joint.specs.RankedProblem.{ranked}
use Rattle.landing_rules.specs.Problem.{Problem}
use Rattle.cps_network.specs.Landable.{IsLandable}
use Rattle.cps_network.specs.Nodes.{WindowNode, node_of, permits, latest}
use Rattle.cps_network.specs.Permits.{IsPermitted}
use Rattle.cps_network.specs.WindowLaws.{WindowLaws}

pub reverse_more : (r : ℕ) (rs : List ℕ) → reverse (r ∷ rs) ≡ reverse rs ++ r ∷ []
reverse_more r rs = reverse-append (r ∷ []) rs

-- the window of no landing is zeros
pub source_is : (p : Problem) → window_of (2 * p.k + 1) [] ≡ replicate (2 * p.k + 1) (pos 0)
source_is p = append-nil (replicate (2 * p.k + 1) (pos 0))

module _ (p : Problem) (w : ℕ) (odd : w ≡ 2 * p.k + 1) (laws : WindowLaws p w) where
  -- the window of a legal prefix is a window, and its last rank is the last of the prefix
  pub valid_after : (x : List ℤ) (stage r : ℕ) → IsWindow w x → IsPermitted p stage x r
      → IsWindow w (shifted x (offset_after stage r))
  valid_after x stage r valid may =
      laws.leads.stays x (offset_after stage r) valid
      (record { low = omega (arith, ints, may.late, odd); high = omega (arith, ints, may.early, odd) }) may.accepted

  prefix_valid : (rs : List ℕ) → Legal (ranked p).rules rs → IsWindow w (node_of p.k rs).1
  prefix_valid [] legal = search rules
  prefix_valid (r ∷ rs) legal =
      let s = laws.network.shrinks r rs legal in grind (arith, valid_after, p.k, (prefix_valid rs s.0))

  prefix_last : (rs : List ℕ) → pos (length rs) +ℤ offset_at (node_of p.k rs).1 (w - 1) ≡ pos (last_rank rs)
  prefix_last [] = search (rules, get_or-replicate)
  prefix_last (r ∷ rs) = grind (arith, p.k, reverse_more, length-reverse)

  rank_in : (rs : List ℕ) → Legal (ranked p).rules rs → last_rank rs ≤ length p.flights
  rank_in [] legal = omega arith
  rank_in (r ∷ rs) legal = legal.0.fits.to_count

  pub landable_valid : (stage : ℕ) (x : List ℤ) → IsLandable p stage x → IsWindow w x
  landable_valid stage x l = grind (arith, prefix_valid)

  -- the rank that landed last in a landable window
  pub landable_last : (stage : ℕ) (x : List ℤ) → IsLandable p stage x
      → (pos stage +ℤ offset_at x (w - 1) ≡ pos (latest (stage, x))) × (latest (stage, x) ≤ length p.flights)
  landable_last stage x l =
      let is : latest (stage, x) ≡ last_rank (ranks l.1.landings) = grind arith in
      let last : pos stage +ℤ offset_at x (w - 1) ≡ pos (last_rank (ranks l.1.landings)) =
      subst (λ (n : WindowNode). pos n.0 +ℤ offset_at n.1 (w - 1) ≡ pos (last_rank (ranks l.1.landings))) l.1.at
      (prefix_last (ranks l.1.landings)) in grind arith

  -- and the rank that lands next is the last of the window after it
  pub next_last : (stage : ℕ) (x : List ℤ) (r : ℕ) → IsLandable p stage x → IsPermitted p stage x r
      → pos (suc stage) +ℤ offset_at (shifted x (offset_after stage r)) (w - 1) ≡ pos r
  next_last stage x r l may =
      let rs = ranks l.1.landings in
      let here : permits p (node_of p.k (ranks l.1.landings)) r = grind arith in
      let at : node_of p.k (r ∷ ranks l.1.landings) ≡ (suc stage, shifted x (offset_after stage r)) = grind arith in
      subst (λ (n : WindowNode). pos n.0 +ℤ offset_at n.1 (w - 1) ≡ pos r) at (prefix_last (r ∷ ranks l.1.landings))
