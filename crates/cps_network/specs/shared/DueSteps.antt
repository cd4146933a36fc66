-- What is due stage by stage, from which stage on, and that it is at most the widest stage for each flight.
use Rattle.std.proofs.Common.{◌≡◌, ℕ, zero, suc, ◌+◌, ◌*◌, ◌^◌, ◌<◌, ◌≤◌, List, length, Bool, true, false, Some, None}
use Rattle.std.proofs.Common.{[], refl, sym, subst, arith}
use Rattle.std.specs.Prelude.{ℤ}
use Rattle.std.proofs.lemmas.List.Elements.{Contains-get_or}
use Rattle.landing_rules.specs.Problem.{Problem}
use Rattle.cps_nodes.specs.Windows.{IsWindow}
use Rattle.cps_problem.specs.FirstDifference.{IsFirstDifference}
use Rattle.cps_network.specs.Due.{HasCandidates, HasCandidatesIf, HasCandidatesWhere, HasCandidatesUpto}
use Rattle.cps_network.specs.Due.{HasCandidatesFrom, IsDue, IsDueFrom, DueIsBounded}
use Rattle.cps_network.specs.Landable.{IsCandidate}
use Rattle.cps_network.specs.Lists.{AreWindows, node_at}
use Rattle.cps_network.specs.WindowLaws.{WindowLaws}
use Rattle.cps_network.specs.shared.FewWindows.{few_windows}
use Rattle.cps_network.specs.shared.LegalWindows.{landable_valid, valid_after}

-- where no stage counts nothing is due
pub none_due : (test : ℕ → Bool) (p : Problem) (n : ℕ) → ((s : ℕ) → 1 ≤ s → s ≤ n → test s ≡ false)
    → HasCandidatesWhere test p n 0
none_due test p zero none = refl
none_due test p (suc n) none = (
  0,
  0,
  grind arith,
  none_due test p n (λ s one le. none s one (omega arith)),
  refl,
)

-- ---- the same stages

-- tests that the same stages pass count the same
pub same_where : (f g : ℕ → Bool) (p : Problem) (n total : ℕ) → ((s : ℕ) → 1 ≤ s → s ≤ n → f s ≡ g s)
    → HasCandidatesWhere f p n total → HasCandidatesWhere g p n total
same_where f g p zero total same has = has
same_where f g p (suc n) total same (count, before, here, rest, e) =
    grind (arith, (same_where f g p n before (λ s one le. same s one (omega arith)) rest))

-- before the first of them nothing is due
pub none_from : (first : ℕ) (p : Problem) (n : ℕ) → n < first → HasCandidatesFrom first p n 0
none_from first p n below = grind (arith, none_due)

-- and from there on each stage
pub more_from : (first : ℕ) (p : Problem) (n before count : ℕ) → first ≤ suc n → HasCandidatesFrom first p n before
    → HasCandidates p n count → HasCandidatesFrom first p (suc n) (before + count)
more_from first p n before count le due has = grind arith

-- where nothing is held all stages are due
pub all_due : (p : Problem) (total : ℕ) → IsDue None p total → HasCandidatesUpto p (length p.flights) total
all_due p total due = grind (arith, same_where)

pub due_with_none : (p : Problem) → IsDueFrom None p 1
due_with_none p total has = grind (arith, same_where)

-- where all stages of a problem are held, it is those from d - k on, or all of them
pub due_with_held : (held p : Problem) (d first : ℕ) → IsFirstDifference held p d → d ≤ first + p.k
    → (1 < first → first + p.k ≤ d) → IsDueFrom (Some held) p first
due_with_held held p d first is low high total has = grind (arith, same_where)

-- ---- the bound

module _ (p : Problem) (w : ℕ) (odd : w ≡ 2 * p.k + 1) (laws : WindowLaws p w) where
  candidate_valid : (stage : ℕ) (next : List ℤ) → IsCandidate p stage next → IsWindow w next
  candidate_valid stage next (xs, can, (rank, may, e)) =
      subst (IsWindow w) (sym e) (valid_after p w odd laws xs stage rank (landable_valid p w odd laws stage xs can) may)

  few_candidates : (stage count : ℕ) → HasCandidates p stage count → count ≤ w ^ w
  few_candidates stage count has =
      let valid : AreWindows w has.candidates = λ i lt. candidate_valid stage (node_at has.candidates i)
      ((has.each (node_at has.candidates i)).0 (Contains-get_or has.candidates i [] lt)) in grind (arith, few_windows)

  few_if : (b : Bool) (stage count : ℕ) → HasCandidatesIf b p stage count → count ≤ w ^ w
  few_if true stage count has = few_candidates stage count has
  few_if false stage count e = omega (arith, e)

  where_low : (test : ℕ → Bool) (n total : ℕ) → HasCandidatesWhere test p n total → total ≤ n * w ^ w
  where_low test zero total e = omega (arith, e)
  where_low test (suc n) total (count, before, here, rest, e) = grind (arith, few_if, (where_low test n before rest))

  pub due_is_bounded : DueIsBounded p (w ^ w)
  due_is_bounded None total due = grind (arith, where_low)
  due_is_bounded (Some held) total (d, is, due) = grind (arith, where_low)
