use Rattle.std.proofs.Common.{◌++◌, List, subst, ap, ap₂, ◌∙◌}
use Rattle.std.specs.List.Sorted.{IsPermutation}
use Rattle.cps_theory.specs.Labels.{Pair}
use Rattle.cps_theory.specs.UndominatedPairs.{sweep}
use Rattle.cert_writer.proofs.PairLemmas.{best_found, best_covers, best_rises, best_ranged}
use Rattle.cert_writer.proofs.pairs.NodePairs.best.Goals as goal

pub returns-clause-found : goal.returns-clause-found
returns-clause-found c =
    best_found c.args.self.now c.sort_unstable.new.self.items c.in_ok-best.best.items
    (subst (λ (l : List Pair). IsPermutation l c.sort_unstable.new.self.items)
    (c.in_ok-extend_from_slice.ensures.items
    ∙ ap₂ (λ (a b : List Pair). a ++ b) c.new-sorted.ensures.items (c.as_slice.ensures.value ∙ c.self.view_is))
    c.sort_unstable.ensures.permutation)
    c.sort_unstable.ensures.sorted (c.in_ok-best.ensures ∙ ap (sweep 4294967296) c.as_slice-2.ensures.value)

pub returns-clause-covers : goal.returns-clause-covers
returns-clause-covers c =
    best_covers c.args.self.now c.sort_unstable.new.self.items c.in_ok-best.best.items
    (subst (λ (l : List Pair). IsPermutation l c.sort_unstable.new.self.items)
    (c.in_ok-extend_from_slice.ensures.items
    ∙ ap₂ (λ (a b : List Pair). a ++ b) c.new-sorted.ensures.items (c.as_slice.ensures.value ∙ c.self.view_is))
    c.sort_unstable.ensures.permutation)
    c.sort_unstable.ensures.sorted (c.in_ok-best.ensures ∙ ap (sweep 4294967296) c.as_slice-2.ensures.value) c.requires

pub returns-clause-rising : goal.returns-clause-rising
returns-clause-rising c = best_rises c.extend_from_slice.new.self.items c.sort_unstable.new.self.items
    c.in_ok-best.best.items c.sort_unstable.ensures.permutation c.sort_unstable.ensures.sorted
    (c.in_ok-best.ensures ∙ ap (sweep 4294967296) c.as_slice-2.ensures.value)

pub returns-clause-in_range : goal.returns-clause-in_range
returns-clause-in_range c =
    best_ranged c.args.self.now c.sort_unstable.new.self.items c.in_ok-best.best.items
    (subst (λ (l : List Pair). IsPermutation l c.sort_unstable.new.self.items)
    (c.in_ok-extend_from_slice.ensures.items
    ∙ ap₂ (λ (a b : List Pair). a ++ b) c.new-sorted.ensures.items (c.as_slice.ensures.value ∙ c.self.view_is))
    c.sort_unstable.ensures.permutation)
    c.sort_unstable.ensures.sorted (c.in_ok-best.ensures ∙ ap (sweep 4294967296) c.as_slice-2.ensures.value) c.requires
