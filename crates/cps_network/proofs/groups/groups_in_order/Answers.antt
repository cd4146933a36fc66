use Rattle.std.proofs.Common.{rules, ◌≡◌}
use Rattle.std.proofs.lemmas.Fn.{always_returns_same}
use Rattle.std.proofs.lemmas.List.Sorted.{IsNonDecreasingBy-from_sort_by_key}
use Rattle.cps_network.proofs.GroupLists.{AreGroupsOf-permutation}
use Rattle.cps_network.proofs.GroupOrder.{in_next_order, order_of}
use Rattle.cps_network.proofs.groups.groups_in_order.Goals as goal

pub returns-clause-groups : goal.returns-clause-groups
returns-clause-groups g c =
    AreGroupsOf-permutation _ _ _ _ _ c.sort_by_key.ensures.permutation c.in_ok-groups.ensures.groups

pub returns-clause-order : goal.returns-clause-order
returns-clause-order g c =
    in_next_order c.args.problem.now c.args.stage g.row.W c.args.before.now c.requires.valid c.requires.ascending _ _
    c.in_ok-groups.ensures.rising c.sort_by_key.ensures.permutation
    (AreGroupsOf-permutation _ _ _ _ _ c.sort_by_key.ensures.permutation c.in_ok-groups.ensures.groups)
    (IsNonDecreasingBy-from_sort_by_key order_of _ c.in_ok-sort_by_key.ensures.sorted (λ a r q k. search rules))
    (c.sort_by_key.ensures.stable order_of (always_returns_same _ (λ a r. r ≡ order_of a.0.now) _
    (λ a r q k. search rules)))
