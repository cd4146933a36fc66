use Rattle.std.proofs.Common.{List, sym, subst, arith}
use Rattle.std.specs.Prelude.{ℤ, true, vec_len, replicate}
use Rattle.cps_network.specs.Lists.{IsAscending, AreWindows}
use Rattle.cps_network.proofs.CompactLemmas.{all_as_they_were, kept_of_whole}
use Rattle.cps_network.proofs.KeptLemmas.{IsAscending-kept, AreWindows-kept}
use Rattle.cps_network.proofs.stage.Stage.compact.Goals as goal

pub returns-then-keeps_all-clause-kept : goal.returns-then-keeps_all-clause-kept
returns-then-keeps_all-clause-kept g c = (
  replicate (vec_len c.args.labels.now) true,
  c.keeps_all.ensures c.if-keeps_all.true,
  sym (all_as_they_were (vec_len c.args.labels.now) c.args.self.now.1 (omega (arith, c.requires.one_each))),
  sym (all_as_they_were (vec_len c.args.labels.now) c.args.labels.now.items (omega arith)),
)

-- what is left is kept where the answers say so
pub invariant_of-self : goal.invariant_of-self
invariant_of-self g c =
    let left = kept_of_whole _ c.self.inside.whole c.take-whole.result c.self.inside.left.items
    c.copy_into_room.new.left.items c.compact_all.new.windows.items c.compact_all.ensures.0 c.take-whole.ensures.value
    c.copy_into_room.ensures c.compact_all.ensures.2 in
    rw c.take-whole.ensures.after (
      subst (λ (zs : List (List ℤ)). IsAscending zs) (sym left) (IsAscending-kept _ _ c.self.invariant.0),
      subst (λ (zs : List (List ℤ)). AreWindows g.row.W zs) (sym left)
          (AreWindows-kept g.row.W _ _ c.self.invariant.1),
      tt,
      tt,
    )
