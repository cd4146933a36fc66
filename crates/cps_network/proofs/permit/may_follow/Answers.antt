use Rattle.std.proofs.Common.{◌≡◌, ℕ, arith, subst, w8, to_z, of_z}
use Rattle.std.specs.Prelude.{ℤ, pos, IsTrue, ◌↔◌}
use Rattle.std.proofs.lemmas.Int.{ints}
use Rattle.precedence.specs.Pairs.{HasBit, MustPrecede, AreInRange}
use Rattle.cps_nodes.specs.Windows.{Accepts, IsPlaced}
use Rattle.cps_nodes.specs.Laws.{offset_after}
use Rattle.cps_network.proofs.PermitLemmas.{all_three}
use Rattle.cps_network.proofs.permit.may_follow.Goals as goal

pub returns : goal.returns
returns g c =
    let at : to_z w8 (of_z w8 c.offset_of.result) ≡ offset_after c.args.stage c.args.rank =
    omega (arith, ints, c.offset_of.ensures, c.ranges.stage, c.requires.reach, c.offset_of.type_inv) in
    let accepts : IsTrue c.accepts-is_accepted.result ↔ Accepts c.args.window.now
    (offset_after c.args.stage c.args.rank) =
    subst (λ (o : ℤ). IsTrue c.accepts-is_accepted.result ↔ Accepts c.args.window.now o) at
    c.accepts-is_accepted.ensures.accepts in
    let range : AreInRange c.args.problem.now.pairs =
    subst AreInRange c.pairs.ensures c.all_before-follows_all.ensures.in_range in
    let all : IsTrue c.all_before-follows_all.result ↔ ((first : ℕ)
    → MustPrecede c.args.problem.now.pairs first c.args.rank → HasBit c.args.placed first) =
    rw (← c.pairs.ensures) c.all_before-follows_all.ensures.all in
    let placed : IsTrue c.all_before-follows_all.result ↔ ((first : ℕ)
    → MustPrecede c.args.problem.now.pairs first c.args.rank
    → IsPlaced c.args.window.now (pos c.args.stage) (pos first)) = (
      λ t first must. (c.requires.placed first (range first c.args.rank must).0).0 (all.0 t first must),
      λ after. all.1 (λ first must. (c.requires.placed first (range first c.args.rank must).0).1 (after first must)),
    ) in
    let three = all_three _ _ _ _ _ _ accepts c.is_in_time-in_time.ensures placed in (
      λ t. let each = three.0 t in record {
        from_one = c.requires.rank.0;
        to_count = c.requires.rank.1;
        early = c.requires.reach.0;
        late = each.1;
        accepted = each.0;
        after = each.2;
      },
      λ is. three.1 (is.accepted, is.late, is.after),
    )
