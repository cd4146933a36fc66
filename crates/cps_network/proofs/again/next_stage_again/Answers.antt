use Rattle.std.proofs.Common.{◌≡◌, ◌+◌, ◌*◌, ℕ, List, ap, sym, subst, ◌∙◌, refl}
use Rattle.std.specs.Prelude.{ℤ}
use Rattle.std.specs.Cmp.Rules.{signed_items}
use Rattle.std.proofs.lemmas.Slice.Eq.{slice_eq-Decides}
use Rattle.cps_network.specs.Again.{HaveSameNext}
use Rattle.cps_network.specs.Lists.{AreWindows, IsAscending}
use Rattle.cps_network.specs.Permits.{IsNextOf}
use Rattle.cps_network.proofs.LayerLemmas.{next_at, candidates}
use Rattle.cps_network.proofs.again.next_stage_again.Goals as goal

pub returns-then-eq : goal.returns-then-eq
returns-then-eq g c =
    let same : c.args.before.now.1 ≡ c.args.earlier.now.1 =
    sym c.windows.ensures.windows ∙ (slice_eq-Decides signed_items _ _ _ c.eq.ensures).0 c.if-eq.true
    ∙ c.windows-then-have_same_next.ensures.windows in
    let again : HaveSameNext c.args.held.now c.args.earlier.now.0 c.args.problem.now c.args.before.now.0 =
    subst (λ (a : ℕ). HaveSameNext c.args.held.now a c.args.problem.now c.args.before.now.0) c.number.ensures
    (subst (λ (b : ℕ). HaveSameNext c.args.held.now c.number.result c.args.problem.now b) c.number-2.ensures
    (c.have_same_next.ensures c.if-have_same_next.true)) in
    let held : IsNextOf c.args.held.now c.args.earlier.now.0 c.args.before.now.1 c.args.after.now.1 =
    next_at c.args.held.now _ _ _ _ _ _ c.requires.after refl (sym same) refl in
    let valid : AreWindows (2 * c.args.problem.now.k + 1) c.args.before.now.1 =
    subst (λ (w : ℕ). AreWindows w c.args.before.now.1) c.requires.width c.windows.ensures.valid in
    let shared : c.in_ok-next.next.1 ≡ c.args.after.now.1 = ap (λ v. v.1) c.in_ok-next.ensures in
    let next : IsNextOf c.args.problem.now c.args.before.now.0 c.args.before.now.1 c.in_ok-next.next.1 =
    next_at c.args.problem.now _ _ _ _ _ _ (again c.args.before.now.1 c.args.after.now.1 valid held) refl refl
    (sym shared) in
    record {
      number = ap (λ v. v.0) c.in_ok-next.ensures ∙ ap (λ (n : ℕ). n + 1) c.number-then-eq.ensures;
      ascending = subst (λ (ws : List (List ℤ)). IsAscending ws) (sym shared) c.windows-ascending.ensures.ascending;
      exact = next;
      candidates = candidates c.args.problem.now c.args.before.now c.in_ok-next.next next;
    }
