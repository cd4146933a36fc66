-- No finding exactly where the block is clean.
use Rattle.std.proofs.Common.{◌≡◌, ◌≢◌, ℕ, suc, inl, inr, List, [], ◌∷◌, length, map, filter, cond, zero-le, arith}
use Rattle.std.proofs.Common.{refl, sym, ap, ap₂, subst, ◌∙◌}
use Rattle.std.specs.Prelude.{find, All, AllPairs, Some}
use Rattle.std.specs.List.{list_any}
use Rattle.std.proofs.lemmas.Bool.{cases_eq, eqb-true, eq-eqb}
use Rattle.std.proofs.lemmas.List.Sorted.{IsPermutation-sym}
use Rattle.landing_rules.specs.declared.objective.Objective.{Objective}
use Rattle.landing_rules.specs.Flights.{Active, Situation, Schedule, Landing, landing, landings}
use Rattle.landing_rules.specs.Rules.{cost, objective, ArePairSeparated, IsFeasible}
use Rattle.landing_rules.specs.Events.{named, in_landing_order}
use Rattle.landing_rules.specs.Text.{ShownLanding}
use Rattle.landing_rules.specs.Sound.{IsSound}
use Rattle.landing_rules.specs.shared.Counting.{Member}
use Rattle.landing_rules.specs.Audit.{Block, block_of, IsClean, Value, has_line, disordered}
use Rattle.landing_rules.specs.Audit.{by_rules, or_else, findings}
use Rattle.cps_theory.specs.RankLists.{In}
use Rattle.cps_theory.specs.laws.NumberedLists.{in_numbers, numbers_in, distinct_numbers}
use Rattle.landing_joint.specs.Numbered.{nobody, numbered, second_of, numbers_of}
use Rattle.landing_joint.specs.AuditLaws.{AuditLaw, ShownPlanIsCleanLaw}
use Rattle.landing_joint.proofs.Numbered.{landing_at, landings_are}
use Rattle.landing_joint.proofs.Joint.{callsigns_differ}
use Rattle.landing_joint.specs.shared.LandingsInOrder.{order_member, member_order, order_permutes}
use Rattle.landing_joint.proofs.AuditLists.{append_nil, nil_append, or_else_nil, broken_none, none_broken, Each}
use Rattle.landing_joint.proofs.AuditLists.{each_pair}
use Rattle.landing_joint.proofs.LandingOrder.{Strict, strict_equal, strict_order, filter_order, rules-moved, cost_order}
use Rattle.landing_joint.proofs.AuditRules.{rules_kept, kept_rules}
use Rattle.landing_joint.proofs.AuditLines.{block_landings, find_first, find_some, found_any, line_member, member_line}
use Rattle.landing_joint.proofs.AuditLines.{twice_none, none_twice, second_in, second_at, lines_strict, strict_lines}
use Rattle.landing_joint.proofs.AuditLines.{Found, lines_landings, lines_marks, landings_lines, each_map, each_lines}
use Rattle.landing_joint.proofs.AuditLines.{same_refl, same_true, one_nil}
use Rattle.landing_joint.specs.shared.Members.{member_number}
use Rattle.std.proofs.lemmas.List.{length-map}
use Rattle.landing_rules.specs.shared.Members.{in_map, map_in, all_at}

module _ (s : Situation) (sound : IsSound s) where
  module _ (t : Schedule) (long : length t ≡ length s.active) where
    of_number : (x : Landing) → Member x (landings s.active t) → (i : ℕ) × In i (numbers_of s.active)
        × (x ≡ landing_at s.active t i)
    of_number x m = in_map _ _ x (rw (landings_are _ t long) at m)

    number_of : (i : ℕ) → In i (numbers_of s.active) → Member (landing_at s.active t i) (landings s.active t)
    number_of i m = rw (landings_are _ t long) (map_in _ _ i m)

    finds : (x : Landing) → Member x (landings s.active t) → Found s x
    finds x m =
        let w = of_number x m in
        rw w.2 (
          numbered s.active w.0,
          find_first _ sound.callsigns w.0 (omega (arith, (in_numbers 0 _ w.0 w.1).1)),
          refl,
        )

    unique : (x y : Landing) → Member x (landings s.active t) → Member y (landings s.active t)
        → x.flight.callsign ≡ y.flight.callsign → x ≡ y
    unique x y mx my e = grind (arith, of_number, cases_eq, landing_at, callsigns_differ)

  -- the block of a feasible schedule is without a finding
  pub clean_none : (t : Schedule) → IsFeasible s t → findings s (block_of s t) ≡ []
  clean_none t f =
      let Ms = landings s.active t in
      let S = in_landing_order Ms in
      let lines = map _ S in
      let fs : (x : Landing) → Member x S → Found s x = λ x m. finds t f.0 x (order_member x Ms m) in
      let apart : (i j : ℕ) → In i (numbers_of s.active) → In j (numbers_of s.active) → i ≢ j
      → second_of t i ≢ second_of t j = λ i j mi mj ne e.
      let sep = all_at (ArePairSeparated s.aerodrome.table (landing_at s.active t i)) Ms
      (all_at (λ g. All (ArePairSeparated s.aerodrome.table g) Ms) Ms f.1.separated _
      (number_of t f.0 i mi)) _ (number_of t f.0 j mj) (callsigns_differ s sound i j mi mj ne) (omega arith) in
      omega arith in
      let strict = strict_order Ms (rw (landings_are _ t f.0) (each_map _ _ _ (distinct_numbers 0 _) apart)) in
      let missing0 = none_broken _ _ _ (λ a m.
      let w = member_number a _ m in
      ap (λ (z : Active). has_line lines z.flight.callsign) w.2 ∙ member_line _ _ (map_in _ S _
      (member_order _ Ms (number_of t f.0 w.0 (numbers_in 0 _ w.0 zero-le (omega (arith, w.1))))))) in
      let unknown0 = none_broken _ _ _ (λ l m. let w = in_map _ S l m in let x = fs w.0 w.1 in
      ap (λ (z : ShownLanding). list_any (named z.callsign) s.active) w.2 ∙ found_any _ s.active x.0 x.1) in
      let twice0 = none_twice [] lines (λ l m. refl)
      (each_lines S strict (λ x y i j e. unique t f.0 x y (order_member x Ms i) (order_member y Ms j) e)) in
      let is = lines_landings s S fs in
      let rules0 = ap (by_rules s) is ∙ kept_rules s S (rules-moved s Ms S (order_permutes Ms) (filter_order Ms) f.1) in
      let same = ap (cost s.aerodrome.objective) is ∙ cost_order _ Ms in
      let value0 =
      ap (λ c. cond c [] (Value (cost s.aerodrome.objective (block_landings s.active lines)) ∷ [])) (eq-eqb _ _ same) in
      ap₂ or_else (nil_append _ _ missing0 (nil_append _ _ unknown0 twice0)) (nil_append _ _ (strict_lines S strict)
      (search (arith, nil_append, lines_marks, same_refl)))

  -- ---- and back

  block_member : (ls : List ShownLanding) (x : Landing) → Member x (block_landings s.active ls)
      → (l : ShownLanding) × (a : Active) × Member l ls × (find (named l.callsign) s.active ≡ Some a)
      × (x ≡ landing a l.second)
  block_member [] x m = absurd m
  block_member (l ∷ ls) x m = grind (arith, block_landings, block_member ls x)

  member_block : (ls : List ShownLanding) (l : ShownLanding) (a : Active) → Member l ls
      → find (named l.callsign) s.active ≡ Some a → Member (landing a l.second) (block_landings s.active ls)
  member_block [] l a m q = absurd m
  member_block (k ∷ ls) l a m q = grind (arith, block_landings, member_block ls)

  landings_map : (F : Active → ℕ) (all : List Active) → landings all (map F all) ≡ map (λ a. landing a (F a)) all
  landings_map F [] = refl
  landings_map F (a ∷ all) = ap (λ l. landing a (F a) ∷ l) (landings_map F all)

  each_active : (F : Active → ℕ) (L : List Landing) → Strict L → (all : List Active)
      → AllPairs (λ a b. a.flight.callsign ≢ b.flight.callsign) all
      → ((a : Active) → Member a all → Member (landing a (F a)) L)
      → Each (λ f g. f.second ≢ g.second) (map (λ a. landing a (F a)) all)
  each_active F L strict [] h i = tt
  each_active F L strict (a ∷ all) h i = (
    λ y m q.
        let w = in_map _ all y m in
        let n = member_number w.0 all w.1 in
        let differ : a.flight.callsign ≢ w.0.flight.callsign = λ e. h 0 (suc n.0) nobody (omega arith) (omega arith)
        (cc) in
        let same = q ∙ ap (λ (z : Landing). z.second) w.2 in
        elim (each_pair _ L strict _ _
        (i a (inl refl)) (i w.0 (inr w.1))) [
          | inl e ↦ differ (ap (λ (z : Landing). z.flight.callsign) e)
          | inr o ↦ elim o [ inl lt ↦ omega arith | inr lt ↦ omega arith ]
        ],
    each_active F L strict all (λ k j d l m. h (suc k) (suc j) d (omega arith) (omega arith)) (λ b m. i b (inr m)),
  )

  abbrev made_block : Objective → ℕ → List ShownLanding → Block
  made_block o v lines = record { objective = o; plan = record { value = v; landings = lines } }

  -- a block without a finding is that of a feasible schedule
  pub none_clean : (b : Block) → findings s b ≡ [] → IsClean s b
  none_clean b e =
      let L = block_landings s.active b.plan.landings in
      let e0 = or_else_nil _ _ e in
      let n1 = append_nil _ _ e0.0 in
      let n2 = append_nil _ _ n1.1 in
      let r1 = append_nil _ _ e0.1 in
      let r2 = append_nil _ _ r1.1 in
      let r3 = append_nil _ _ r2.1 in
      let r4 = append_nil _ _ r3.1 in
      let has = broken_none _ _ _ n1.0 in
      let each = (twice_none [] b.plan.landings n2.1).1 in
      let is_lines = landings_lines s _ (broken_none _ _ _ n2.0) r2.0 in
      let strict = lines_strict L (ap disordered is_lines ∙ r1.0) in
      let F = λ (a : Active). second_in b.plan.landings a.flight.callsign in
      let t = map F _ in
      let Ms = landings s.active t in
      let ms_is = landings_map F _ in
      let known : (a : Active) → Member a s.active → Member (landing a (F a)) L = λ a m.
      let n = member_number a _ m in
      let w = line_member _ _ (has a m) in
      let first =
      ap (λ (z : Active). find (named z.flight.callsign) s.active) n.2 ∙ find_first _ sound.callsigns n.0 n.1
      ∙ ap Some (sym n.2) in
      let at = ap (second_in b.plan.landings) (sym w.2) ∙ second_at _ each w.0 w.1 in
      rw at (member_block _ w.0 a w.1 (cc)) in
      let forth : (x : Landing) → Member x L → Member x Ms = λ x m.
      let w = block_member _ x m in
      let k = find_some _ _ w.1 w.3 in
      let at = ap (second_in b.plan.landings) k.1 ∙ second_at _ each w.0 w.2 in
      rw ms_is (rw (ap (λ u. landing w.1 u) at ∙ sym w.4) at (map_in (λ a. landing a (F a)) s.active w.1 k.0)) in
      let back : (x : Landing) → Member x Ms → Member x L = λ x m.
      let w = in_map _ _ x (rw ms_is at m) in
      rw w.2 (known w.0 w.1) in
      let S = in_landing_order Ms in
      let strictS = strict_order Ms (subst (Each (λ f g. f.second ≢ g.second)) (sym ms_is)
      (each_active F L strict _ sound.callsigns known)) in
      let E = strict_equal L S strict strictS (λ x m. member_order x Ms (forth x m))
      (λ x m. back x (order_member x Ms m)) in
      let keeps = rules_kept s L (λ f m.
      let w = block_member _ f m in
      let n = member_number w.1 _ (find_some _ _ w.1 w.3).0 in
      rw w.4 (rw n.2 (sound.flights n.0 nobody n.1).windows.spans)) r3.0 in
      let feasible : IsFeasible s t = (
        length-map _ F,
        rules-moved s S Ms (IsPermutation-sym Ms S (order_permutes Ms))
            (IsPermutation-sym (filter _ Ms) (filter _ S) (filter_order Ms)) (rw E at keeps),
      ) in
      let word_is = same_true _ _ (one_nil _ _ r4.0) in
      let total = sym (eqb-true _ _ (one_nil _ _ r4.1)) ∙ ap (cost s.aerodrome.objective) E ∙ cost_order _ Ms in (
        t,
        feasible,
        ap₂ (λ (o : Objective) (v : ℕ). made_block o v b.plan.landings) word_is total
            ∙ ap (made_block _ (objective s t)) (sym is_lines ∙ ap (map _) E),
      )

pub audit_law : AuditLaw
audit_law s b sound = (none_clean s sound b, λ c. ap (findings s) c.2 ∙ clean_none s sound c.0 c.1)

pub shown_plan_is_clean : ShownPlanIsCleanLaw
shown_plan_is_clean state plan sound e = grind (arith, clean_none)
