-- What is left of a stage and its lists where the windows without a pair are left out.
use Rattle.std.proofs.lemmas.Grind.{common_steps}
use Rattle.std.proofs.Common.{arith, ◌≡◌, ℕ, ◌<◌, List, [], ◌∷◌, length, map, Bool, true, false, inl, refl, ap, ◌∙◌}
use Rattle.std.specs.Prelude.{ℤ, ◌↔◌}
use Rattle.cps_theory.specs.Labels.{InPairs, Pair}
use Rattle.landing_rules.specs.Problem.{Problem}
use Rattle.cps_network.specs.Compacted.{kept_where}
use Rattle.cps_network.specs.Landable.{IsLandable, HasEachLandable}
use Rattle.cps_network.specs.Lists.{node_at}
use Rattle.cps_network.specs.shared.KeptPlaces.{one_each_left, each_left, landable_left}
use Rattle.cps_network.specs.Pairs.{ArePairsOf, AreCosts, HoldsCosts, list_at}
use Rattle.delay_labels.specs.Lists.{has_some, known_of}

-- ---- as the lists are stored

map_kept : {A B : Type 0} (f : A → B) (bs : List Bool) (xs : List A)
    → map f (kept_where bs xs) ≡ kept_where bs (map f xs)
map_kept f [] xs = refl
map_kept f (b ∷ bs) [] = refl
map_kept f (true ∷ bs) (x ∷ xs) = ap (λ (l : List _). f x ∷ l) (map_kept f bs xs)
map_kept f (false ∷ bs) (x ∷ xs) = map_kept f bs xs

map_twice : {A B C : Type 0} (f : A → B) (g : B → C) (xs : List A) → map (λ x. g (f x)) xs ≡ map g (map f xs)
map_twice f g [] = refl
map_twice f g (x ∷ xs) = ap (λ (l : List _). g (f x) ∷ l) (map_twice f g xs)

module _ {V : Type 0} (pairs_of : V → List Pair) (vs after : List V) (bs : List Bool) (lists : List (List Pair))
    (view : map pairs_of vs ≡ lists) (answers : bs ≡ map (λ v. has_some (pairs_of v)) vs) where
  -- those are kept whose list has a pair
  pub kept_are : bs ≡ map has_some lists
  kept_are = answers ∙ map_twice pairs_of has_some vs ∙ ap (map has_some) view

  pub lists_kept : after ≡ kept_where bs vs → map pairs_of after ≡ known_of lists lists
  lists_kept e = ap (map pairs_of) e ∙ map_kept pairs_of bs vs ∙ ap (kept_where bs) view
      ∙ ap (λ (k : List Bool). kept_where k lists) kept_are

-- ---- which lists have a pair

some_pair : (pairs : List Pair) → has_some pairs ≡ true → (q : Pair) × InPairs q pairs
some_pair [] e = absurd (cc)
some_pair (q ∷ qs) e = (q, inl refl)

pair_some : (pairs : List Pair) (q : Pair) → InPairs q pairs → has_some pairs ≡ true
pair_some pairs q i = grind (arith, common_steps)

-- ---- the landable windows are left

module _ (p : Problem) (stage : ℕ) (windows : List (List ℤ)) (lists : List (List Pair))
    (each : HasEachLandable p (stage, windows)) (are : AreCosts p (stage, windows) lists) where
  some_landable : (i : ℕ) → i < length windows → (has_some (list_at lists i) ≡ true)
      ↔ IsLandable p stage (node_at windows i)
  some_landable i lt =
      (grind (arith, some_pair), λ l. let o = (are.pairs i lt).covers l.0 l.1 in pair_some (list_at lists i) o.0 o.1)

  pub kept_costs : HoldsCosts p (stage, known_of lists windows) (known_of lists lists)
  kept_costs = record {
    landable = landable_left has_some [] windows lists are.one_each p stage each some_landable;
    costs = record {
      one_each = one_each_left has_some [] windows lists are.one_each;
      pairs = each_left has_some [] windows lists are.one_each
          (λ (xs : List ℤ) (qs : List Pair). ArePairsOf p stage xs qs) are.pairs;
    };
  }
