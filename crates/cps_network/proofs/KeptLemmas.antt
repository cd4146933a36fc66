-- What is kept of an ascending list of windows is ascending.
use Rattle.std.proofs.Common.{rules, ◌≡◌, ℕ, List, [], ◌∷◌, arith, zero, suc}
use Rattle.std.proofs.lemmas.List.Elements.{Contains-get_or}
use Rattle.std.proofs.lemmas.List.{get_or_default}
use Rattle.std.specs.Prelude.{ℤ, Bool, true, false, Contains}
use Rattle.std.specs.declared.cmp.Ordering.TheVariants.{Less}
use Rattle.cps_nodes.specs.WindowOrder.{window_cmp}
use Rattle.cps_network.specs.Compacted.{kept_where}
use Rattle.cps_network.specs.Lists.{node_at, IsAscending, AreWindows}
use Rattle.cps_network.specs.shared.OneDue.{behind_first, tail_ascends}

contains_kept : (bs : List Bool) (xs : List (List ℤ)) (y : List ℤ) → Contains (kept_where bs xs) y → Contains xs y
contains_kept [] xs y (i, lt, at) = absurd (omega (arith, lt))
contains_kept (b ∷ bs) [] y (i, lt, at) = absurd (omega (arith, lt))
contains_kept (true ∷ bs) (x ∷ xs) y (zero, lt, at) = (zero, omega arith, at)
contains_kept (true ∷ bs) (x ∷ xs) y (suc i, lt, at) = let rest : Contains xs y =
    contains_kept bs xs y (i, omega (arith, lt), at) in (suc rest.0, omega (arith, rest.1), rest.2)
contains_kept (false ∷ bs) (x ∷ xs) y has = let rest : Contains xs y =
    contains_kept bs xs y has in (suc rest.0, omega (arith, rest.1), rest.2)

-- one more at the front
pub longer : (x : List ℤ) (ys : List (List ℤ)) → ((y : List ℤ) → Contains ys y → window_cmp x y ≡ Less)
    → IsAscending ys → IsAscending (x ∷ ys)
longer x ys below up zero zero lt within = absurd (omega arith)
longer x ys below up zero (suc j) lt within = search rules
longer x ys below up (suc i) zero lt within = absurd (omega arith)
longer x ys below up (suc i) (suc j) lt within = up i j (omega arith) (omega arith)

pub IsAscending-kept : (bs : List Bool) (xs : List (List ℤ)) → IsAscending xs → IsAscending (kept_where bs xs)
IsAscending-kept [] xs up = λ i j lt within. absurd (omega (arith, within))
IsAscending-kept (b ∷ bs) [] up = λ i j lt within. absurd (omega (arith, within))
IsAscending-kept (true ∷ bs) (x ∷ xs) up =
    longer x (kept_where bs xs) (λ y has. search (rules, behind_first, contains_kept))
    (IsAscending-kept bs xs (tail_ascends x xs up))
IsAscending-kept (false ∷ bs) (x ∷ xs) up = IsAscending-kept bs xs (tail_ascends x xs up)

pub AreWindows-kept : (width : ℕ) (bs : List Bool) (xs : List (List ℤ)) → AreWindows width xs
    → AreWindows width (kept_where bs xs)
AreWindows-kept width bs xs are i lt =
    let has : Contains xs (node_at (kept_where bs xs) i) =
    contains_kept bs xs (node_at (kept_where bs xs) i) (Contains-get_or (kept_where bs xs) i [] lt) in
    grind (arith, get_or_default)
