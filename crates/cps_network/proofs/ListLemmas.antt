-- Ascending lists of windows, and lists that grow by one.
use Rattle.std.proofs.Common.{◌≡◌, ℕ, ◌+◌, ◌<◌, List, [], ◌∷◌, ◌++◌, length, length-append, inl, inr, sym, ap, ap₂, ◌∙◌}
use Rattle.std.proofs.Common.{arith}
use Rattle.std.specs.Prelude.{ℤ, ◌⊎◌, ◌↔◌, Contains}
use Rattle.std.proofs.Math.ListN.{get_or-append}
use Rattle.std.proofs.Math.Seq.{get_or-append_seam}
use Rattle.std.proofs.lemmas.List.Elements.{Contains-append_left, Contains-get_or, Contains-push, Contains-push_cases}
use Rattle.std.proofs.lemmas.Bool.Decides.{nat_tests}
use Rattle.std.specs.declared.cmp.Ordering.TheVariants.{Less}
use Rattle.cps_nodes.specs.WindowOrder.{window_cmp}
use Rattle.cps_network.specs.Lists.{IsAscending, node_at}

pub last_or_before : (i n : ℕ) → i < n + 1 → (i ≡ n) ⊎ (i < n)
last_or_before i n h = grind (arith, nat_tests)

-- one window more at the end
pub Contains-pushed : (now after : List (List ℤ)) (y x : List ℤ) → after ≡ now ++ y ∷ []
    → Contains after x ↔ (Contains now x ⊎ (x ≡ y))
Contains-pushed now after y x e = rw e (
  λ has. elim (Contains-push_cases now y x has) [ inl old ↦ inl old | inr same ↦ inr (sym same) ],
  λ has. elim has [ inl old ↦ Contains-append_left now (y ∷ []) x old | inr same ↦ rw same (Contains-push now y) ],
)

-- a list grows by a window that none of it is above
pub ascends_on : (now after : List (List ℤ)) (y : List ℤ) → IsAscending now
    → ((x : List ℤ) → Contains now x → window_cmp x y ≡ Less) → after ≡ now ++ y ∷ [] → IsAscending after
ascends_on now after y up below e = rw e (λ i j lt within. elim (last_or_before j (length now)
    (omega (arith, within, length-append now (y ∷ [])))) [
      | inl same ↦
          ap₂ window_cmp (get_or-append now (y ∷ []) [] i (omega arith))
          (ap (λ (m : ℕ). node_at (now ++ y ∷ []) m) same ∙ get_or-append_seam now y [] [])
          ∙ below (node_at now i) (Contains-get_or now i [] (omega arith))
      | inr before ↦
          ap₂ window_cmp (get_or-append now (y ∷ []) [] i (omega arith)) (get_or-append now (y ∷ []) [] j before)
          ∙ up i j lt before
    ])
