-- What it says of every category that nothing is found among the pairs, or among the triples, of all of them.
use Rattle.std.proofs.Common.{Ok, option_map, ◌≡◌, ℕ, ◌+◌, ◌≤◌, List, map, Option, None, Bool, false, find, arith}
use Rattle.std.specs.Option.{option_or}
use Rattle.std.specs.List.{flat_map}
use Rattle.std.proofs.lemmas.List.Folds.{find-append}
use Rattle.std.proofs.lemmas.Grind.{common_steps}
use Rattle.wake_table.specs.declared.category.Category.{Category}
use Rattle.wake_table.specs.declared.table.TableFault.{TableFault}
use Rattle.wake_table.specs.Letters.{letters}
use Rattle.wake_table.specs.Table.{separation, pairs_from, pairs, triples_from, triples, is_out_of_range}
use Rattle.wake_table.specs.Table.{breaks_triangle, range_fault, triangle_fault, first_fault, ok_without, table_of}

both_none : {X : Type 0} (x y : Option X) → option_or x y ≡ None → (x ≡ None) × (y ≡ None)
both_none x y e = grind arith

both_unmapped : {X Y Z : Type 0} (f : X → Z) (g : Y → Z) (x : Option X) (y : Option Y)
    → option_or (option_map f x) (option_map g y) ≡ None → (x ≡ None) × (y ≡ None)
both_unmapped f g x y e = grind arith

fault_none : (rows : List (List ℕ)) (fault : Option TableFault) → ok_without fault rows ≡ Ok rows → fault ≡ None
fault_none rows fault e = grind arith

-- where nothing is found in the lists of all categories, one behind the other, nothing is found in any of them
in_list : {X : Type 0} (p : X → Bool) (f : Category → List X) (c : Category) → find p (flat_map f letters) ≡ None
    → find p (f c) ≡ None
in_list p f c e = grind (arith, find-append, both_none)

in_item : {X : Type 0} (p : X → Bool) (f : Category → X) (c : Category) → find p (map f letters) ≡ None
    → p (f c) ≡ false
in_item p f c e = grind arith

no_fault : (rows : List (List ℕ)) → table_of rows ≡ Ok rows →
    (find (is_out_of_range rows) (pairs letters) ≡ None) × (find (breaks_triangle rows) (triples letters) ≡ None)
unfolding first_fault
no_fault rows e = both_unmapped range_fault triangle_fault _ _ (fault_none rows _ e)

pub table_range : (rows : List (List ℕ)) (a b : Category) → table_of rows ≡ Ok rows
    → (1 ≤ separation rows a b) × (separation rows a b ≤ 600)
table_range rows a b e =
    let of_leader = in_list (is_out_of_range rows) (pairs_from letters) a (no_fault rows e).0 in
    grind (arith, common_steps, in_item (is_out_of_range rows) (λ f. (a, f)) b of_leader)

pub table_triangle : (rows : List (List ℕ)) (a b c : Category) → table_of rows ≡ Ok rows
    → separation rows a c ≤ separation rows a b + separation rows b c
table_triangle rows a b c e =
    let breaks = breaks_triangle rows in
    let from = triples_from letters in
    let of_first = in_list breaks (λ first. flat_map from (pairs_from letters first)) a (no_fault rows e).1 in
    let of_pair = in_list breaks (λ middle. from (a, middle)) b of_first in
    grind (arith, common_steps, in_item breaks (λ last. (a, b, last)) c of_pair)
