-- Links, from the places of the groups that lead to each window.
use Rattle.std.proofs.Common.{◌≡◌, ℕ, ◌<◌, List, [], ◌∷◌, ◌++◌, length, length-append, inl, inr, refl, sym, ap, subst}
use Rattle.std.proofs.Common.{◌∙◌, arith}
use Rattle.std.specs.Prelude.{ℤ, slice_index}
use Rattle.std.proofs.Math.ListN.{get_or-append}
use Rattle.std.proofs.Math.Seq.{get_or-append_seam}
use Rattle.std.proofs.lemmas.Int.{ints}
use Rattle.precedence.specs.Pairs.{HasBit}
use Rattle.cps_nodes.specs.Leads.{Extends}
use Rattle.cps_nodes.specs.Windows.{IsWidth, shifted}
use Rattle.cps_network.specs.declared.groups.Group.{Group}
use Rattle.cps_network.specs.Extended.{AreRanges, HavePlaces, IsExtendable, front, group_at, offset_of}
use Rattle.cps_network.specs.Groups.{IsGroup}
use Rattle.cps_network.specs.Links.{AreLinks, range_at}
use Rattle.cps_network.specs.Lists.{AreWindows, node_at}
use Rattle.cps_network.proofs.ListLemmas.{last_or_before}

-- a window extends the front window of a group by one of the group's offsets
pub extends_by : (w j : ℕ) (before : List (List ℤ)) (group : Group) (next : List ℤ) → IsWidth w → j < w
    → AreWindows w before → IsExtendable w before group → HasBit group.offsets j
    → next ≡ shifted (node_at before group.from) (offset_of w j) → Extends (node_at before group.from) next
extends_by w j before group next wide bit valid is has e =
    let long : length (node_at before group.from) ≡ w = (valid group.from is.within).len in (
      offset_of w j,
      rw long (record { low = omega (arith, ints, wide); high = omega (arith, ints, wide, bit) }),
      is.accepted j has,
      e,
    )

-- one window more, with the place of a group that leads to it
pub places_on : (before : List (List ℤ)) (groups : List Group) (windows after : List (List ℤ)) (places now : List ℕ)
    (x : List ℤ) (place : ℕ) → place < length groups → Extends (front before groups place) x
    → after ≡ windows ++ x ∷ [] → now ≡ places ++ place ∷ []
    → HavePlaces before groups windows places → HavePlaces before groups after now
places_on before groups windows after places now x place few leads e f have = rw (e, f) (record {
  one_each = omega (arith, length-append windows (x ∷ []), length-append places (place ∷ []), have.one_each);
  within = λ i lt. elim (last_or_before i (length windows) (omega (arith, lt, length-append windows (x ∷ [])))) [
    | inl same ↦ subst (λ (m : ℕ). m < length groups) (sym (at_end i same)) few
    | inr before ↦ subst (λ (m : ℕ). m < length groups)
        (sym (get_or-append places (place ∷ []) 0 i (omega (arith, before, have.one_each)))) (have.within i before)
  ];
  leads = λ i lt. elim (last_or_before i (length windows) (omega (arith, lt, length-append windows (x ∷ [])))) [
    | inl same ↦ subst (Extends (front before groups (slice_index (places ++ place ∷ []) i)))
        (sym (ap (λ (m : ℕ). node_at (windows ++ x ∷ []) m) same ∙ get_or-append_seam windows x [] []))
        (subst (λ (m : ℕ). Extends (front before groups m) x) (sym (at_end i same)) leads)
    | inr earlier ↦ subst (Extends (front before groups (slice_index (places ++ place ∷ []) i)))
        (sym (get_or-append windows (x ∷ []) [] i earlier))
        (subst (λ (m : ℕ). Extends (front before groups m) (node_at windows i))
        (sym (get_or-append places (place ∷ []) 0 i (omega (arith, earlier, have.one_each))))
        (have.leads i earlier))
  ];
})
  where
    at_end : (i : ℕ) → i ≡ length windows → slice_index (places ++ place ∷ []) i ≡ place
    at_end i same = ap (λ (m : ℕ). slice_index (places ++ place ∷ []) m) (same ∙ sym have.one_each)
        ∙ get_or-append_seam places place [] 0

-- no window has no place
pub no_places : (before : List (List ℤ)) (groups : List Group) (windows : List (List ℤ)) (places : List ℕ)
    → windows ≡ [] → places ≡ [] → HavePlaces before groups windows places
no_places before groups windows places e f = rw (e, f) (record {
  one_each = refl;
  within = λ i lt. absurd (omega arith);
  leads = λ i lt. absurd (omega arith);
})

-- ranges of groups, and places among them, are links
pub are_links : (before : List (List ℤ)) (groups : List Group) (windows : List (List ℤ)) (places : List ℕ)
    (ranges : List (ℕ × ℕ)) → AreRanges before groups → HavePlaces before groups windows places
    → length ranges ≡ length groups
    → ((i : ℕ) → i < length groups → range_at ranges i ≡ (let g = group_at groups i in (g.from, g.to)))
    → AreLinks (record { origin = before; target = windows; ranges = ranges; places = places })
are_links before groups windows places ranges are have long each = record {
  one_each = have.one_each;
  groups = λ g lt.
      let few : g < length groups = omega (arith, lt, long) in
      subst (λ (r : ℕ × ℕ). IsGroup before r.0 r.1) (sym (each g few))
      (are g (record { from = 0; to = 0; order = 0; offsets = 0 }) few);
  within = λ i lt. omega (arith, have.within i lt, long);
  leads = λ i lt. subst (λ (r : ℕ × ℕ). Extends (node_at before r.0) (node_at windows i))
      (sym (each (slice_index places i) (have.within i lt))) (have.leads i lt);
}
