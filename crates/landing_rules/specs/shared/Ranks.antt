-- The order of arrivals, and the ranks of flights whose callsigns differ.
use Rattle.std.proofs.Common.{◌≡◌, ℕ, suc, ◌+◌, ◌-◌, ◌<◌, List, [], ◌∷◌, length, get_or, refl, sym, ◌∙◌, ap, ap₂, inl}
use Rattle.std.proofs.Common.{inr, arith, ◌⊎◌}
use Rattle.std.specs.Prelude.{Any, ◌≢◌}
use Rattle.std.specs.declared.cmp.Ordering.{Ordering}
use Rattle.std.specs.declared.cmp.Ordering.TheVariants.{Less, Equal, Greater}
use Rattle.std.specs.Ordering.{nat_cmp, is_eq, ordering_then}
use Rattle.std.specs.Cmp.{IsTotalOrder}
use Rattle.std.proofs.lemmas.Bool.{cases_order, lt-ltb}
use Rattle.std.proofs.lemmas.Cmp.{then_total, on_total, nat_cmp_total, nat_list_cmp_total}
use Rattle.std.proofs.lemmas.Map.Text.{is_eq-slice_cmp}
use Rattle.std.proofs.lemmas.Slice.Eq.{bytes_eq-Decides}
use Rattle.std.proofs.lemmas.List.Recursion.{is_count_by}
use Rattle.landing_rules.specs.Flights.{Callsign, Flight}
use Rattle.landing_rules.specs.Rules.{first_come_cmp, arrival_cmp, rank}
use Rattle.landing_rules.specs.Laws.{HaveOwnCallsigns, RankLaw}
use Rattle.landing_rules.specs.shared.Counting.{Member, before, before-lt, strict, onto, AreApart, cases, flipped}
use Rattle.landing_rules.specs.shared.Members.{member_at, member_contains}

pub first_come_total : IsTotalOrder first_come_cmp
first_come_total = then_total (on_total (λ (a : ℕ × Callsign). a.0) nat_cmp_total)
    (on_total (λ (a : ℕ × Callsign). a.1) nat_list_cmp_total)

pub arrival_total : IsTotalOrder arrival_cmp
arrival_total = on_total (λ (f : Flight). (f.eta, f.callsign)) first_come_total

pub first_equal : (r s : Ordering) → ordering_then r s ≡ Equal → r ≡ Equal
first_equal Less s e = cc
first_equal Equal s e = refl
first_equal Greater s e = cc

pub second_equal : (r s : Ordering) → ordering_then r s ≡ Equal → s ≡ Equal
second_equal Less s e = cc
second_equal Equal s e = e
second_equal Greater s e = cc

pub nat_equal : (a b : ℕ) → nat_cmp a b ≡ Equal → a ≡ b
nat_equal a b e = grind (arith, cases_order, lt-ltb, nat_cmp_total)

-- two arrivals that are level are one
pub first_come_level : (a b : ℕ × Callsign) → first_come_cmp a b ≡ Equal → a ≡ b
first_come_level a b e =
    let eta = nat_equal a.0 b.0 (first_equal _ _ e) in
    let same = second_equal _ _ e in
    let name : a.1 ≡ b.1 = (bytes_eq-Decides a.1 b.1).0 (sym (is_eq-slice_cmp a.1 b.1) ∙ ap is_eq same) in
    ap₂ (λ (x : ℕ) (y : Callsign). (x, y)) eta name

-- flights that are level have one callsign
pub level-callsign : (f g : Flight) → arrival_cmp f g ≡ Equal → f.callsign ≡ g.callsign
level-callsign f g e = ap (λ (a : ℕ × Callsign). a.1) (first_come_level (f.eta, f.callsign) _ e)

abbrev earlier : Flight → List Flight → ℕ
earlier = before arrival_cmp arrival_total

rank-is : (flights : List Flight) (f : Flight) → rank flights f ≡ 1 + earlier f flights
rank-is flights f = ap (λ n. 1 + n) (sym (is_count_by (earlier f) _ refl (λ _ _. refl) _))

Any-Member : {X : Type 0} (P : X → Type 0) (x : X) (xs : List X) → Member x xs → P x → Any P xs
Any-Member P x xs m p = let c = member_contains xs x m in (c.0, x, c.1, c.2, p)

apart : (flights : List Flight) → HaveOwnCallsigns flights → AreApart arrival_cmp arrival_total flights
apart [] h = tt
apart (x ∷ xs) h = (
  λ f m e. (let c = member_contains xs f m in let l = c.1 in h 0 (suc c.0) f (omega arith)
      (omega arith) (sym (level-callsign f x e) ∙ ap (λ (g : Flight). g.callsign) (sym c.2))),
  apart xs (λ i j d l n. h (suc i) (suc j) d (omega arith) (omega arith)),
)

ranks_differ : (flights : List Flight) (f g : Flight) → f.callsign ≢ g.callsign → Member f flights
    → Member g flights → earlier f flights ≡ earlier g flights → ⊥
ranks_differ flights f g n mf mg e = by (cases _)
  where
    by : (arrival_cmp f g ≡ Less) ⊎ ((arrival_cmp f g ≡ Equal) ⊎ (arrival_cmp f g ≡ Greater)) → ⊥
    by (inl l) = omega (arith, strict _ arrival_total f g _ l mf)
    by (inr (inl l)) = n (level-callsign f g l)
    by (inr (inr l)) = omega (arith, strict _ arrival_total g f _ (flipped _ arrival_total f g l) mg)

pub ranks_are_bijective : RankLaw
ranks_are_bijective flights own = record {
  in_range = λ k d l.
      let f = get_or flights k d in
      let below = before-lt arrival_cmp arrival_total f flights (member_at flights k d l) in
      rw (rank-is flights f) (omega arith, omega arith);
  one_to_one = λ i j d l n e.
      let il : i < length flights = omega arith in
      let f = get_or flights i d in
      let g = get_or flights j d in
      ranks_differ flights f g (own i j d l n) (member_at flights i d il) (member_at flights j d n) (let e' =
      sym (rank-is flights f) ∙ e ∙ rank-is flights g in omega arith);
  onto = λ r low high.
      let found = onto arrival_cmp arrival_total flights (apart flights own) (r - 1) (omega arith) in
      Any-Member (λ f. rank flights f ≡ r) found.0 flights found.1 (rank-is flights found.0 ∙ (omega arith));
}
