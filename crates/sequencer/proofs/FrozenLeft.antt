-- What the frozen flights leave to the waiting ones: the last landing of all, and the delay.
use Rattle.std.proofs.lemmas.Bool.{cases_Bool, ltb-false, le-ltb}
use Rattle.cps_base.specs.Limits.{dearest_landing}
use Rattle.landing_rules.specs.shared.Members.{cases_option}
use Rattle.std.proofs.Common.{◌≡◌, ℕ, ◌+◌, ◌-◌, ◌*◌, ◌<◌, ◌≤◌, cond, List, [], ◌∷◌, length, filter, Option, Some, None}
use Rattle.std.proofs.Common.{nat_lt, inl, inr, refl, sym, ap, ◌∙◌, arith}
use Rattle.std.specs.Prelude.{All, MatchOption, ⊤, IsTrue, sum_by, is_none}
use Rattle.std.proofs.Math.Nat.{mul-le-mul_right}
use Rattle.std.proofs.lemmas.List.Elements.{All-head, All-tail, All-cons, All-nil}
use Rattle.std.proofs.lemmas.List.Sums.{sum_by-cons}
use Rattle.wake_table.specs.declared.category.Category.{Category}
use Rattle.landing_rules.specs.declared.objective.Objective.{Objective}
use Rattle.landing_rules.specs.declared.objective.Objective.TheVariants.{Makespan, Delay}
use Rattle.landing_rules.specs.Flights.{Active, Landing, Situation, Span, landing, waiting, is_waiting}
use Rattle.landing_rules.specs.Rules.{last_second, is_open, delay}
use Rattle.landing_rules.specs.Events.{insert_landing, in_landing_order, frozen_landings}
use Rattle.landing_rules.specs.Problem.{last_of, frozen_cost}
use Rattle.landing_rules.specs.Sound.{IsSound, IsGoodFlight}
use Rattle.landing_rules.specs.shared.Counting.{Member}
use Rattle.landing_joint.specs.shared.LandingsInOrder.{order_rises}
use Rattle.landing_joint.specs.shared.OpenDays.{open_in_days}
use Rattle.sequencer.specs.Frozen.{frozen_of, later_at, latest, frozen_delay, delay_of, HasSmallDelay}
use Rattle.sequencer.proofs.Rising.{Climbs}

-- ---- the last landing

-- an earlier landing is not the last
behind : (c : Category) (u : ℕ) (g : Landing) (all : List Landing) → ((y : Landing) → Member y (g ∷ all) → u ≤ y.second)
    → later_at c (Some u) (last_of (g ∷ all)) ≡ last_of (g ∷ all)
behind c u g [] h = ap (λ b. cond b (Some (u, c)) (Some (g.second, g.flight.category)))
    (le-ltb g.second u (h g (inl refl)))
behind c u g (f ∷ rest) h = behind c u f rest (λ y m. h y (inr m))

last_behind : (g f : Landing) (all : List Landing) → last_of (g ∷ insert_landing f all) ≡ last_of (insert_landing f all)
last_behind g f [] = refl
last_behind g f (x ∷ rest) = elim (cases_Bool (nat_lt x.second f.second)) [ inl e ↦ rw e refl | inr e ↦ rw e refl ]

last_inserted : (f : Landing) (all : List Landing) → Climbs (λ g. g.second) all
    → last_of (insert_landing f all) ≡ later_at f.flight.category (Some f.second) (last_of all)
last_inserted f [] c = refl
last_inserted f (g ∷ []) c = elim (cases_Bool (nat_lt g.second f.second)) [ inl e ↦ rw e refl | inr e ↦ rw e refl ]
last_inserted f (g ∷ h ∷ rest) c = elim (cases_Bool (nat_lt g.second f.second)) [
  | inl e ↦ rw e (last_behind g f (h ∷ rest) ∙ last_inserted f (h ∷ rest) c.1)
  | inr e ↦
      let le = ltb-false g.second f.second e in
      rw e (sym (behind _ f.second h rest (λ y m. omega (arith, c.0 y m))))
]

pub last_is : (xs : List Active) → latest xs ≡ last_of (in_landing_order (frozen_of xs))
last_is [] = refl
last_is (x ∷ xs) = elim (cases_option x.frozen) [
  | inl none ↦ rw none (last_is xs)
  | inr t ↦ rw t.1 (ap (later_at _ (Some t.0)) (last_is xs) ∙ sym (last_inserted _ _ (order_rises (frozen_of xs))))
]

abbrev IsLow : ℕ → Option (ℕ × Category) → Type 0
IsLow h o = MatchOption o ⊤ (λ l. l.0 < h)

later_low : (h : ℕ) (c : Category) (t : ℕ) (o : Option (ℕ × Category)) → t < h → IsLow h o
    → IsLow h (later_at c (Some t) o)
later_low h c t None lt o = lt
later_low h c t (Some n) lt o = elim (cases_Bool (nat_lt n.0 t)) [ inl e ↦ rw e lt | inr e ↦ rw e o ]

latest_low : (h : ℕ) (xs : List Active) → All (λ (f : Landing). f.second < h) (frozen_of xs) → IsLow h (latest xs)
latest_low h [] all = tt
latest_low h (x ∷ xs) all = elim (cases_option x.frozen) [
  | inl none ↦ rw none (latest_low h xs (rw none at all))
  | inr t ↦
      let here = rw t.1 at all in
      rw t.1 (later_low h _ t.0 (latest xs) (All-head (λ (f : Landing). f.second < h) _ (frozen_of xs) here)
      (latest_low h xs (All-tail (λ (f : Landing). f.second < h) _ (frozen_of xs) here)))
]

pub last_low : (h : ℕ) (xs : List Active) → All (λ (f : Landing). f.second < h) (frozen_of xs)
    → MatchOption (last_of (in_landing_order (frozen_of xs))) ⊤ (λ l. l.0 < h)
last_low h xs all = rw (last_is xs) at (latest_low h xs all)

-- ---- the delay

pub delay_is : (xs : List Active) → sum_by delay_of xs ≡ sum_by delay (frozen_of xs)
delay_is [] = refl
delay_is (x ∷ xs) = elim (cases_option x.frozen) [
  | inl none ↦ sum_by-cons delay_of x xs ∙ rw none (omega (arith, delay_is xs))
  | inr t ↦
      let sum = rw t.1 at (sum_by-cons delay (landing x t.0) (frozen_of xs)) in
      sum_by-cons delay_of x xs ∙ rw t.1 (omega (arith, delay_is xs, sum))
]

abbrev IsOpenLanding : List Span → Landing → Type 0
IsOpenLanding closures f = IsTrue (is_open f.flight.windows closures f.second)

pub small_delays : (closures : List Span) (xs : List Active) → All (λ (a : Active). IsGoodFlight a.flight) xs
    → All (λ (f : Landing). IsTrue (is_open f.flight.windows closures f.second)) (frozen_of xs) → All HasSmallDelay xs
small_delays closures [] good shown = All-nil HasSmallDelay
small_delays closures (x ∷ xs) good shown =
    let here = All-head (λ (a : Active). IsGoodFlight a.flight) x xs good in
    let rest = small_delays closures xs (All-tail (λ (a : Active). IsGoodFlight a.flight) x xs good) in
    elim (cases_option x.frozen) [
      | inl none ↦ All-cons HasSmallDelay x xs (record { weight = here.weight.1; second = rw none tt })
          (rest (rw none at shown))
      | inr t ↦
          let first = rw t.1 at shown in
          All-cons HasSmallDelay x xs (record {
            weight = here.weight.1;
            second = rw t.1 (open_in_days x.flight.windows closures t.0 here.windows.spans
                (All-head (IsOpenLanding closures) _ (frozen_of xs) first));
          }) (rest (All-tail (IsOpenLanding closures) _ (frozen_of xs) first))
    ]

-- of one flight at most 100 times each second of the two days, and nothing where it waits
one_low : (a : Active) → HasSmallDelay a
    → delay_of a + dearest_landing * cond {A = ℕ} (is_waiting a) 1 0 ≤ dearest_landing
one_low a h = go a.frozen h.second
  where
    go : (o : Option ℕ) → MatchOption o ⊤ (λ t. t ≤ last_second)
        → frozen_delay a o + dearest_landing * cond {A = ℕ} (is_none o) 1 0 ≤ dearest_landing
    go None m = omega arith
    go (Some t) m =
        let d : ℕ = t - a.flight.eta in
        let x : a.flight.weight * d ≤ 100 * d = mul-le-mul_right d h.weight in
        let y : 100 * d ≤ dearest_landing = omega arith in
        omega arith

all_low : (xs : List Active) → All HasSmallDelay xs
    → sum_by delay_of xs + dearest_landing * length (filter is_waiting xs) ≤ dearest_landing * length xs
all_low [] h = omega arith
all_low (x ∷ xs) h =
    let one = one_low x (All-head HasSmallDelay x xs h) in
    let rest = all_low xs (All-tail HasSmallDelay x xs h) in
    let sum = sum_by-cons delay_of x xs in
    elim (cases_Bool (is_waiting x)) [
      | inl e ↦ rw e (omega (arith, rw e at one, rest, sum))
      | inr e ↦ rw e (omega (arith, rw e at one, rest, sum))
    ]

pub base_low : (s : Situation) → IsSound s
    → frozen_cost s.aerodrome.objective (frozen_landings s) + dearest_landing * length (waiting s)
    ≤ dearest_landing * length s.active
base_low s sound = go s.aerodrome.objective
  where
    small : All HasSmallDelay s.active
    small = small_delays s.closures s.active sound.flights sound.frozen_open

    go : (o : Objective) → frozen_cost o (frozen_landings s) + dearest_landing * length
        (waiting s) ≤ dearest_landing * length s.active
    go Makespan = omega (arith, all_low s.active small)
    go Delay = let a = all_low s.active small in omega (arith, delay_is s.active)
