-- What the windows of a flight keep.
use Rattle.std.proofs.Common.{◌≡◌, ℕ, ◌+◌, ◌≤◌, List, [], ◌∷◌, Option, Some, None, true, false}
use Rattle.std.proofs.Common.{length, Ok, arith, inl, inr}
use Rattle.std.specs.Prelude.{nat_lt}
use Rattle.std.proofs.lemmas.Bool.{cases_Bool, and_parts}
use Rattle.std.proofs.lemmas.Grind.{common_steps}
use Rattle.std.specs.List.{list_all}
use Rattle.cps_base.specs.Limits.{most_open_seconds, most_windows}
use Rattle.landing_rules.specs.Flights.{Span}
use Rattle.landing_rules.specs.Rules.{last_second}
use Rattle.landing_rules.specs.Sound.{AreGoodWindows}
use Rattle.landing_windows.specs.Spans.{AreSpansFrom, AreInOrder}
use Rattle.landing_windows.specs.Windows.{is_in_days, overlaps, bad_span, seconds_in, windows_of}
use Rattle.landing_windows.specs.declared.windows.WindowFault.TheVariants.{Backward, Overlap}
use Rattle.landing_windows.specs.Runs.{all_forward, next_apart}

-- the first second at which a span may begin after one that ended then
abbrev pub after_end : Option ℕ → ℕ
after_end None = 0
after_end (Some last) = last + 1

not_overlapping : (before : Option ℕ) (first : ℕ) → overlaps before first ≡ false → after_end before ≤ first
not_overlapping before first e = grind arith

pub in_order_of : (i : ℕ) (before : Option ℕ) (ss : List Span) → bad_span i before ss ≡ None
    → list_all is_in_days ss ≡ true → AreSpansFrom 1 (after_end before) ss
unfolding bad_span
in_order_of i before [] e days = tt
in_order_of i before (s ∷ ss) e days = elim (cases_Bool (nat_lt s.1 s.0)) [
  | inl backward ↦ let none : Some (Backward i) ≡ None = rw backward at e in absurd (cc none)
  | inr forward ↦ elim (cases_Bool (overlaps before s.0)) [
    | inl over ↦ let none : Some (Overlap i) ≡ None = rw (forward, over) at e in absurd (cc none)
    | inr apart ↦
        let rest : bad_span (i + 1) (Some s.1) ss ≡ None = rw (forward, apart) at e in
        let runs : s.0 ≤ s.1 = grind (arith, common_steps) in
        let here : is_in_days s ≡ true = (and_parts (is_in_days s) _ days).0 in
        let ends : s.1 ≤ last_second = grind (arith, common_steps) in (
          not_overlapping before s.0 apart,
          runs,
          ends,
          in_order_of (i + 1) (Some s.1) ss rest
              (and_parts (is_in_days s) _ days).1,
        )
  ]
]

-- what each of the tests says where it passes
pub record Passed (ws : List Span) : Type 0 where
  pub some : 1 ≤ length ws
  pub few : length ws ≤ most_windows
  pub in_order : bad_span 1 None ws ≡ None
  pub short : seconds_in ws ≤ most_open_seconds

pub passed : (ws : List Span) → windows_of ws ≡ Ok ws → Passed ws
unfolding windows_of
passed ws e = grind arith

pub in_order : (ws : List Span) → windows_of ws ≡ Ok ws → list_all is_in_days ws ≡ true → AreInOrder ws
in_order ws e days = in_order_of 1 None ws (passed ws e).in_order days

pub good : (ws : List Span) → windows_of ws ≡ Ok ws → list_all is_in_days ws ≡ true → AreGoodWindows ws
unfolding seconds_in
good ws e days =
    let p = passed ws e in
    record {
      count = (p.some, p.few);
      spans = all_forward 1 0 ws (in_order ws e days);
      apart = λ k d h. let next = next_apart 1 0 ws (in_order ws e days) k d h in omega arith;
      seconds = p.short;
    }
