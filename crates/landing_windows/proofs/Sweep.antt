-- What two lists of spans in order both hold, swept from the first second on.
use Rattle.std.proofs.Common.{rules, ◌≡◌, ℕ, ◌+◌, ◌<◌, ◌≤◌, min, max, List, [], ◌∷◌, ◌++◌, length, slice_index_or}
use Rattle.std.proofs.Common.{drop, Bool, false, arith, ◌∙◌}
use Rattle.std.specs.Prelude.{◌||◌, ◌&&◌, not, nat_le}
use Rattle.std.proofs.Math.Bool.{or-false}
use Rattle.std.proofs.Math.Nat.{max_comm, min_comm}
use Rattle.std.proofs.lemmas.Bool.{cases_lt, and_left, and_right}
use Rattle.std.proofs.lemmas.Grind.{common_steps}
use Rattle.std.proofs.lemmas.List.Folds.{list_any-append}
use Rattle.landing_rules.specs.Flights.{Span}
use Rattle.landing_rules.specs.Problem.{AreOpenSpans}
use Rattle.landing_rules.specs.Rules.{last_second, is_within}
use Rattle.landing_windows.specs.Spans.{opens, shuts, is_runway_open, AreSecondsOf, AreSpansFrom, AreInOrder}
use Rattle.landing_windows.specs.Spans.{AreMaximal}
use Rattle.landing_windows.specs.Runs.{not_after, none_before, EndBefore, IsOneMore, end_later, end_one_more}
use Rattle.landing_windows.specs.Runs.{maximal_one_more, from_lower, opens_in_days, are_open_spans}

-- ---- one more run

run_on : (u last : ℕ) (w : Span) (before : Bool) → w.0 ≤ w.1 → w.1 < last
    → (before || (is_within u (w.0, last) || false)) ≡ ((before || (is_within u w || false))
    || is_within u (w.1 + 1, last))
run_on u last w before forward some = grind (arith, common_steps)

-- a last span taken off
record IsLast (least : ℕ) (ys : List Span) (w : Span) : Type 0 where
  pub maximal : AreSpansFrom 2 least ys
  pub before : EndBefore w.0 ys
  pub after : least ≤ w.0
  pub forward : w.0 ≤ w.1

last_off : (least : ℕ) (ys : List Span) (w : Span) → AreSpansFrom 2 least (ys ++ w ∷ []) → IsLast least ys w
last_off least [] w a = omega arith
last_off least (v ∷ ys) w a = grind (arith, last_off (v.1 + 2) ys w a.3)

pub ends_before : (end : ℕ) (ys : List Span) (w : Span) → EndBefore end (ys ++ w ∷ []) → w.1 + 2 ≤ end
ends_before end [] w b = b.0
ends_before end (v ∷ ys) w b = ends_before end ys w b.1

-- all end two seconds before `end` where the last one does
pub end_sooner : (end : ℕ) (ys : List Span) (w : Span) → AreMaximal (ys ++ w ∷ []) → w.1 + 1 < end
    → EndBefore end (ys ++ w ∷ [])
end_sooner end ys w a h = grind (arith, last_off, end_one_more, end_later)

pub none_more : (xs : List Span) (first last : ℕ) → AreMaximal xs → EndBefore (first + 1) xs
    → last < first → IsOneMore xs first last xs
none_more xs first last a b none = search (rules, end_later)

pub apart_more : (xs : List Span) (first last : ℕ) → AreMaximal xs → EndBefore first xs → first ≤ last
    → last ≤ last_second →
    IsOneMore xs first last (xs ++ (first, last) ∷ [])
apart_more xs first last a b some days =
    grind (arith, maximal_one_more, end_one_more, end_later, list_any-append, or-false)

pub alone_more : (xs : List Span) (first last : ℕ) → (0 < length xs → ⊥) → first ≤ last → last ≤ last_second
    → IsOneMore xs first last (xs ++ (first, last) ∷ [])
alone_more xs first last none some days = grind (arith, common_steps)

pub joined_more : (ys : List Span) (w : Span) (last : ℕ) → AreMaximal (ys ++ w ∷ []) → w.1 < last → last ≤ last_second →
    IsOneMore (ys ++ w ∷ []) (w.1 + 1) last (ys ++ (w.0, last) ∷ [])
joined_more ys w last a some days =
    grind (arith, last_off, maximal_one_more, end_one_more, end_later, list_any-append, run_on)

-- ---- two lists

-- where the first span of a list begins
abbrev pub start : List Span → ℕ
start [] = last_second + 1
start (w ∷ ws) = w.0

-- the spans so far are what passes, but for what two lists have left, and end before both have more
pub record IsSwept (test : ℕ → Bool) (ws ss times : List Span) : Type 0 where
  pub same : (u : ℕ) → (opens times u || (opens ws u && opens ss u)) ≡ test u
  pub windows : AreInOrder ws
  pub open_spans : AreInOrder ss
  pub maximal : AreMaximal times
  pub before : EndBefore (max (start ws) (start ss) + 1) times

starts_after : (least : ℕ) (ws : List Span) → AreSpansFrom 1 least ws → least ≤ last_second + 1 → least ≤ start ws
starts_after least ws a h = grind arith

both_within : (u : ℕ) (w s : Span) → is_within u (max w.0 s.0, min w.1 s.1) ≡ (is_within u w && is_within u s)
both_within u w s = grind (arith, common_steps)

regroup : (t wi wr si sr : Bool) → (wi && sr) ≡ false
    → ((t || (wi && si)) || (wr && (si || sr))) ≡ (t || ((wi || wr) && (si || sr)))
regroup t wi wr si sr e = grind (arith, common_steps)

apart_lists : (u : ℕ) (w s : Span) (ss : List Span) → AreSpansFrom 1 (s.1 + 1) ss → w.1 ≤ s.1
    → (is_within u w && opens ss u) ≡ false
apart_lists u w s ss a h = grind (arith, cases_lt, and_left, not_after, and_right, none_before)

swapped : (test : ℕ → Bool) (ws ss times : List Span) → IsSwept test ws ss times → IsSwept test ss ws times
swapped test ws ss times k = grind arith

-- the span that ends first is done
pub one_done : (test : ℕ → Bool) (ws ss times new : List Span) (v d : Span) → IsSwept test ws ss times
    → 1 ≤ length ws → 1 ≤ length ss →
    IsOneMore times (max (slice_index_or ws 0 v).0 (slice_index_or ss 0 d).0)
    (min (slice_index_or ws 0 v).1 (slice_index_or ss 0 d).1) new →
    (slice_index_or ws 0 v).1 ≤ (slice_index_or ss 0 d).1 → IsSwept test (drop 1 ws) ss new
one_done test ws ss times new v d k n m more h =
    search (rules, starts_after, both_within, regroup, apart_lists, from_lower)

pub other_done : (test : ℕ → Bool) (ws ss times new : List Span) (v d : Span) → IsSwept test ws ss times
    → 1 ≤ length ws → 1 ≤ length ss →
    IsOneMore times (max (slice_index_or ws 0 v).0 (slice_index_or ss 0 d).0)
    (min (slice_index_or ws 0 v).1 (slice_index_or ss 0 d).1) new →
    (slice_index_or ss 0 d).1 ≤ (slice_index_or ws 0 v).1 → IsSwept test ws (drop 1 ss) new
other_done test ws ss times new v d k n m more h =
    swapped test (drop 1 ss) ws new (one_done test ss ws times new d v (swapped test ws ss times k) m n
    (rw (
      max_comm (slice_index_or ss 0 d).0 (slice_index_or ws 0 v).0,
      min_comm (slice_index_or ss 0 d).1
          (slice_index_or ws 0 v).1,
    ) more) h)

-- a window holds only seconds of the two days
in_days : (least : ℕ) (ws : List Span) (u : ℕ) (b : Bool) → AreSpansFrom 1 least ws
    → (opens ws u && (nat_le u last_second && b)) ≡ (opens ws u && b)
in_days least ws u b a = search (rules, opens_in_days)

pub flight_seconds : (windows closures runway times : List Span) → AreInOrder windows
    → AreSecondsOf (λ t. opens windows t && opens runway t) times →
    AreSecondsOf (is_runway_open closures) runway → AreOpenSpans windows closures times
flight_seconds windows closures runway times a both is = are_open_spans windows closures times both.maximal
    (λ t. both.same t ∙ rw (is.same t) (in_days 0 windows t (not (shuts closures t)) a))
