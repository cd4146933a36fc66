-- What spans in order and closures hold.
use Rattle.std.proofs.Common.{◌≡◌, ℕ, suc, zero, ◌+◌, ◌-◌, ◌<◌, ◌≤◌, max, List, [], ◌∷◌, ◌++◌, length, slice_index_or}
use Rattle.std.proofs.Common.{get_or, All, true, false, arith, add-one, ap, refl, sym, subst, ◌∙◌, inl, inr}
use Rattle.std.specs.Prelude.{◌||◌, nat_le}
use Rattle.std.specs.List.{AllAdjacentBelow}
use Rattle.std.proofs.Math.Bool.{or-false, and-false}
use Rattle.std.proofs.lemmas.Bool.{cases_Bool, cases_lt, both_ways, or_from, and_right, le-leb, lt-leb}
use Rattle.std.proofs.lemmas.Grind.{common_steps}
use Rattle.std.proofs.lemmas.List.Elements.{All-nil, All-cons, All-weaker}
use Rattle.landing_rules.specs.Flights.{Span}
use Rattle.landing_rules.specs.Rules.{last_second, is_within, is_open}
use Rattle.landing_rules.specs.Problem.{AreOpenSpans}
use Rattle.landing_windows.specs.Spans.{opens, shuts, is_runway_open, AreSpansFrom, AreInOrder, AreMaximal}
use Rattle.landing_windows.specs.Spans.{AreSecondsOf, IsLeastFrom, IsStopFrom, IsShutUntil, IsFirstShut}

pub within : (u : ℕ) (w : Span) → w.0 ≤ u → u ≤ w.1 → is_within u w ≡ true
within u w a b = grind (arith, common_steps)

pub not_before : (u : ℕ) (w : Span) → u < w.0 → is_within u w ≡ false
not_before u w a = grind (arith, common_steps)

pub not_after : (u : ℕ) (w : Span) → w.1 < u → is_within u w ≡ false
not_after u w a = and_right (nat_le w.0 u) (nat_le u w.1) (lt-leb u w.1 a)

pub is_within_last : (u : ℕ) (w : Span) → is_within u w ≡ true → u ≤ w.1
is_within_last u w e = grind (arith, common_steps)

-- spans that begin at `least` or later hold no second before
pub none_before : (gap least : ℕ) (ws : List Span) (u : ℕ) → AreSpansFrom gap least ws → u < least → opens ws u ≡ false
none_before gap least [] u a b = refl
none_before gap least (w ∷ ws) u a b =
    or_from _ _ (not_before u w (omega arith)) (none_before gap (w.1 + gap) ws u a.3 (omega arith))

-- spans in order hold no second before the first of them
pub none_before_first : (gap : ℕ) (w : Span) (ws : List Span) (u : ℕ) → AreSpansFrom gap 0 (w ∷ ws)
    → u < w.0 → opens (w ∷ ws) u ≡ false
none_before_first gap w ws u a b = none_before gap w.0 (w ∷ ws) u (omega arith, a.1, a.2, a.3) b

pub from_lower : (gap m n : ℕ) (ws : List Span) → AreSpansFrom gap m ws → n ≤ m → AreSpansFrom gap n ws
from_lower gap m n [] a b = tt
from_lower gap m n (w ∷ ws) a b = (omega arith, a.1, a.2, a.3)

pub closer : (gap least : ℕ) (ws : List Span) → AreSpansFrom (gap + 1) least ws → AreSpansFrom gap least ws
closer gap least [] a = tt
closer gap least (w ∷ ws) a =
    (a.0, a.1, a.2, from_lower gap (w.1 + (gap + 1)) (w.1 + gap) ws (closer gap (w.1 + (gap + 1)) ws a.3) (omega arith))

pub maximal_in_order : (ws : List Span) → AreMaximal ws → AreInOrder ws
maximal_in_order ws a = closer 1 0 ws a

-- no span holds a second past the two days
pub opens_in_days : (gap least : ℕ) (ws : List Span) (u : ℕ) → AreSpansFrom gap least ws → opens ws u ≡ true
    → u ≤ last_second
opens_in_days gap least [] u a e = absurd (cc e)
opens_in_days gap least (w ∷ ws) u a e = elim (cases_Bool (is_within u w)) [
  | inl here ↦ let below : u ≤ w.1 = is_within_last u w here in omega arith
  | inr not_here ↦ let there : opens ws u ≡ true = rw not_here at e in opens_in_days gap (w.1 + gap) ws u a.3 there
]

-- spans that end two seconds before `end` or earlier
abbrev pub EndBefore : ℕ → List Span → Type 0
EndBefore end [] = Unit {0}
EndBefore end (w ∷ ws) = (w.1 + 2 ≤ end) × EndBefore end ws

pub none_after : (end : ℕ) (ws : List Span) (u : ℕ) → EndBefore end ws → end ≤ u + 1 → opens ws u ≡ false
none_after end [] u a b = refl
none_after end (w ∷ ws) u a b = or_from _ _ (not_after u w (omega arith)) (none_after end ws u a.1 b)

pub end_later : (end later : ℕ) (ws : List Span) → EndBefore end ws → end ≤ later → EndBefore later ws
end_later end later [] a b = tt
end_later end later (w ∷ ws) a b = (omega arith, end_later end later ws a.1 b)

pub end_one_more : (end : ℕ) (ws : List Span) (w : Span) → EndBefore end ws → w.1 + 2 ≤ end
    → EndBefore end (ws ++ w ∷ [])
end_one_more end [] w a b = (b, tt)
end_one_more end (v ∷ ws) w a b = (a.0, end_one_more end ws w a.1 b)

pub maximal_one_more : (least end : ℕ) (ws : List Span) (w : Span) → AreSpansFrom 2 least ws → EndBefore end ws →
    least ≤ w.0 → end ≤ w.0 → w.0 ≤ w.1 → w.1 ≤ last_second → AreSpansFrom 2 least (ws ++ w ∷ [])
maximal_one_more least end [] w a b p q r s = (p, r, s, tt)
maximal_one_more least end (v ∷ ws) w a b p q r s =
    (a.0, a.1, a.2, maximal_one_more (v.1 + 2) end ws w a.3 b.1 (omega arith) q r s)

-- where the least span that ends at t or later begins, or t itself, is the least second held
pub least_within : (spans rest : List Span) (d : Span) (t s : ℕ) → ((u : ℕ) → t ≤ u → opens rest u ≡ opens spans u)
    → AreInOrder rest → 1 ≤ length rest →
    t ≤ (slice_index_or rest 0 d).1 → s ≡ max t (slice_index_or rest 0 d).0 → IsLeastFrom (opens spans) t s
least_within spans [] d t s same a n b e = absurd (omega arith)
least_within spans (w ∷ ws) d t s same a n b e =
    let after : t ≤ s = omega arith in
    let here : is_within s w ≡ true = within s w (omega arith) (omega arith) in
    let held : opens (w ∷ ws) s ≡ true = rw here refl in
    record {
      after = after;
      passes = sym (same s after) ∙ held;
      least = λ u from before. sym (same u from) ∙ none_before_first 1 w ws u a (omega arith);
    }

-- ---- open seconds

-- `new` are the longest spans of the seconds of `old` and of those from first to last
pub record IsOneMore (old : List Span) (first last : ℕ) (new : List Span) : Type 0 where
  pub maximal : AreMaximal new
  pub before : (end : ℕ) → first < end → last + 2 ≤ end → EndBefore end new
  pub same : (u : ℕ) → opens new u ≡ (opens old u || is_within u (first, last))

-- a run from an open second on holds that second
pub run_holds : (closures : List Span) (from most stop : ℕ) → shuts closures from ≡ false → from < most
    → IsFirstShut closures from most stop → from < stop
run_holds closures from most stop e h s = elim (cases_lt from stop) [
  | inl some ↦ some
  | inr none ↦ let after = s.after in let at : stop ≡ from =
      omega arith in absurd (both_ways (shuts closures from) e (rw at at (s.shut (omega arith))))
]

-- the spans hold exactly the open seconds before `from`, and each ends before it
pub record IsOpenUpTo (closures : List Span) (from : ℕ) (spans : List Span) : Type 0 where
  pub same : (u : ℕ) → u < from → opens spans u ≡ is_runway_open closures u
  pub maximal : AreMaximal spans
  pub before : EndBefore (from + 1) spans

pub shut_on : (closures spans : List Span) (from end : ℕ) → IsOpenUpTo closures from spans
    → IsShutUntil closures from end → IsOpenUpTo closures end spans
shut_on closures spans from end k shut = record {
  same = λ u below. elim (cases_lt u from) [
    | inl early ↦ k.same u early
    | inr late ↦ rw (none_after (from + 1) spans u k.before (omega arith), shut.shut u late below)
        (sym (and-false (nat_le u last_second)))
  ];
  maximal = k.maximal;
  before = let after = shut.after in end_later (from + 1) (end + 1) spans k.before (omega arith);
}

pub open_on : (closures spans new : List Span) (from stop : ℕ) → IsOpenUpTo closures from spans
    → IsFirstShut closures from (last_second + 1) stop → from < stop →
    IsOneMore spans from (stop - 1) new → IsOpenUpTo closures stop new
open_on closures spans new from stop k run some more = record {
  same = λ u below. more.same u ∙ elim (cases_lt u from) [
    | inl early ↦ rw (not_before u (from, stop - 1) early, k.same u early) (or-false (is_runway_open closures u))
    | inr late ↦
        let most = run.within in
        let day : nat_le u last_second ≡ true = le-leb u last_second (omega arith) in
        rw (
          none_after (from + 1) spans u k.before (omega arith),
          within u (from, stop - 1) late
              (omega arith),
          day,
          run.least u late below,
        ) refl
  ];
  maximal = more.maximal;
  before = more.before (stop + 1) (omega arith) (omega arith);
}

pub all_open : (closures spans : List Span) (from : ℕ) → IsOpenUpTo closures from spans → last_second < from
    → AreSecondsOf (is_runway_open closures) spans
all_open closures spans from k ended = record {
  maximal = k.maximal;
  same = λ u. elim (cases_lt u from) [
    | inl early ↦ k.same u early
    | inr late ↦
        let past : nat_le u last_second ≡ false = lt-leb u last_second (omega arith) in
        rw (none_after (from + 1) spans u k.before (omega arith), past) refl
  ];
}

-- ---- what the rules ask of spans

pub all_forward : (gap least : ℕ) (ws : List Span) → AreSpansFrom gap least ws
    → All (λ w. (w.0 ≤ w.1) × (w.1 ≤ last_second)) ws
all_forward gap least [] a = All-nil (λ w. (w.0 ≤ w.1) × (w.1 ≤ last_second))
all_forward gap least (w ∷ ws) a =
    All-cons (λ w. (w.0 ≤ w.1) × (w.1 ≤ last_second)) w ws (a.1, a.2) (all_forward gap (w.1 + gap) ws a.3)

adjacent : (gap least : ℕ) (ws : List Span) → AreSpansFrom gap least ws → (k : ℕ) (d : Span) → suc k < length ws →
    (slice_index_or ws k d).1 + gap ≤ (slice_index_or ws (suc k) d).0
adjacent gap least [] a k d h = absurd (omega arith)
adjacent gap least (v ∷ []) a k d h = absurd (omega arith)
adjacent gap least (v ∷ w ∷ ws) a zero d h = a.3.0
adjacent gap least (v ∷ w ∷ ws) a (suc k) d h = adjacent gap (v.1 + gap) (w ∷ ws) a.3 k d (omega arith)

pub next_apart : (gap least : ℕ) (ws : List Span) → AreSpansFrom gap least ws → (k : ℕ) (d : Span) → k + 1 < length ws →
    (slice_index_or ws k d).1 + gap ≤ (slice_index_or ws (k + 1) d).0
next_apart gap least ws a k d h = rw (add-one k) (adjacent gap least ws a k d (omega arith))

pub are_open_spans : (windows closures spans : List Span) → AreMaximal spans
    → ((t : ℕ) → opens spans t ≡ is_open windows closures t) →
    AreOpenSpans windows closures spans
are_open_spans windows closures spans a same = record {
  nonempty = All-weaker (λ w. (w.0 ≤ w.1) × (w.1 ≤ last_second)) (λ w. w.0 ≤ w.1) (λ w p. p.0) spans
      (all_forward 2 0 spans a);
  apart = λ k d h. let far = next_apart 2 0 spans a k d h in omega arith;
  same = same;
}

-- ---- equal open seconds, equal lists

pair_eq : (v w : Span) → v.0 ≡ w.0 → v.1 ≡ w.1 → v ≡ w
pair_eq v w a b = ap (λ x. (x, v.1)) a ∙ ap (λ y. (w.0, y)) b

holds_first : (w : Span) (ws : List Span) (u : ℕ) → w.0 ≤ u → u ≤ w.1 → opens (w ∷ ws) u ≡ true
holds_first w ws u a b = rw (within u w a b) refl

-- just after its first span a list of maximal spans holds no second
gap_after : (least : ℕ) (v : Span) (vs : List Span) → AreSpansFrom 2 least (v ∷ vs) → opens (v ∷ vs) (v.1 + 1) ≡ false
gap_after least v vs a = or_from _ _ (not_after (v.1 + 1) v (omega arith))
    (none_before 2 (v.1 + 2) vs (v.1 + 1) a.3 (omega arith))

-- the span that holds the least second ends just before one that none holds
pub stops_after : (spans rest : List Span) (d : Span) (t s : ℕ) → ((u : ℕ) → t ≤ u → opens rest u ≡ opens spans u)
    → AreMaximal rest → 1 ≤ length rest →
    t ≤ (slice_index_or rest 0 d).1 → s ≡ max t (slice_index_or rest 0 d).0
    → IsStopFrom (opens spans) s ((slice_index_or rest 0 d).1 + 1)
stops_after spans [] d t s same a n b e = absurd (omega arith)
stops_after spans (w ∷ ws) d t s same a n b e = record {
  after = (let runs = a.1 in omega arith);
  passes = λ u from before. sym (same u (omega arith)) ∙ holds_first w ws u (omega arith) (omega arith);
  ends = sym (same (w.1 + 1) (omega arith)) ∙ gap_after 0 w ws a;
}

-- spans from `least` on, each of a second at least, with a second in none of them between two
abbrev AreApart : ℕ → List Span → Type 0
AreApart least [] = Unit {0}
AreApart least (w ∷ ws) = (least ≤ w.0) × (w.0 ≤ w.1) × AreApart (w.1 + 2) ws

in_days_apart : (least : ℕ) (ws : List Span) → AreSpansFrom 2 least ws → AreApart least ws
in_days_apart least [] a = tt
in_days_apart least (w ∷ ws) a = (a.0, a.1, in_days_apart (w.1 + 2) ws a.3)

are_apart : (least : ℕ) (ws : List Span) → ((d : Span) → 1 ≤ length ws → least ≤ (get_or ws 0 d).0)
    → All (λ w. w.0 ≤ w.1) ws
    → AllAdjacentBelow (λ v w. v.1 + 1 < w.0) ws (length ws) → AreApart least ws
are_apart least [] first forward apart = tt
are_apart least (w ∷ ws) first forward apart = (
  first w (omega arith),
  forward 0 w (omega arith),
  are_apart (w.1 + 2) ws (λ d h. let far = apart 0 d (omega arith) in omega arith)
      (λ k d h. forward (suc k) d (omega arith)) next,
)
  where
    next : AllAdjacentBelow (λ v w. v.1 + 1 < w.0) ws (length ws)
    next k d h =
        let number : suc k + 1 ≡ suc (k + 1) = omega arith in
        subst (λ (n : ℕ). (get_or ws k d).1 + 1 < (get_or (w ∷ ws) n d).0) number (apart (suc k) d (omega arith))

-- they hold no second before
held_from : (least : ℕ) (ws : List Span) (t : ℕ) → AreApart least ws → opens ws t ≡ true → least ≤ t
held_from least [] t a e = absurd (cc e)
held_from least (w ∷ ws) t a e = elim (cases_Bool (is_within t w)) [
  | inl here ↦ let from : w.0 ≤ t = grind (arith, common_steps) in let low = a.0 in omega arith
  | inr past ↦
      let there : opens ws t ≡ true = rw past at e in
      let later = held_from (w.1 + 2) ws t a.2 there in
      let low = a.0 in
      let forward = a.1 in
      omega arith
]

module _ (least : ℕ) (v w : Span) (vs ws : List Span) (a : AreApart least (v ∷ vs)) (b : AreApart least (w ∷ ws))
    (same : (t : ℕ) → least ≤ t → opens (v ∷ vs) t ≡ opens (w ∷ ws) t) where
  -- the first span of the one list begins no later than that of the other
  begins : w.0 ≤ v.0
  begins =
      let forward = a.1 in
      let held : opens (w ∷ ws) v.0 ≡ true = sym (same v.0 a.0) ∙ holds_first v vs v.0 (omega arith) a.1 in
      held_from w.0 (w ∷ ws) v.0 (omega arith, b.1, b.2) held

  -- nor ends earlier
  ends : v.0 ≡ w.0 → v.1 ≤ w.1
  ends e = elim (cases_lt w.1 v.1) [
    | inl above ↦
        let low = b.0 in
        let forward = b.1 in
        let held : opens (w ∷ ws) (w.1 + 1) ≡ true = sym (same (w.1 + 1) (omega arith))
        ∙ holds_first v vs (w.1 + 1) (omega arith) (omega arith) in
        let there : opens ws (w.1 + 1) ≡ true = rw (not_after (w.1 + 1) w (omega arith)) at held in
        let later = held_from (w.1 + 2) ws (w.1 + 1) b.2 there in
        absurd (omega arith)
    | inr less ↦ less
  ]

  behind : v.1 ≡ w.1 → (t : ℕ) → v.1 + 2 ≤ t → opens vs t ≡ opens ws t
  behind e t from =
      let low = a.0 in
      let forward = a.1 in
      let both = same t (omega arith) in
      let rest : opens vs t ≡ opens ws t = rw (not_after t v (omega arith), not_after t w (omega arith)) at both in
      rest

same_lists : (least : ℕ) (vs ws : List Span) → AreApart least vs → AreApart least ws
    → ((t : ℕ) → least ≤ t → opens vs t ≡ opens ws t) → vs ≡ ws
same_lists least [] [] a b same = refl
same_lists least [] (w ∷ ws) a b same =
    absurd (let held : false ≡ true = same w.0 b.0 ∙ holds_first w ws w.0 (omega arith) b.1 in cc held)
same_lists least (v ∷ vs) [] a b same =
    absurd (let held : false ≡ true = sym (same v.0 a.0) ∙ holds_first v vs v.0 (omega arith) a.1 in cc held)
same_lists least (v ∷ vs) (w ∷ ws) a b same =
    let back = λ (t : ℕ) (from : least ≤ t). sym (same t from) in
    let low = begins least v w vs ws a b same in
    let high = begins least w v ws vs b a back in
    let first : v.0 ≡ w.0 = omega arith in
    let short = ends least v w vs ws a b same first in
    let long = ends least w v ws vs b a back (sym first) in
    let last : v.1 ≡ w.1 = omega arith in
    let rest = same_lists (v.1 + 2) vs ws a.2 (subst (λ (x : ℕ). AreApart (x + 2) ws) (sym last) b.2)
    (behind least v w vs ws a b same last) in
    rw (pair_eq v w first last, rest) refl

pub one_list : (least : ℕ) (xs ys : List Span) → AreSpansFrom 2 least xs → AreSpansFrom 2 least ys
    → ((t : ℕ) → least ≤ t → opens xs t ≡ opens ys t) → xs ≡ ys
one_list least xs ys a b same = same_lists least xs ys (in_days_apart least xs a) (in_days_apart least ys b) same

-- the longest spans of open seconds are fixed by those seconds
pub one_spans : (windows closures vs ws : List Span) → AreOpenSpans windows closures vs
    → AreOpenSpans windows closures ws → vs ≡ ws
one_spans windows closures vs ws a b =
    same_lists 0 vs ws (are_apart 0 vs (λ d some. omega arith) a.nonempty a.apart)
    (are_apart 0 ws (λ d some. omega arith) b.nonempty b.apart) (λ t from. a.same t ∙ sym (b.same t))
