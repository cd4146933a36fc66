-- Every rule that a plan block breaks in a situation, in a fixed order.
use Rattle.std.specs.Prelude.{◌≡◌, ℕ, ◌+◌, ◌==◌, ◌&&◌, ◌||◌, Bool, true, false, not, if◌then◌else◌, List, [], ◌∷◌}
use Rattle.std.specs.Prelude.{◌++◌, nat_lt, nat_le, filter, filter_map, map, find, option_map, unwrap_or, flat_map}
use Rattle.std.specs.Str.{bytes_eq}
use Rattle.std.specs.List.{list_any}
use Rattle.landing_rules.specs.declared.objective.Objective.{Objective}
use Rattle.landing_rules.specs.declared.objective.Objective.TheVariants.{Makespan, Delay}
use Rattle.landing_rules.specs.Flights.{Callsign, Active, Situation, Schedule, Landing, landing, is_waiting, horizon}
use Rattle.landing_rules.specs.Rules.{is_open, waits, rank_among, place, cost, IsFeasible}
use Rattle.landing_rules.specs.Events.{named}
use Rattle.landing_rules.specs.Testing.{is_pair_separated, is_shift_kept}
use Rattle.landing_rules.specs.Text.{ShownLanding, ShownPlan, shown_plan}

-- ---- blocks

-- a plan block: the objective's word, the number behind it, and the landing lines
pub record Block : Type 0 where
  pub objective : Objective
  pub plan : ShownPlan

-- the block of a schedule
abbrev pub block_of : Situation → Schedule → Block
block_of s t = record { objective = s.aerodrome.objective; plan = shown_plan s t }

-- a block is clean if it is that of a feasible schedule
abbrev pub IsClean : Situation → Block → Type 0
IsClean s b = (t : Schedule) × IsFeasible s t × (b ≡ block_of s t)

-- ---- findings

pub data Finding : Type 0 where
  Missing Unknown Twice : Callsign → Finding
  Order : ℕ → Finding
  Mark : Callsign → Finding
  Closed : Callsign → ℕ → Finding
  Separation Precedence : Callsign → Callsign → Finding
  Moved : Callsign → ℕ → Finding
  Early : Callsign → Finding
  Shift : Callsign → ℕ → ℕ → Finding
  OtherObjective : Finding
  Value : ℕ → Finding

-- a finding for each element that fails the test, in their order
abbrev pub for_failing : {X : Type 0} → (X → Bool) → (X → Finding) → List X → List Finding
for_failing passes finding [] = []
for_failing passes finding (x ∷ rest) =
    if passes x then for_failing passes finding rest else finding x ∷ for_failing passes finding rest

-- a finding for each pair that fails the test, the first above the second, by the first and then by the second
abbrev pub for_failing_pairs : {X : Type 0} → (X → X → Bool) → (X → X → Finding) → List X → List Finding
for_failing_pairs pass finding [] = []
for_failing_pairs pass finding (x ∷ rest) = for_failing (pass x) (finding x) rest ++ for_failing_pairs pass finding rest

-- ---- the names: each active flight has a line, each line names one, and none stands twice

abbrev pub has_line : List ShownLanding → Callsign → Bool
has_line lines c = list_any (λ l. bytes_eq l.callsign c) lines

-- each active flight without a line, in order of arrival
abbrev pub missing : List Active → List ShownLanding → List Finding
missing active lines = for_failing (λ a. has_line lines a.flight.callsign)
    (λ (a : Active). Missing a.flight.callsign) active

-- each line that names no active flight
abbrev pub unknown : List Active → List ShownLanding → List Finding
unknown active lines = for_failing (λ l. list_any (named l.callsign) active)
    (λ (l : ShownLanding). Unknown l.callsign) lines

-- each line whose callsign an earlier line has, where those seen stand above
abbrev pub twice_after : List ShownLanding → List ShownLanding → List Finding
twice_after seen [] = []
twice_after seen (l ∷ rest) =
    if has_line seen l.callsign then Twice l.callsign ∷ twice_after (l ∷ seen) rest else twice_after (l ∷ seen) rest

abbrev pub twice : List ShownLanding → List Finding
twice lines = twice_after [] lines

abbrev pub by_name : List Active → List ShownLanding → List Finding
by_name active lines = missing active lines ++ (unknown active lines ++ twice lines)

-- ---- the lines: their order and their marks

-- line i and each after it whose second is not above that of the line before, which is t for line i
abbrev pub disordered_from : ℕ → ℕ → List ShownLanding → List Finding
disordered_from i t [] = []
disordered_from i t (l ∷ rest) =
    if nat_lt t l.second then disordered_from (i + 1) l.second rest else Order i ∷ disordered_from (i + 1) l.second rest

abbrev pub disordered : List ShownLanding → List Finding
disordered [] = []
disordered (l ∷ rest) = disordered_from 2 l.second rest

-- each line with its flight; once the names are right every line has one
abbrev pub lines_found : List Active → List ShownLanding → List (ShownLanding × Active)
lines_found active lines = filter_map (λ l. option_map (λ a. (l, a)) (find (named l.callsign) active)) lines

-- the last word is the flight's state
abbrev pub is_marked : ShownLanding × Active → Bool
is_marked x = if x.0.frozen then not (is_waiting x.1) else is_waiting x.1

abbrev pub mismarked : List (ShownLanding × Active) → List Finding
mismarked found = for_failing is_marked (λ (x : ShownLanding × Active). Mark x.0.callsign) found

-- ---- the rules over the landings of the lines, in the order of the block

abbrev pub landing_of : ShownLanding × Active → Landing
landing_of x = landing x.1 x.0.second

-- each landing at a second that is not open
abbrev pub closed : Situation → List Landing → List Finding
closed s all = for_failing (λ f. is_open f.flight.windows s.closures f.second)
    (λ (f : Landing). Closed f.flight.callsign f.second) all

-- two landings are the table's time apart, whichever is the earlier
abbrev pub are_apart : List (List ℕ) → Landing → Landing → Bool
are_apart table f g = is_pair_separated table f g && is_pair_separated table g f

-- each two lines, neighbours or not, that are not the table's time apart
abbrev pub unseparated : List (List ℕ) → List Landing → List Finding
unseparated table all = for_failing_pairs (are_apart table)
    (λ (f g : Landing). Separation f.flight.callsign g.flight.callsign) all

-- a landing is before d, or is not the one named c
abbrev pub is_before : Landing → Callsign → Landing → Bool
is_before d c f = not (bytes_eq f.flight.callsign c) || nat_lt f.second d.second

-- the flight c, which d lists, where it is active and does not land before d
abbrev pub listed_late : List Landing → Landing → Callsign → List Finding
listed_late all d c = for_failing (is_before d c) (λ (f : Landing). Precedence c d.flight.callsign) all

-- line by line, each active flight of the line's list that does not land before it, in the order of the list
abbrev pub late : List Landing → List Finding
late all = flat_map (λ (d : Landing). flat_map (listed_late all d) d.flight.after) all

-- a frozen flight lands at its second
abbrev pub is_kept : Landing → Bool
is_kept f = waits f || (f.second == unwrap_or f.frozen 0)

-- each frozen flight that is not at its second
abbrev pub moved : List Landing → List Finding
moved all = for_failing is_kept (λ (f : Landing). Moved f.flight.callsign (unwrap_or f.frozen 0)) all

-- a waiting flight lands at the horizon or later
abbrev pub is_late_enough : ℕ → Landing → Bool
is_late_enough h f = not (waits f) || nat_le h f.second

-- each waiting flight before the horizon
abbrev pub early : ℕ → List Landing → List Finding
early h all = for_failing (is_late_enough h) (λ (f : Landing). Early f.flight.callsign) all

-- each waiting flight too far from its rank, with its place and its rank
abbrev pub shifted : ℕ → List Landing → List Finding
shifted k waiting = for_failing (is_shift_kept k waiting)
    (λ (f : Landing). Shift f.flight.callsign (place waiting f) (rank_among waiting f)) waiting

abbrev pub by_rules : Situation → List Landing → List Finding
by_rules s all =
    closed s all ++ (unseparated s.aerodrome.table all ++ (late all ++ (moved all ++
    (early (horizon s) all ++ shifted s.aerodrome.k (filter waits all)))))

-- ---- the head of the block

abbrev pub is_objective : Objective → Objective → Bool
is_objective Makespan Makespan = true
is_objective Makespan Delay = false
is_objective Delay Makespan = false
is_objective Delay Delay = true

abbrev pub other_objective : Objective → Objective → List Finding
other_objective said meant = if is_objective said meant then [] else OtherObjective ∷ []

abbrev pub other_value : ℕ → ℕ → List Finding
other_value said value = if value == said then [] else Value value ∷ []

-- ---- all findings

abbrev pub by_head : Situation → Block → List Landing → List Finding
by_head s b all =
    other_objective b.objective s.aerodrome.objective ++ other_value b.plan.value (cost s.aerodrome.objective all)

-- once each line has its flight
abbrev pub by_line : Situation → Block → List Finding
by_line s b =
    let found = lines_found s.active b.plan.landings in
    disordered b.plan.landings
    ++ (mismarked found ++ (by_rules s (map landing_of found) ++ by_head s b (map landing_of found)))

-- the first findings, or the others where there are none
abbrev pub or_else : List Finding → List Finding → List Finding
or_else [] others = others
or_else (x ∷ rest) others = x ∷ rest

-- the lines and the rules are tested only where the names are right
abbrev pub findings : Situation → Block → List Finding
findings s b = or_else (by_name s.active b.plan.landings) (by_line s b)
