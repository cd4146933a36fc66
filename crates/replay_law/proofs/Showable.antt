-- A sound situation and its plan can be told from what is printed: callsigns are names and differ, and the numbers are
-- small.
use Rattle.std.proofs.Common.{◌≡◌, ◌≢◌, ℕ, ◌<◌, List, [], ◌∷◌, true, false, Option, Some, None, refl, arith}
use Rattle.std.specs.Prelude.{option_map, All, AllPairs, bytes_eq}
use Rattle.std.specs.List.{list_all}
use Rattle.std.proofs.lemmas.Bool.{and_parts, false_from_ne_true}
use Rattle.std.proofs.lemmas.Grind.{common_steps}
use Rattle.std.proofs.lemmas.List.Elements.{All-head, All-tail}
use Rattle.std.proofs.lemmas.Slice.Eq.{bytes_eq-Decides}
use Rattle.cps_base.specs.Text.{is_callsign_byte, is_callsign}
use Rattle.landing_rules.specs.Flights.{Callsign, Active, Situation, Schedule}
use Rattle.landing_rules.specs.Events.{IsPlanShown}
use Rattle.landing_rules.specs.Sound.{IsSound}
use Rattle.landing_rules.specs.Text.{ShownLanding, shown_plan, IsName, AreNamed, IsShowable, BlockLaw}
use Rattle.landing_joint.specs.shared.Pairs.{pairs_head, pairs_tail}
use Rattle.plan_file.specs.Printed.{AreReadable, ShownPlanIsReadableLaw}
use Rattle.replay_law.proofs.PlanTells.{NotNamed, AreNamedApart}

-- ---- callsigns are names

byte_high : (b : ℕ) → is_callsign_byte b ≡ true → 32 < b
byte_high b e = grind (arith, common_steps)

bytes_name : (c : Callsign) → list_all is_callsign_byte c ≡ true → IsName c
bytes_name [] h = tt
bytes_name (b ∷ c) h = (byte_high b ((and_parts _ _ h).0), bytes_name c ((and_parts _ _ h).1))

callsign_name : (c : Callsign) → is_callsign c ≡ true → IsName c
callsign_name c h = grind (arith, bytes_name, and_parts)

-- ---- what is shown of a sound state

-- a block tells the plan that it shows, and a sound state shows callsigns and numbers in their ranges
abbrev pub ShownLaws : Type 0
ShownLaws = BlockLaw × ShownPlanIsReadableLaw

named : (fs : List ShownLanding) → AreReadable fs → AreNamed fs
named [] h = tt
named (f ∷ fs) h = ((callsign_name f.callsign h.0, omega (arith, h.1)), named fs h.2)

pub plan_showable : ShownPlanIsReadableLaw → (s : Situation) (p : Option Schedule) → IsSound s
    → IsPlanShown s p → IsShowable (option_map (shown_plan s) p)
plan_showable law s None h k = tt
plan_showable law s (Some t) h k =
    let r = law (record { situation = s; plan = Some t }) (shown_plan s t) (record { situation = h; shown = k }) refl in
    (omega (arith, r.value), named (shown_plan s t).landings r.landings)

-- ---- callsigns differ

differs : (a b : Callsign) → a ≢ b → bytes_eq b a ≡ false
differs a b other = grind (arith, false_from_ne_true, bytes_eq-Decides)

abbrev Apart : Active → Active → Type 0
Apart a b = a.flight.callsign ≢ b.flight.callsign

not_named : (c : Callsign) (active : List Active) → All (λ (b : Active). c ≢ b.flight.callsign) active
    → NotNamed c active
not_named c [] h = tt
not_named c (a ∷ rest) h = (
  differs c a.flight.callsign (All-head (λ (b : Active). c ≢ b.flight.callsign) a rest h),
  not_named c rest
      (All-tail (λ (b : Active). c ≢ b.flight.callsign) a rest h),
)

pub named_apart : (active : List Active) → AllPairs Apart active → AreNamedApart active
named_apart [] h = tt
named_apart (a ∷ rest) h =
    (not_named a.flight.callsign rest (pairs_head Apart a rest h), named_apart rest (pairs_tail Apart a rest h))
