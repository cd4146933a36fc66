-- How long a plan block is.
use Rattle.std.proofs.Common.{◌≡◌, ℕ, ◌+◌, ◌*◌, ◌≤◌, List, [], ◌∷◌, length, Option, Some, None, refl, arith}
use Rattle.std.proofs.lemmas.Grind.{common_steps}
use Rattle.std.specs.Prelude.{decimal, map, option_map}
use Rattle.std.proofs.lemmas.List.{length-append}
use Rattle.landing_rules.specs.declared.objective.Objective.{Objective}
use Rattle.landing_rules.specs.Flights.{Schedule}
use Rattle.landing_rules.specs.Text.{ShownLanding, ShownPlan, block_lines, block_text, head_words}
use Rattle.landing_rules.specs.Text.{landing_words, line, lines_text, shown_plan}
use Rattle.plan_file.specs.Printed.{AreReadable, IsReadable, ShownPlanIsReadableLaw}
use Rattle.plan_file.specs.shared.Landings.{shown_few}
use Rattle.text_bounds.specs.Blocks.{BlockIsBoundedLaw, block_bound}
use Rattle.text_bounds.specs.shared.Lengths.{callsign_short, second_short, value_short}

landing_short : (f : ShownLanding) → length f.callsign ≤ 8 → length (decimal f.second) ≤ 6
    → length (line (landing_words f)) ≤ 29
landing_short f name second = grind (arith, common_steps)

landings_short : (fs : List ShownLanding) → AreReadable fs → length (lines_text (map landing_words fs)) ≤ 29 * length fs
landings_short [] h = omega arith
landings_short (f ∷ fs) h =
    let both = length-append (line (landing_words f)) (lines_text (map landing_words fs)) in
    omega (arith, landing_short f (callsign_short _ h.0) (second_short _ h.1), landings_short fs h.2, both)

pub head_short : (o : Objective) (v : ℕ) → length (decimal v) ≤ 10 → length (line (head_words o v)) ≤ 20
head_short o v value = grind (arith, common_steps)

pub block_short : (o : Objective) (p : ShownPlan) → IsReadable p
    → length (block_text o (Some p)) ≤ 20 + 29 * length p.landings
block_short o p h = grind (arith, length-append, head_short, value_short, landings_short)

pub plan_short : ShownPlanIsReadableLaw → BlockIsBoundedLaw
plan_short law state sound = go _ refl
  where
    go : (q : Option Schedule) → state.plan ≡ q
        → length (lines_text (block_lines state.situation.aerodrome.objective
        (option_map (shown_plan state.situation) q))) ≤ block_bound (length state.situation.active)
    go None e = omega arith
    go (Some t) e =
        let whole = block_short state.situation.aerodrome.objective _
        (law state (shown_plan state.situation t) sound (cc)) in
        omega (arith, whole, shown_few state.situation t)
