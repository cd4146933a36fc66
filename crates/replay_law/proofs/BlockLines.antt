-- A plan block with an answer behind it, or nothing, tells the plan and where the block ends.
use Rattle.std.proofs.Common.{rules, ◌≡◌, List, [], ◌∷◌, ◌++◌, Option, Some, None, ap, arith}
use Rattle.std.specs.Prelude.{map}
use Rattle.landing_rules.specs.declared.objective.Objective.{Objective}
use Rattle.landing_rules.specs.declared.objective.Objective.TheVariants.{Makespan, Delay}
use Rattle.landing_rules.specs.Text.{Bytes, lines_text, ShownLanding, ShownPlan, objective_word, landing_words}
use Rattle.landing_rules.specs.Text.{block_lines, block_text, AreNamed, IsShowable, BlockLaw}
use Rattle.landing_rules.specs.shared.Lines.{IsWithout-append, decimal_without, objective_without, landing_line}
use Rattle.replay_law.proofs.Lines.{ArePlanLines, EndsPlan, lines_same}

-- ---- the lines of a block

landing_lines : (fs : List ShownLanding) → AreNamed fs → ArePlanLines (map landing_words fs)
landing_lines [] h = tt
landing_lines (f ∷ fs) h = ((landing_line f h.0.0 h.0.1, (λ e. omega (arith, e))), landing_lines fs h.1)

block_are_lines : (o : Objective) (p : Option ShownPlan) → IsShowable p → ArePlanLines (block_lines o p)
block_are_lines o None h = (omega arith, tt)
block_are_lines Makespan (Some p) h = (
  (
    IsWithout-append 10 (objective_word Makespan) _ (objective_without Makespan)
        (decimal_without 10 p.value (omega arith) h.0),
    (λ e. omega (arith, e)),
  ),
  landing_lines p.landings h.1,
)
block_are_lines Delay (Some p) h = search (rules, IsWithout-append, objective_without, decimal_without, landing_lines)

-- two blocks with what comes behind them
pub block_same : BlockLaw → (o : Objective) (p q : Option ShownPlan) (u v : Bytes) → IsShowable p
    → IsShowable q → EndsPlan u → EndsPlan v → block_text o p ++ u ≡ block_text o q ++ v → (p ≡ q) × (u ≡ v)
block_same law o p q u v a b s t e =
    let lines = lines_same (block_lines o p) (block_lines o q) u v (block_are_lines o p a)
    (block_are_lines o q b) s t e in
    (law o p q a b (ap lines_text lines.0), lines.1)
