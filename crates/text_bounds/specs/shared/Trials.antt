-- How long the summary of a trial is.
use Rattle.std.proofs.Common.{◌≤◌, [], ◌∷◌, ◌++◌, length, take, Option, arith}
use Rattle.std.proofs.lemmas.Grind.{common_steps}
use Rattle.std.specs.Prelude.{⊤, MatchOption, codes, decimal}
use Rattle.std.proofs.lemmas.Fmt.{length-decimal-le}
use Rattle.std.proofs.lemmas.List.{length-append}
use Rattle.landing_rules.specs.declared.objective.Objective.{Objective}
use Rattle.cps_base.specs.Limits.{greatest_value}
use Rattle.landing_rules.specs.Text.{ShownPlan, block_lines, line, lines_text}
use Rattle.text_bounds.specs.Trials.{TrialIsBoundedLaw}
use Rattle.text_bounds.specs.shared.Lengths.{value_short}

first_short : (o : Objective) (plan : Option ShownPlan) → MatchOption plan ⊤ (λ p. p.value ≤ greatest_value)
    → length (lines_text (take 1 (block_lines o plan))) ≤ 20
first_short o plan h = grind (arith, common_steps, value_short)

pub trial_short : TrialIsBoundedLaw
trial_short n k nodes o plan few near small h =
    let a = length-decimal-le 2 n (omega arith) (omega (arith, few)) (omega (arith, few)) in
    let b = length-decimal-le 1 k (omega arith) (omega (arith, near)) (omega (arith, near)) in
    let c = length-decimal-le 8 nodes (omega arith) (omega (arith, small)) (omega (arith, small)) in
    let y = length-append (decimal k) (10 ∷ []) in
    let z = length-append (decimal nodes) (10 ∷ []) in
    let third = length-append (line (codes "nodes " ++ decimal nodes)) (lines_text (take 1 (block_lines o plan))) in
    let second = length-append (line (codes "k " ++ decimal k)) (line (codes "nodes " ++ decimal nodes)
    ++ lines_text (take 1 (block_lines o plan))) in
    let whole = length-append (line (codes "flights " ++ decimal n)) (line (codes "k " ++ decimal k)
    ++ (line (codes "nodes " ++ decimal nodes) ++ lines_text (take 1 (block_lines o plan)))) in
    omega (arith, first_short o plan h, a, b, c, length-append (decimal n) (10 ∷ []), y, z, third, second, whole)
