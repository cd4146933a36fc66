-- What is read of a problem that is held.
use Rattle.replan.specs.shared.LastPairs.{list_some}
use Rattle.std.proofs.Common.{◌≡◌, ℕ, ◌-◌, ◌<◌, ◌≤◌, List, length, get_or, Option, Some, sym, subst, ◌∙◌, arith}
use Rattle.landing_rules.specs.Problem.{Problem}
use Rattle.replan.specs.Held.{HeldProblem, IsHeld}
use Rattle.replan.specs.Labels.{HoldsPairs}
use Rattle.replan.specs.Readers.{IsReadable, lists_in, stage_in}
use Rattle.replan.specs.Stages.{LabelledStage}
use Rattle.replan.specs.WindowNodes.{AreNodesOf, ArePutTogether, HaveLeast, WindowNodes}
use Rattle.replan.proofs.StageLemmas.{held_at, read_held, read_stage}

-- a stage as it is read
pub record IsReadAt (p : Problem) (held : Option HeldProblem) (i : ℕ) (x : LabelledStage) : Type 0 where
  pub stage : x.stage ≡ stage_in held i
  pub lists : x.labels.lists ≡ lists_in held i
  pub number : x.stage.0 ≡ i
  pub pairs : HoldsPairs p x.stage x.labels
  pub to_last : i ≤ length p.flights

pub read_at : (w : ℕ) (p : Problem) (held : Option HeldProblem) (h : HeldProblem) (stages : List LabelledStage) (i : ℕ)
    (x y : LabelledStage) → held ≡ Some h → h.stages ≡ stages → x ≡ y → y ≡ get_or stages i y → IsReadable held i
    → IsHeld w (record { problem = p; stages = stages }) → IsReadAt p held i x
read_at w p held h stages i x y e f same at readable is =
    let both = read_held held h stages i x y e f same at readable in
    let some : 1 ≤ i = readable.0 in
    let low : i ≤ length stages - 1 = rw (e, f) at readable.1 in
    let lt : i < length stages = omega arith in
    let here = held_at p stages is.held i x (read_stage stages i x y same at lt) lt in
    let whole = is.whole in
    record { stage = both.0; lists = both.1; number = here.1; pairs = here.0; to_last = omega arith }

module _ (p : Problem) (held : Option HeldProblem) (i : ℕ) (x : LabelledStage) (r : IsReadAt p held i x) where
  pub read_nodes : (n : WindowNodes) → AreNodesOf held i n
      → ArePutTogether x.stage.0 x.stage.1 (length x.stage.1) n.places n.firsts
  read_nodes n are =
      subst (λ s. ArePutTogether x.stage.0 s.1 (length s.1) n.places n.firsts) (sym r.stage) (rw r.number are.together)

  pub have_least : (n : WindowNodes) → AreNodesOf held i n → HaveLeast x.labels.lists n
  have_least n are =
      let g = read_nodes n are in
      let costs = r.pairs.held.costs in
      let each = costs.one_each in
      let long = g.long in
      record {
        long = long ∙ sym each;
        within = λ j lt. g.within j (omega arith);
        first = λ j lt. (let a = g.first j lt in omega arith);
        own = g.own;
        some = λ j lt. list_some p x.stage x.labels.lists r.pairs.held j (omega arith);
        falling = λ j lt. (costs.pairs j (omega arith)).falling;
      }
