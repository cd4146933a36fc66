-- Stages without their pairs.
use Rattle.std.proofs.lemmas.Grind.{common_steps}
use Rattle.std.proofs.Common.{◌≡◌, ℕ, ◌+◌, ◌-◌, ◌<◌, List, [], ◌∷◌, ◌++◌, length, length-append, get_or, map, take, sym}
use Rattle.std.proofs.Common.{inl, inr, arith, ◌∙◌}
use Rattle.std.specs.Prelude.{ℤ, IsTrue}
use Rattle.std.proofs.lemmas.Bool.{cases_eq}
use Rattle.std.proofs.lemmas.List.{get_or_append_left, get_or_push, get_or-map, get_or_default, length-map, map_more}
use Rattle.landing_rules.specs.Problem.{Problem}
use Rattle.cps_network.specs.Permits.{IsNextOf}
use Rattle.replan.specs.Stages.{LabelledStage, no_stage, AreStages, HintedStage, without_pairs, hinted_at}
use Rattle.replan.specs.Stages.{AreHints}

-- they are whole as said
pub hints_of_stages : (p : Problem) (stages : List LabelledStage) → AreStages p stages
    → AreHints p (map without_pairs stages)
hints_of_stages p stages is i lt said =
    let here : i + 1 < length stages = omega (arith, lt, length-map stages without_pairs) in
    let at = get_or-map without_pairs stages (i + 1) no_stage (without_pairs no_stage) here in
    let before = get_or-map without_pairs stages i no_stage (without_pairs no_stage) (omega arith) in
    let back : i + 1 - 1 ≡ i = omega arith in
    rw (at, before, is.number i (omega arith)) (rw back at (is.whole (i + 1) (omega arith) here (rw at at said)))

-- one stage more without its pairs
pub one_shared : (stages : List LabelledStage) (hinted after : List HintedStage) (i : ℕ) (x y : LabelledStage)
    (s : ℕ × List (List ℤ)) → i < length stages → hinted ≡ map without_pairs (take i stages) → x ≡ y → y
    ≡ get_or stages i y → s ≡ x.stage → after ≡ hinted ++ record { stage = s; is_whole = x.is_whole } ∷ [] → after
    ≡ map without_pairs (take (i + 1) stages)
one_shared stages hinted after i x y s lt before same e shared added = grind (arith, common_steps, map_more)

pub read_hinted : (hinted : List HintedStage) (i : ℕ) (x y : HintedStage) → x ≡ y → y ≡ get_or hinted i y
    → i < length hinted → x ≡ hinted_at hinted i
read_hinted hinted i x y same e lt = same ∙ e ∙ get_or_default hinted i y (without_pairs no_stage) lt

-- two of them, where the later one is whole
pub next_hinted : (p : Problem) (hinted : List HintedStage) → AreHints p hinted → (i : ℕ) (x y : HintedStage) → i + 1
    < length hinted → x ≡ hinted_at hinted i → y ≡ hinted_at hinted (i + 1) → IsTrue y.is_whole
    → IsNextOf p x.stage.0 x.stage.1 y.stage.1
next_hinted p hinted are i x y lt e f whole = rw (e, f) (are i lt (rw f at whole))
