-- The state of a slot.
use Rattle.std.proofs.Common.{rules, ◌≡◌, ℕ, ◌+◌, ◌-◌, ◌*◌, ◌/◌, ◌%◌, ◌<◌, ◌≤◌, ◌^◌, inl, List, [], ◌∷◌, ◌++◌, length}
use Rattle.std.proofs.Common.{get_or, true, Option, refl, sym, ◌∙◌, arith}
use Rattle.std.proofs.lemmas.Grind.{common_steps}
use Rattle.std.specs.Prelude.{ℤ}
use Rattle.std.specs.List.{list_all}
use Rattle.landing_rules.specs.Problem.{Problem}
use Rattle.cps_theory.specs.Labels.{InPairs, NoWorse, Pair}
use Rattle.cps_theory.specs.Patterns.{IsShaped, PatternNode}
use Rattle.cps_problem.specs.WellFormed.{IsWellFormed}
use Rattle.cps_network.specs.Lists.{node_at}
use Rattle.cps_network.specs.Pairs.{HoldsCosts, list_at}
use Rattle.replan.specs.Held.{HeldProblem}
use Rattle.replan.specs.Readers.{AreStagesOf, stage_in, lists_in}
use Rattle.certificate.specs.Patterns.{bits, number_of}
use Rattle.certificate.specs.States.{State, IsState, is_pair, rises}
use Rattle.cert_check.specs.States.{node_of}
use Rattle.cert_check.specs.shared.KeptPairs.{HoldsEntries}
use Rattle.cert_writer.specs.StageEntries.{IsEntry, IsEntryOf}
use Rattle.cert_writer.specs.Gathered.{AreGathered, HasBetter, HasOnly}
use Rattle.cert_writer.specs.Slots.{HasNumber, HasSlot}
use Rattle.cert_writer.specs.Written.{AreWrittenBelow}
use Rattle.cert_writer.proofs.SlotLemmas.{number_near, number_slot, length_bits}
use Rattle.cert_writer.proofs.GatherLemmas.{window_shape, place_landable}
use Rattle.cert_writer.proofs.StateLemmas.{one_state}

no_pair : (xs : List Pair) (q : Pair) → length xs ≡ 0 → InPairs q xs → ⊥
no_pair [] q none i = i
no_pair (x ∷ xs) q none i = cc

-- ---- the list that is read at a slot

pub slot_within : (k number ones room : ℕ) → ones < 2 ^ (2 * k) → room ≡ 8 * 2 ^ (2 * k) → ones * 8 + number % 8 < room
slot_within k number ones room low all = omega arith

module _ (slots : List (List Pair)) (slot : ℕ) (within : slot < length slots) (now : List Pair)
    (is : now ≡ get_or slots slot now) where
  pub slot_is : now ≡ list_at slots slot
  slot_is = grind (arith, common_steps)

  pub found_in : (best : List Pair) → HasOnly best (λ q. InPairs q now)
      → HasOnly best (λ q. InPairs q (list_at slots slot))
  found_in best h q i = search (rules, slot_is)

  pub covers_in : (best : List Pair) → HasBetter best (λ q. InPairs q now)
      → HasBetter best (λ q. InPairs q (list_at slots slot))
  covers_in best h q i = search (rules, slot_is)

-- ---- the stage

-- a stage of a well-formed problem, under its number, with the undominated pairs of its windows
pub record IsHeld (p : Problem) (stages : ℕ → ℕ × List (List ℤ)) (lists : ℕ → List (List Pair))
    (stage : ℕ) : Type 0 where
  pub well_formed : IsWellFormed p
  pub begun : 1 ≤ stage
  pub within : stage ≤ length p.flights
  pub number : (stages stage).0 ≡ stage
  pub costs : HoldsCosts p (stages stage) (lists stage)

-- each stage of a problem that a planner holds is
pub stage_held : (p : Problem) (held : Option HeldProblem) (stage : ℕ) → IsWellFormed p → AreStagesOf p held
    → (1 ≤ stage) × (stage ≤ length p.flights) → IsHeld p (stage_in held) (lists_in held) stage
stage_held p held stage wf are s = search rules

-- these are the best pairs of the slot of a node's number, where the slots have the pairs of the stage
pub record AreBestAt (p : Problem) (stages : ℕ → ℕ × List (List ℤ)) (lists : ℕ → List (List Pair))
    (stage number ones : ℕ) (slots : List (List Pair)) (best : List Pair) : Type 0 where
  pub turned : number_of (bits (2 * p.k) ones) ≡ number / 8
  pub low : ones < 2 ^ (2 * p.k)
  pub gathered : AreGathered p (stages stage) (lists stage) (length (stages stage).1) slots
  pub found : HasOnly best (λ q. InPairs q (list_at slots (ones * 8 + number % 8)))
  pub covers : HasBetter best (λ q. InPairs q (list_at slots (ones * 8 + number % 8)))

module _ (p : Problem) (stages : ℕ → ℕ × List (List ℤ)) (lists : ℕ → List (List Pair)) (stage : ℕ)
    (held : IsHeld p stages lists stage) where
  abbrev pub Entry : PatternNode → Pair → Type 0
  Entry = IsEntryOf p stages lists

  entry_here : (d : PatternNode) (q : Pair) → d.0 ≡ stage → Entry d q → IsEntry p (stages stage) (lists stage) d q
  entry_here d q at e = search rules

  shape_here : (d : PatternNode) (q : Pair) → IsEntry p (stages stage) (lists stage) d q
      → IsShaped p.k (length p.flights) d × (1 ≤ d.2)
  shape_here d q e = window_shape p (stages stage).0 (node_at (stages stage).1 e.place) d
      (let number_is = held.number in let one = held.begun in omega (arith, number_is, one))
      (place_landable p (stages stage) (lists stage) held.costs e.place e.within) e.node

  -- all nodes of the stage with entries have a number
  pub entry_number : (d : PatternNode) (q : Pair) → d.0 ≡ stage → Entry d q → (n : ℕ) × (n < 8 * 2 ^ (2 * p.k))
      × HasNumber p.k d n
  entry_number d q at e = let s = (shape_here d q (entry_here d q at e)).0 in
      number_near p.k d held.well_formed.few_places s.digits s.near.0 s.near.1

  module _ (number ones : ℕ) (slots : List (List Pair)) (best : List Pair)
      (are : AreBestAt p stages lists stage number ones slots best) where
    abbrev slot : ℕ
    slot = ones * 8 + number % 8

    -- each entry of the number's node has one of these that is no worse
    best_covers : (d : PatternNode) (q : Pair) → d.0 ≡ stage → HasNumber p.k d number → Entry d q
        → (o : Pair) × InPairs o best × NoWorse o q
    best_covers d q at has e =
        let here = entry_here d q at e in
        let c = are.gathered.covers slot d q (at ∙ sym held.number)
        (number_slot p.k d number ones has are.turned are.low) (here, here.within) in
        let o = are.covers c.0 c.1 in search rules

    pub none_best : (ss : List State) → AreWrittenBelow p.k Entry stage number ss → length best ≡ 0
        → AreWrittenBelow p.k Entry stage (number + 1) ss
    none_best ss w none = search (rules, best_covers, no_pair)

    -- each of them is an entry of one node of the slot
    node_of_best : (q : Pair) → InPairs q best → (d : PatternNode) × (d.0 ≡ stage) × HasSlot p.k d slot × Entry d q
    node_of_best q i =
        let f = are.gathered.found slot q (are.found q i) in search rules

    first : 1 ≤ length best → (q : Pair) × InPairs q best
    first some = go best some
      where
        go : (xs : List Pair) → 1 ≤ length xs → (q : Pair) × InPairs q xs
        go [] some = search rules
        go (x ∷ xs) some = (x, inl refl)

    module _ (some : 1 ≤ length best) where
      abbrev node : PatternNode
      node = (node_of_best (first some).0 (first some).1).0

      pub last_known : p.k ≤ stage + number % 8
      last_known = search (rules, node_of_best, first)

      -- the state that is written
      abbrev pub written : State
      written = record { stage = stage; pattern = bits (2 * p.k) ones; last = stage + number % 8 - p.k; pairs = best }

      written_number : HasNumber p.k (node_of written) number
      written_number = search (rules, last_known, length_bits)

      best_entry : (q : Pair) → InPairs q best → Entry (node_of written) q
      best_entry q i =
          let n = node_of_best q i in search rules

      pub written_holds : rises best ≡ true → HoldsEntries Entry written
      written_holds up = search (rules, best_entry, best_covers, written_number)

      pub written_more : (ss : List State) → AreWrittenBelow p.k Entry stage number ss → rises best ≡ true
          → list_all is_pair best ≡ true → AreWrittenBelow p.k Entry stage (number + 1) (ss ++ written ∷ [])
      written_more ss w up ranged = search (rules, one_state, written_number, written_holds)

      pub written_in_form : rises best ≡ true → list_all is_pair best ≡ true → IsState written
      written_in_form up ranged = search (rules, shape_here, first, best_entry)

  -- the stage with all numbers
  pub stage_written : (ss : List State) → AreWrittenBelow p.k Entry stage (8 * 2 ^ (2 * p.k)) ss
      → AreWrittenBelow p.k Entry (stage + 1) 0 ss
  stage_written ss w = search (rules, entry_number)
