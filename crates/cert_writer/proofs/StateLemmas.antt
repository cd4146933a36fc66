-- States written node by node.
use Rattle.std.proofs.Common.{rules, ◌≡◌, ℕ, ◌+◌, ◌≤◌, ◌⊎◌, inl, inr, List, [], ◌∷◌, ◌++◌, true, sym, ◌∙◌, arith}
use Rattle.std.specs.Prelude.{All}
use Rattle.std.specs.List.{list_all}
use Rattle.std.proofs.lemmas.List.Elements.{All-push}
use Rattle.cps_theory.specs.Labels.{Pair}
use Rattle.cps_theory.specs.Patterns.{PatternNode}
use Rattle.certificate.specs.States.{State, is_pair}
use Rattle.cert_check.specs.States.{node_of}
use Rattle.cert_check.specs.shared.KeptPairs.{HoldsEntries, HoldAllEntries}
use Rattle.landing_rules.specs.shared.Members.{all_at}
use Rattle.cert_check.specs.shared.StateEnds.{IsBefore, ascending_end, node_left, node_end}
use Rattle.cert_writer.specs.Slots.{HasNumber}
use Rattle.cert_writer.specs.Written.{ComesBelow, AreWrittenBelow}
use Rattle.cert_writer.proofs.SlotLemmas.{lesser_less, one_node}

module _ (k : ℕ) (stage number : ℕ) where
  below_more : (d : PatternNode) → ComesBelow k stage number d → ComesBelow k stage (number + 1) d
  below_more d (inl lt) = inl lt
  below_more d (inr (at, n, lt, has)) = search rules

  -- what is below the next number is below this one, or has it
  below_or : (d : PatternNode) → ComesBelow k stage (number + 1) d → ComesBelow k stage number d
      ⊎ ((d.0 ≡ stage) × HasNumber k d number)
  below_or d (inl lt) = inl (inl lt)
  below_or d (inr (at, n, lt, has)) = search rules

  -- what is below a node of the stage comes before it
  below_before : (s : State) (d : PatternNode) → d.0 ≡ stage → HasNumber k d number
      → ComesBelow k stage number (node_of s) → IsBefore s d
  below_before s d at has (inl lt) = search rules
  below_before s d at has (inr (same, n, lt, it)) = lesser_less k (node_of s) d n number (same ∙ sym at) it has lt

module _ (k : ℕ) (Entry : PatternNode → Pair → Type 0) (stage number : ℕ) (ss : List State)
    (w : AreWrittenBelow k Entry stage number ss) where
  below_still : All (λ s. ComesBelow k stage (number + 1) (node_of s)) ss
  below_still = search rules

  -- the state of this number
  pub one_state : (s : State) → s.stage ≡ stage → HasNumber k (node_of s) number → HoldsEntries Entry s
      → list_all is_pair s.pairs ≡ true → AreWrittenBelow k Entry stage (number + 1) (ss ++ s ∷ [])
  one_state s at has holds pairs = record {
    each = All-push (HoldsEntries Entry) ss s w.each holds;
    every = λ d q one b e. elim (below_or k stage number d b) [
      | inl old ↦ node_left ss s d (w.every d q one old e)
      | inr here ↦ node_end ss s d (one_node k (node_of s) d number (at ∙ sym here.0) has here.1)
    ];
    ascending = ascending_end ss s w.ascending (λ x i. below_before k stage number x (node_of s) at has
        (all_at (λ t. ComesBelow k stage number (node_of t)) ss w.below x i));
    below = All-push (λ t. ComesBelow k stage (number + 1) (node_of t)) ss s below_still
        (inr (at, number, omega arith, has));
    in_range = All-push (λ t. list_all is_pair t.pairs ≡ true) ss s w.in_range pairs;
  }

-- with all stages all entries are held
pub all_written : (k : ℕ) (Entry : PatternNode → Pair → Type 0) (last : ℕ) (ss : List State)
    → AreWrittenBelow k Entry (last + 1) 0 ss → ((d : PatternNode) (q : Pair) → Entry d q → d.0 ≤ last)
    → HoldAllEntries Entry ss
all_written k Entry last ss w ends = search rules
