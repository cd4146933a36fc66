-- States that hold all entries of the stages leave nothing out.
use Rattle.std.proofs.Common.{rules, ◌≡◌, ℕ, ◌≤◌, inl, inr, List, length, arith}
use Rattle.std.specs.Prelude.{ℤ}
use Rattle.std.proofs.lemmas.Bool.{cases_lt}
use Rattle.landing_rules.specs.Problem.{Problem}
use Rattle.cps_theory.specs.Labels.{Pair}
use Rattle.cps_theory.specs.Network.{Kept}
use Rattle.cps_theory.specs.Patterns.{PatternNode}
use Rattle.cert_check.specs.Whole.{Attains}
use Rattle.cert_check.specs.shared.KeptPairs.{entries_are_whole}
use Rattle.cert_writer.specs.StageEntries.{IsEntryOf, EntriesKeepNodes, EndWithFlights, AreStagesWith, StagesMakeStates}

module _ (p : Problem) (end : EndWithFlights p) (entries : EntriesKeepNodes p) (stages : ℕ
    → ℕ × List (List ℤ)) (lists : ℕ → List (List Pair)) (are : AreStagesWith p stages lists) where
  -- behind the last stage there is no node
  keep_all : (d : PatternNode) → 1 ≤ d.0 → Kept (Attains p d) (IsEntryOf p stages lists d)
  keep_all d one = elim (cases_lt (length p.flights) d.0) [
    | inl past ↦ record {
      attained = λ q e. absurd (let a = e.0 in omega arith);
      covers = λ q a. absurd (let b = end d q a in omega arith);
    }
    | inr low ↦
        let here = are d.0 one low in
        let at : d.0 ≡ (stages d.0).0 = omega (arith, here.0) in
        let k = entries (stages d.0) (lists d.0) here.1 d at in
        record { attained = λ q e. k.attained q e.1; covers = λ q a. let c = k.covers q a in (c.0, (low, c.1), c.2) }
  ]

pub stages_make_states : (p : Problem) → EndWithFlights p → EntriesKeepNodes p → StagesMakeStates p
stages_make_states p end entries stages lists ss are all = search (rules, entries_are_whole, keep_all)
