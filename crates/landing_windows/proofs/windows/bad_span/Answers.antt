-- The first fault along the places is the first along the spans.
use Rattle.std.proofs.lemmas.Grind.{common_steps}
use Rattle.std.proofs.Common.{rules, tests, arith, ◌≡◌, ◌+◌, ℕ, zero, suc, List, length, drop, refl, ◌∙◌}
use Rattle.std.specs.Prelude.{slice_index_or, Option}
use Rattle.std.specs.List.{range_with_len}
use Rattle.std.proofs.lemmas.Iterator.{YieldsList-from_range}
use Rattle.std.proofs.lemmas.List.{drop_all}
use Rattle.cps_base.specs.laws.FindMap.{first_answer, first_answer_from_find_map}
use Rattle.landing_rules.specs.Flights.{Span}
use Rattle.landing_windows.specs.declared.windows.WindowFault.{WindowFault}
use Rattle.landing_windows.specs.Windows.{span_fault, bad_span, end_before}
use Rattle.landing_windows.proofs.windows.bad_span.Goals as goal

-- what is wrong with the span of a place
fault_at : List Span → ℕ → Option WindowFault
fault_at spans i = span_fault (i + 1) (end_before spans i) (slice_index_or spans i (0, 0))

along : (spans : List Span) (n i : ℕ) → i + n ≡ length spans
    → first_answer (fault_at spans) (range_with_len i n) ≡ bad_span (i + 1) (end_before spans i) (drop i spans)
unfolding first_answer bad_span fault_at end_before
along spans zero i all = rw (drop_all i spans (omega arith)) refl
along spans (suc n) i all = grind (arith, common_steps, along spans n (i + 1) (omega (arith, all)))

pub returns : goal.returns
unfolding fault_at end_before
returns c =
    let spans = c.args.spans.now in
    first_answer_from_find_map (fault_at spans) _ (λ x r q called. search (rules, tests)) c.find_map.result
    c.find_map.ensures.runs
    (YieldsList-from_range 0 (length spans) (length spans) (search (rules, tests)) (omega arith))
    ∙ along spans (length spans) 0 (omega arith)
