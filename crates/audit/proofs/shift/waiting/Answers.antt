use Rattle.std.proofs.Common.{Bor, rules, tests, ◌≡◌, Bool, map}
use Rattle.std.specs.Prelude.{IfOk, filter, is_none}
use Rattle.std.proofs.lemmas.Iterator.{YieldsList-from_slice}
use Rattle.std.proofs.lemmas.Iterator.Consumers.{YieldsList-from_filter, map_from_collect}
use Rattle.std.proofs.lemmas.Result.{IfOk-weaker}
use Rattle.landing_rules.specs.Flights.{Active}
use Rattle.landing_rules.specs.Text.{ShownLanding}
use Rattle.audit.proofs.FoundLines.{waiting_lines}
use Rattle.audit.proofs.shift.waiting.Goals as goal

pub returns-clause-value : goal.returns-clause-value
returns-clause-value c =
    let found = c.args.found.now in
    let test : ShownLanding × Active → Bool = λ f. is_none f.1.frozen in
    let chain : IfOk c.collect.result
    (λ all. map (λ (y : Bor (ShownLanding × Active)). y.now) all.items ≡ filter test found) =
    map_from_collect c.collect.result c.collect.ensures.ran
    (YieldsList-from_filter _ test (YieldsList-from_slice found (cc)) c.filter.ensures.closure
    (λ x b q k. search (rules, tests))) in
    IfOk-weaker c.collect.result _ _
    (λ all h. waiting_lines (λ (y : Bor (ShownLanding × Active)). y.now) all.items found h) chain
