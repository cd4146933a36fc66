-- The items of the lanes are those of the list, at their places.
use Rattle.std.proofs.Common.{◌≡◌, ℕ, ◌+◌, ◌-◌, ◌*◌, ◌<◌, ◌≤◌, ◌∙◌, arith, rules, ap, subst, sym, length, Ok}
use Rattle.std.proofs.Common.{slice_index_or}
use Rattle.std.specs.Prelude.{IfOk, min}
use Rattle.std.proofs.lemmas.List.{get_or-map, length-map}
use Rattle.std.proofs.lemmas.Result.{IfOk-weaker}
use Rattle.label_workers.specs.shared.Lanes.{AreLanes, IsLane, all_long, all_each}
use Rattle.label_workers.proofs.lists.fill_long_lists.Given as given
use Rattle.label_workers.proofs.lists.fill_long_lists.Goals as goal

count : (g : given.Over) (c : goal.After-joined g) → c.lane_count.result ≡ length c.in_ok-lanes.lanes.items
count g c = grind (arith, length-map)

lanes : (g : given.Over) (c : goal.After-joined g)
    → AreLanes (λ list. list.items) (λ i x. goal.F-post g c.args.f.now i (Ok x)) c.lane_of-size.result
    c.args.n 0 c.in_ok-lanes.lanes.items
lanes g c j v lt =
    let is = count g c in
    let at = ap (λ l. slice_index_or l j (Ok v)) c.in_ok-lanes.ensures
    ∙ get_or-map Ok c.in_ok-lanes.lanes.items j v (Ok v) lt in
    let each = (c.in_ok-answers.ensures.each j (Ok v) (omega (arith, is, lt))).1 in
    let met = subst (λ r. IfOk r
    (λ items. (length items.items ≡ min c.lane_of-size.result (c.args.n - j * c.lane_of-size.result))
    × ((k : ℕ) (d : g.row.T.Denot) → k < length items.items
    → goal.F-post g c.args.f.now (j * c.lane_of-size.result + k) (Ok (slice_index_or items.items k d)))))
    at each.met in
    let here : IsLane (λ list. list.items) (λ i x. goal.F-post g c.args.f.now i (Ok x)) c.lane_of-size.result c.args.n
    (j * c.lane_of-size.result) (slice_index_or c.in_ok-lanes.lanes.items j v) =
    record { len = met.0; each = met.1 } in
    subst (λ s. IsLane (λ list. list.items) (λ i x. goal.F-post g c.args.f.now i (Ok x)) c.lane_of-size.result c.args.n s
    (slice_index_or c.in_ok-lanes.lanes.items j v)) (omega arith) here

whole : (g : given.Over) (c : goal.After-joined g) → c.args.n ≤ length c.in_ok-lanes.lanes.items * c.lane_of-size.result
whole g c = subst (λ m. c.args.n ≤ m * c.lane_of-size.result) (count g c) c.lane_count.ensures.whole

pub returns-clause-len : goal.returns-clause-len
returns-clause-len g c = IfOk-weaker c.joined.result _ _ (λ items same.
    let long = all_long (λ list. list.items) (λ i x. goal.F-post g c.args.f.now i (Ok x)) c.lane_of-size.result
    c.args.n c.in_ok-lanes.lanes.items (whole g c) (lanes g c) in
    let is : length items.items ≡ c.args.n = ap length same ∙ long in
    search (rules, is)) c.joined.ensures

pub returns-clause-each : goal.returns-clause-each
returns-clause-each g c = IfOk-weaker c.joined.result _ _ (λ items same i d lt.
    subst (λ l. goal.F-post g c.args.f.now i (Ok (slice_index_or l i d))) (sym same)
    (all_each (λ list. list.items) (λ i x. goal.F-post g c.args.f.now i (Ok x)) c.lane_of-size.result
    c.args.n c.in_ok-lanes.lanes.items (whole g c) (lanes g c) i d lt)) c.joined.ensures
