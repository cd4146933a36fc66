use Rattle.std.proofs.Common.{◌≡◌, ℕ, List, Option, Some, ap₂, subst}
use Rattle.std.specs.Prelude.{IfSome, slice_index}
use Rattle.cps_network.specs.Links.{range_at}
use Rattle.makespan_labels.proofs.RangeLemmas.{linked_sources, searched_sources}
use Rattle.makespan_labels.proofs.label.range_before.Goals as goal

some_holds : {X : Type 0} (P : X → Type 0) (o : Option X) (x : X) → o ≡ Some x → IfSome o P → P x
some_holds P o x e h = subst (λ (q : Option _). IfSome q P) e h

pub returns-in-Some : goal.returns-in-Some
returns-in-Some g c = λ p labels can.
    let ends = some_holds _ c.args.links c.in-Some.links c.in-Some.is c.requires.links in
    linked_sources p g.row.W c.args.before.now c.args.stage.now labels can c.args.i c.requires.within
    c.in-Some.links.now c.ranges-in-Some.ensures.links ends.0 ends.1 _
    (ap₂ (λ (rs : List (ℕ × ℕ)) (xs : List ℕ). range_at rs (slice_index xs c.args.i)) c.ranges-in-Some.ensures.value
    c.places.ensures.value)

pub returns-in-None : goal.returns-in-None
returns-in-None g c = λ p labels can.
    searched_sources p g.row.W c.args.before.now c.args.stage.now labels can c.args.i c.requires.within c.node.result
    c.node.ensures.value c.sources.result c.sources.ensures.range.1 c.sources.ensures.exact
