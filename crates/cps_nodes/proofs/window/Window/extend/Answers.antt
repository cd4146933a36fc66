use Rattle.std.proofs.Common.{◌≡◌, ◌∙◌, arith, subst, sym, w8, to_z, of_z}
use Rattle.std.proofs.lemmas.Bool.{false≢true}
use Rattle.std.proofs.lemmas.Int.{ints, to_z-of_z}
use Rattle.cps_nodes.specs.Windows.{IsWindow, Accepts, shifted}
use Rattle.cps_nodes.proofs.ExtendLemmas.{accepted_ranks, ranks_accepted}
use Rattle.cps_nodes.proofs.LawLemmas.{lead_on}
use Rattle.cps_nodes.proofs.window.Window.extend.Goals as goal
use Rattle.cps_nodes.proofs.window.Window.extend.Goals.{After-after}

can : (g : _) (c : After-after g) → Accepts c.args.self.now c.args.offset
can g c =
    let turned : to_z w8 (of_z w8 c.args.offset) ≡ c.args.offset = omega (arith, ints, c.ranges.offset) in
    subst (Accepts c.args.self.now) turned (c.accepts.ensures.accepts.0 c.if-not-accepts.false)

-- the offsets after the landing
next_is : (g : _) (c : After-after g) → c.after.result ≡ shifted c.args.self.now c.args.offset
next_is g c = grind (arith, to_z-of_z)

pub returns-then-not-accepts-clause-ranks : goal.returns-then-not-accepts-clause-ranks
returns-then-not-accepts-clause-ranks g c = λ ranks rank is at e more.
    let turned : to_z w8 (of_z w8 c.args.offset) ≡ c.args.offset = omega (arith, ints, c.ranges.offset) in
    let accepts = ranks_accepted g.row.W _ ranks rank _ c.accepts.ensures.valid.is_width at e more in
    false≢true (sym c.if-not-accepts.true
    ∙ c.accepts.ensures.accepts.1 (subst (Accepts c.args.self.now) (sym turned) accepts))

pub returns-clause-next_valid : goal.returns-clause-next_valid
returns-clause-next_valid g c = subst (IsWindow g.row.W) (sym (next_is g c))
    ((lead_on g.row.W c.accepts.ensures.valid.is_width).stays _ _ c.accepts.ensures.valid
    (record { low = c.requires.low; high = c.requires.high }) (can g c))

pub returns-clause-ranks : goal.returns-clause-ranks
returns-clause-ranks g c = λ ranks rank is at e.
    let more = accepted_ranks g.row.W c.args.self.now ranks rank c.args.offset c.accepts.ensures.valid.is_width
    c.requires.low c.requires.high is at e (can g c) in
    (more.0, next_is g c ∙ more.1)
