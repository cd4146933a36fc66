use Rattle.std.proofs.Common.{List, [], arith, rules, length, subst}
use Rattle.std.specs.Prelude.{ℤ}
use Rattle.cps_network.specs.Extended.{Follows, HasGrownBy}
use Rattle.cps_network.specs.Permits.{IsNextOf}
use Rattle.cps_network.proofs.LayerLemmas.{next_valid}
use Rattle.cps_network.proofs.LinkLemmas.{no_places}
use Rattle.cps_network.proofs.NextLemmas.{all_extendable, gathered_is_next}
use Rattle.cps_network.proofs.next.next_windows.Goals as goal

pub gather-requires : goal.gather-requires
gather-requires g c =
    let each = all_extendable c.args.problem.now c.args.stage g.row.W _ c.requires.width _ c.requires.groups in
    let none = no_places c.args.before.now c.args.groups.now _ _ c.in_ok-gathered.ensures.windows
    c.in_ok-gathered.ensures.places in
    search (rules, arith)

-- the windows gathered are those of the next stage
next_is : (g : _) (c : goal.In_ok-gather g)
    → IsNextOf c.args.problem.now c.args.stage c.args.before.now c.gather.new.gathered.windows.items
next_is g c =
    let grown : HasGrownBy (Follows g.row.W c.args.before.now c.args.groups.now) 0 (length c.args.groups.now) []
    c.gather.new.gathered.windows.items =
    subst (λ (start : List (List ℤ)). HasGrownBy (Follows g.row.W c.args.before.now c.args.groups.now) 0
    (length c.args.groups.now) start c.gather.new.gathered.windows.items) c.in_ok-gathered.ensures.windows
    c.in_ok-gather.ensures.members in
    gathered_is_next c.args.problem.now c.args.stage g.row.W _ c.requires.width _ _ c.window_laws.ensures.leads
    c.requires.valid c.requires.groups grown

pub returns-clause-exact : goal.returns-clause-exact
returns-clause-exact g c = next_is g c

pub returns-clause-valid : goal.returns-clause-valid
returns-clause-valid g c =
    next_valid _ _ g.row.W _ _ c.requires.width c.window_laws.ensures.leads c.requires.valid (next_is g c)
