use Rattle.std.proofs.Common.{arith, ◌/◌}
use Rattle.std.specs.Prelude.{IsTrue, ◌↔◌, nat_eq}
use Rattle.cps_nodes.specs.Digits.{offsets_of}
use Rattle.cps_nodes.specs.Leads.{TailMeetsHead}
use Rattle.cps_nodes.proofs.DigitTests.{meets_tested}
use Rattle.cps_nodes.proofs.LeadsLemmas.{TailMeetsHead-from_Extends, Extends-from_TailMeetsHead}
use Rattle.cps_nodes.proofs.window.Window.leads_to.Goals as goal

-- what the comparison of the numbers says
meets : (g : _) (c : goal.After-next g) → IsTrue (nat_eq c.tail_of.result (c.next.inside.digits / 16))
    ↔ TailMeetsHead (offsets_of g.row.W c.self.inside.digits) (offsets_of g.row.W c.next.inside.digits)
meets g c = grind (arith, meets_tested, c.next.invariant.few)

pub returns-clause-lists : goal.returns-clause-lists
returns-clause-lists g c = rw (← c.self.view_is, ← c.next.view_is) (meets g c)

pub returns-clause-extends : goal.returns-clause-extends
returns-clause-extends g c = rw (← c.self.view_is, ← c.next.view_is) (
  λ t. Extends-from_TailMeetsHead g.row.W _ _ c.self.invariant.window c.next.invariant.window ((meets g c).0 t),
  λ e. (meets g c).1 (TailMeetsHead-from_Extends _ _ e),
)
