use Rattle.std.proofs.Common.{length, subst, sym}
use Rattle.replan.specs.WindowNodes.{ArePutTogether}
use Rattle.replan.proofs.MovedNodes.{together_moved}
use Rattle.replan.proofs.window_nodes.together_again.Goals as goal

pub returns-then-have_one_list-clause-together : goal.returns-then-have_one_list-clause-together
returns-then-have_one_list-clause-together g c =
    let s = c.args.stage.now in
    let o = c.args.other.now in
    let former = c.args.former.now in
    let yes = c.if-have_one_list.true in
    let same = c.have_one_list.ensures.same yes in
    let shared = c.in_ok-nodes.ensures in
    let valid = c.windows-valid.ensures.valid in
    let at = subst (λ windows. ArePutTogether o.0 windows
    (length windows) former.places former.firsts) (sym same) c.requires.former in
    let moved = together_moved g.row.W o.0 s.0 s.1 former.places former.firsts valid
    (c.have_one_list.ensures.other_near yes) (c.have_one_list.ensures.near yes) at in
    rw shared moved
