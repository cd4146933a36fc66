use Rattle.std.proofs.Common.{ℕ, List, length, sym, subst, ap, ◌∙◌, reverse}
use Rattle.std.specs.Prelude.{All}
use Rattle.cps_theory.specs.RankLists.{IsRank, of_rank}
use Rattle.cert_check.specs.WholeLaws.{landings_in}
use Rattle.cert_writer.proofs.AnswerLemmas.{reversed_ranks, landings_are}
use Rattle.cert_writer.proofs.answer.landings_of.Goals as goal

pub landings_in-requires-clause-ranks : goal.landings_in-requires-clause-ranks
landings_in-requires-clause-ranks c =
    let n = length c.args.schedule.now in
    subst (λ (m : ℕ). All (IsRank m) c.as_slice.result.now) c.requires.best.feasible.one_each
    (subst (λ (l : List ℕ). All (IsRank n) l)
    (sym (c.as_slice.ensures.value ∙ c.reverse.ensures.items ∙ ap reverse c.in_ok-order.ensures))
    (reversed_ranks (of_rank 0 c.args.schedule.now) n))

pub returns-clause-listed : goal.returns-clause-listed
returns-clause-listed c =
    landings_are c.args.problem.now c.len-well_formed.ensures.well_formed c.args.schedule.now c.requires.best.feasible
    c.in_ok-landings.landings.items (length c.args.schedule.now) c.requires.best.feasible.one_each
    (c.in_ok-landings.ensures.listed ∙ ap (landings_in c.args.problem.now c.args.schedule.now)
    (c.as_slice.ensures.value ∙ c.reverse.ensures.items ∙ ap reverse c.in_ok-order.ensures))
