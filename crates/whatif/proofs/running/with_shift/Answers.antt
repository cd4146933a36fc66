use Rattle.std.proofs.Common.{sym, ◌∙◌}
use Rattle.whatif.proofs.ShiftLemmas.{shifted_opens, shifted_outcome}
use Rattle.whatif.proofs.running.with_shift.Goals as goal

pub unchanged-requires : goal.unchanged-requires
unchanged-requires c = shifted_opens c.args.aerodrome.now c.args.flights.now c.args.k c.requires.few
    (sym c.shift_refusal.ensures ∙ c.in_default.is) c.in_ok-other.other c.in_ok-other.ensures c.requires.opens

pub returns : goal.returns
returns c = shifted_outcome c.args.aerodrome.now c.args.flights.now c.args.k c.requires.few
    (sym c.shift_refusal.ensures ∙ c.in_default.is) c.in_ok-other.other c.in_ok-other.ensures
    c.unchanged.result c.unchanged.ensures
