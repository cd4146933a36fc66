use Rattle.std.proofs.Common.{◌≡◌, ◌-◌, length, sym, ap, ◌∙◌}
use Rattle.cps_network.specs.Pairs.{pair_at}
use Rattle.first_best.proofs.PairLemmas.{last_most}
use Rattle.first_best.proofs.pairs.PairList.latest.Goals as goal

pub returns : goal.returns
returns c = λ q i.
    let xs = c.args.self.now in
    let at : pair_at xs (length xs - 1) ≡ c.pair.result =
    ap (λ n. pair_at xs (n - 1)) (sym c.len-len.ensures) ∙ sym c.pair.ensures in
    rw at at (last_most xs c.requires q i)
