-- The laws of windows, put together.
use Rattle.std.proofs.Common.{ℕ, ◌/◌, subst}
use Rattle.std.specs.Prelude.{pos, ◌+ℤ◌}
use Rattle.cps_nodes.specs.Laws.{LeadOn}
use Rattle.cps_nodes.specs.Windows.{IsWidth, HoldsRank, shifted}
use Rattle.cps_nodes.proofs.LeadsLemmas.{Extends-from_TailMeetsHead, TailMeetsHead-from_Extends}
use Rattle.cps_nodes.proofs.TailLemmas.{GoOnAlike-same_tail}
use Rattle.cps_nodes.proofs.WindowLemmas.{IsWindow-source, IsWindow-shifted}

pub lead_on : (w : ℕ) → IsWidth w → LeadOn w
lead_on w wide = record {
  source = IsWindow-source w wide;
  stays = λ xs offset is within can. IsWindow-shifted w xs offset is within.low within.high
      (subst (λ (n : ℕ). HoldsRank xs (pos n +ℤ offset) → ⊥) is.len can.fresh)
      (subst (λ (n : ℕ). HoldsRank (shifted xs offset) (pos (n / 2))) is.len can.due);
  meets = λ xs ys a b. (TailMeetsHead-from_Extends xs ys, Extends-from_TailMeetsHead w xs ys a b);
  alike = λ xs ys a b. GoOnAlike-same_tail w xs ys a b;
}
