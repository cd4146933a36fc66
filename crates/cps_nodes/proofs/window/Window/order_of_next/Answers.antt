use Rattle.std.proofs.Common.{◌≡◌, ℕ, zero, suc, ◌-◌, refl, drop, arith}
use Rattle.cps_nodes.specs.Digits.{offsets_of, number-offsets_of}
use Rattle.cps_nodes.proofs.window.Window.order_of_next.Goals as goal

-- the offsets from the third on are those of the lower digits
later_offsets : (width number : ℕ) → drop 2 (offsets_of width number) ≡ offsets_of (width - 2) number
later_offsets zero number = refl
later_offsets (suc zero) number = refl
later_offsets (suc (suc width)) number = grind arith

pub returns : goal.returns
returns g c = grind (arith, later_offsets, number-offsets_of)
