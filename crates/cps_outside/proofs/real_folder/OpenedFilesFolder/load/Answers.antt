-- What was read tells whether there was more.
use Rattle.std.proofs.Common.{◌≡◌, ℕ, ◌+◌, ◌<◌, ◌≤◌, min, List, length, Some, sym, ap, ◌∙◌, arith, rules}
use Rattle.std.specs.Prelude.{IsTrue}
use Rattle.std.proofs.lemmas.List.{take_all, length-take}
use Rattle.cps_outside.specs.OpenerState.{OpenerState, ReadsFront}
use Rattle.cps_outside.proofs.real_folder.OpenedFilesFolder.load.Goals as goal

whole : (old : OpenerState) (name : List ℕ) (most : ℕ) (bytes : List ℕ) → length bytes ≤ most
    → ReadsFront old name most bytes →
    IsTrue old.tells → old.content name ≡ Some bytes
whole old name most bytes short front told =
    let (all, is, e) = front told in
    let long : length bytes ≡ min (most + 1) (length all) = ap length e ∙ length-take (most + 1) all in
    is ∙ ap Some (sym (e ∙ take_all (most + 1) all (omega (arith, long, short))))

longer : (old : OpenerState) (name : List ℕ) (most : ℕ) (bytes : List ℕ) → most < length bytes
    → ReadsFront old name most bytes →
    IsTrue old.tells → (all : List ℕ) × (old.content name ≡ Some all) × (most < length all)
longer old name most bytes long front told =
    let (all, is, e) = front told in
    let cut : length bytes ≡ min (most + 1) (length all) = ap length e ∙ length-take (most + 1) all in
    (all, is, omega (arith, cut, long))

pub returns-then-len-most-clause-too_long : goal.returns-then-len-most-clause-too_long
returns-then-len-most-clause-too_long g c = λ _. record {
  counted = search rules;
  told = longer (g.O.Opener.state c.args.self.now.opener) c.args.name.now c.args.most c.in-Ok.bytes.items
      (search rules) c.in-Ok.ensures.front;
}

pub returns-else-len-most-clause-ok : goal.returns-else-len-most-clause-ok
returns-else-len-most-clause-ok g c = record {
  bounded = search rules;
  counted = search rules;
  told = whole (g.O.Opener.state c.args.self.now.opener) c.args.name.now c.args.most c.in-Ok.bytes.items
      (search rules) c.in-Ok.ensures.front;
}
