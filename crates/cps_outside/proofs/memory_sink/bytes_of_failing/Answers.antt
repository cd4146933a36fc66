use Rattle.std.proofs.Common.{rules, tests, ◌≡◌, ℕ, List, [], ◌∷◌, refl}
use Rattle.std.specs.Prelude.{◌==◌, find, option_map}
use Rattle.std.proofs.lemmas.Iterator.{YieldsList-from_slice}
use Rattle.std.proofs.lemmas.Iterator.Search.{find_from_yields_List}
use Rattle.cps_outside.specs.FailingPuts.{bytes_of_failing}
use Rattle.cps_outside.proofs.memory_sink.bytes_of_failing.Goals as goal

first_listed : (put : ℕ) (xs : List (ℕ × ℕ))
    → option_map (λ (e : ℕ × ℕ). e.1) (find (λ e. e.0 == put) xs) ≡ bytes_of_failing xs put
first_listed put [] = refl
first_listed put (x ∷ xs) = let rest = first_listed put xs in search (rules, tests)

pub returns-in_err-entry : goal.returns-in_err-entry
returns-in_err-entry c =
    let found = find_from_yields_List (λ (e : ℕ × ℕ). e.0 == c.args.put) _ _ c.find.result c.find.ensures.ran
    (YieldsList-from_slice c.args.failing.now (cc)) (λ x b q k. search (rules, tests)) in
    let is = first_listed c.args.put c.args.failing.now in
    search (rules)

pub returns : goal.returns
returns c =
    let found = find_from_yields_List (λ (e : ℕ × ℕ). e.0 == c.args.put) _ _ c.find.result c.find.ensures.ran
    (YieldsList-from_slice c.args.failing.now (cc)) (λ x b q k. search (rules, tests)) in
    let is = first_listed c.args.put c.args.failing.now in
    search (rules)
