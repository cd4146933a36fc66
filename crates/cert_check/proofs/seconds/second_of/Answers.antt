-- What is found, as the definition finds it.
use Rattle.std.proofs.Common.{rules, tests, ◌≡◌, ◌≤◌, ℕ, List, [], ◌∷◌, refl, ap, ◌∙◌, arith}
use Rattle.std.specs.Prelude.{find, option_map, unwrap_or, bytes_eq}
use Rattle.std.proofs.lemmas.Iterator.{YieldsList-from_slice}
use Rattle.std.proofs.lemmas.Iterator.Search.{find_from_yields_List}
use Rattle.certificate.specs.Reading.{AreLandings}
use Rattle.cert_check.specs.Landings.{Landings, second_of}
use Rattle.cert_check.proofs.seconds.second_of.Goals as goal
use Rattle.landing_rules.specs.Rules.{last_second}

looked_up : (name : List ℕ) (ls : Landings) → AreLandings ls
    → (unwrap_or (option_map (λ l. l.1) (find (λ l. bytes_eq l.0 name) ls)) 0 ≡ second_of ls name)
    × (second_of ls name ≤ last_second)
looked_up name [] good = (refl, omega arith)
looked_up name (l ∷ ls) good = let rest = looked_up name ls good.2 in grind arith

pub returns : goal.returns
returns c =
    let is = looked_up c.args.name c.args.landings.now c.requires in
    let same : c.map_or.result ≡ second_of c.args.landings.now c.args.name =
    search (rules) ∙ ap (λ o. unwrap_or (option_map (λ (l : List ℕ × ℕ). l.1) o) 0)
    (find_from_yields_List (λ (l : List ℕ × ℕ). bytes_eq l.0 c.args.name) _ _ c.find.result
    c.find.ensures.ran (YieldsList-from_slice c.args.landings.now (cc)) (λ x b q k. search (rules, tests))) ∙ is.0 in
    record { value = same; small = omega (arith, is.1) }
