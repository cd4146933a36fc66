use Rattle.std.proofs.Common.{rules, tests, ◌≡◌, List, [], ◌∷◌, ℕ, refl, String, Vec, Global}
use Rattle.std.specs.Prelude.{find, option_map, bytes_eq, string_bytes}
use Rattle.std.proofs.lemmas.Iterator.{YieldsList-from_slice}
use Rattle.std.proofs.lemmas.Iterator.Search.{find_from_yields_List}
use Rattle.cps_outside.specs.MemoryFolder.{content_in}
use Rattle.cps_outside.proofs.memory_folder.content_of.Goals as goal

first_named : (name : List ℕ) (files : List (String Global × Vec ℕ Global))
    → option_map (λ f. f.1.items) (find (λ f. bytes_eq (string_bytes f.0) name) files) ≡ content_in files name
first_named name [] = refl
first_named name (file ∷ files) = let rest = first_named name files in search (rules, tests)

pub returns-in_err-file-clause-absent : goal.returns-in_err-file-clause-absent
returns-in_err-file-clause-absent c =
    let found = find_from_yields_List (λ f. bytes_eq (string_bytes f.0) c.args.name.now) _
    _ c.find.result c.find.ensures.ran (YieldsList-from_slice c.args.files.now (cc))
    (λ x b q k. search (rules, tests)) in
    let is = first_named c.args.name.now c.args.files.now in
    search (rules)

pub returns-clause-found : goal.returns-clause-found
returns-clause-found c =
    let found = find_from_yields_List (λ f. bytes_eq (string_bytes f.0) c.args.name.now) _
    _ c.find.result c.find.ensures.ran (YieldsList-from_slice c.args.files.now (cc))
    (λ x b q k. search (rules, tests)) in
    let is = first_named c.args.name.now c.args.files.now in
    search (rules)
