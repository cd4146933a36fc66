-- The first key that the part does not have decides.
use Rattle.std.proofs.Common.{Bool, inl, inr, rules, tests, ◌≡◌, ◌∷◌, [], ℕ, List, String, Global, Option, Some, None}
use Rattle.std.proofs.Common.{Ok, Err, Result, refl}
use Rattle.std.specs.Prelude.{find, not, string_bytes}
use Rattle.std.proofs.lemmas.Iterator.Consumers.{YieldsList-from_rest}
use Rattle.std.proofs.lemmas.Iterator.Search.{find_from_yields_List}
use Rattle.std.proofs.lemmas.Bool.{cases_Bool}
use Rattle.toml.specs.View.{members_view}
use Rattle.toml.specs.declared.value.Value.{Value}
use Rattle.aerodrome_file.specs.declared.fault.AeroFault.{AeroFault}
use Rattle.aerodrome_file.specs.declared.fault.AeroFault.TheVariants as fault
use Rattle.aerodrome_file.specs.declared.fault.Part.{Part}
use Rattle.aerodrome_file.specs.Keys.{is_known, only_in}
use Rattle.aerodrome_file.specs.KeyText.{key_text}
use Rattle.aerodrome_file.proofs.keys.only_in.Goals as goal

abbrev is_unknown : ℕ → Part → String Global × Value → Bool
is_unknown v p m = not (is_known v p (string_bytes m.0))

abbrev answer : Part → Option (String Global × Value) → Result (Unit {0}) AeroFault
answer p None = Ok tt
answer p (Some m) = Err (fault.UnknownKey p (key_text (string_bytes m.0)))

decided : (v : ℕ) (p : Part) (ms : List (String Global × Value))
    → answer p (find (is_unknown v p) ms) ≡ only_in v p (members_view ms)
unfolding only_in
decided v p [] = refl
decided v p (m ∷ ms) = elim (cases_Bool (is_known v p (string_bytes m.0))) [
  | inl known ↦
      rw known (decided v p ms)
  | inr unknown ↦ rw unknown refl
]

pub returns-in-Some : goal.returns-in-Some
returns-in-Some c =
    let found = find_from_yields_List (is_unknown c.args.version c.args.part) _ _ c.find-unknown.result
    c.find-unknown.ensures.ran (YieldsList-from_rest c.args.table.now.entries (cc))
    (λ x b q k. search (rules, tests)) in
    let is = decided c.args.version c.args.part c.args.table.now.entries in
    search (rules)

pub returns-in-None : goal.returns-in-None
returns-in-None c =
    let found = find_from_yields_List (is_unknown c.args.version c.args.part) _ _ c.find-unknown.result
    c.find-unknown.ensures.ran (YieldsList-from_rest c.args.table.now.entries (cc))
    (λ x b q k. search (rules, tests)) in
    let is = decided c.args.version c.args.part c.args.table.now.entries in
    search (rules)
