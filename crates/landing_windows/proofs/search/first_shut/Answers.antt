-- One closure more: it is shut at its first second from `start` on, and no earlier one.
use Rattle.std.proofs.lemmas.Grind.{common_steps}
use Rattle.std.proofs.Common.{rules, tests, ◌≡◌, ◌++◌, ◌∷◌, [], ℕ, List, max, min, arith, if◌then◌else◌, subst}
use Rattle.std.specs.Prelude.{nat_lt}
use Rattle.std.proofs.iter.Yields.{fronts}
use Rattle.std.proofs.lemmas.Fn.{fold_over, slice_gives}
use Rattle.landing_rules.specs.Flights.{Span}
use Rattle.landing_windows.specs.Spans.{IsFirstShut}
use Rattle.landing_windows.proofs.search.first_shut.Goals as goal

abbrev earlier_of : ℕ → ℕ → Span → ℕ
earlier_of start least x = if nat_lt (max start x.0) x.1 then min (max start x.0) least else least

one_more : (start most : ℕ) (xs : List Span) (least : ℕ) (x : Span) (next : ℕ) → next ≡ earlier_of start least x
    → IsFirstShut xs start most least → IsFirstShut (xs ++ (x ∷ [])) start most next
one_more start most xs least x next is h = grind (arith, common_steps)

pub returns : goal.returns
returns c =
    let all : c.iter.result.rest.now ≡ c.args.closures.now = cc in
    subst (λ xs. IsFirstShut xs c.args.start c.args.most c.fold.result) all
    (fold_over fronts (λ y. y.now) _ (λ xs least. IsFirstShut xs c.args.start c.args.most least) _
    (λ xs least x next f held k. (
      one_more c.args.start c.args.most xs least x.now next
          (search (rules, tests)) held,
      search (rules, tests),
    ))
    _ _ _ _ (slice_gives c.iter.result)
    (record { after = c.requires; within = omega arith; least = λ u a b. cc; shut = λ lt. absurd (omega arith) })
    c.fold.ensures.ran)
