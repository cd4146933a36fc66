use Rattle.std.specs.Prelude.{[], ◌∷◌, ◌++◌}
use Rattle.situations.specs.Opened.{opened}
use Rattle.whatif.proofs.ClosureLemmas.{fewer_is_no_worse, none_shuts_no_more, inner_shuts_no_more}
use Rattle.whatif.proofs.laws.closure_gives_no_better_outcome.Goals as goal

pub returns-clause-none : goal.returns-clause-none
returns-clause-none c = λ a fs from to x y accepted hx hy. fewer_is_no_worse (opened a fs)
    ((opened a fs).closures ++ (from, to) ∷ []) (opened a fs).closures
    (none_shuts_no_more (opened a fs).closures (from, to)) x y
    (rw accepted at hx) hy

pub returns-clause-inner : goal.returns-clause-inner
returns-clause-inner c = λ a fs from to first end x y low high accepted inside hx hy.
    fewer_is_no_worse (opened a fs) ((opened a fs).closures ++ (from, to) ∷ []) ((opened a fs).closures
    ++ (first, end) ∷ []) (inner_shuts_no_more (opened a fs).closures first end from to low high) x y
    (rw accepted at hx) (rw inside at hy)
