-- What is printed and what is answered of a plan that is shown.
use Rattle.std.proofs.Common.{◌≡◌, ◌∙◌, ◌++◌, ℕ, List, [], Bool, Option, None, Some, refl, sym, ap, ap₂}
use Rattle.std.specs.Prelude.{is_some, option_map}
use Rattle.openings.specs.Plan.{answer_by, answer_of}
use Rattle.endings.specs.declared.ending.Answer.{Answer}
use Rattle.landing_rules.specs.Flights.{Schedule}

mapped : {A B : Type 0} (f : A → B) (x : Option A) → is_some (option_map f x) ≡ is_some x
mapped f None = refl
mapped f (Some x) = refl

-- A plan is shown where one stands: what is shown in either way tells whether there is one.
pub answers : {A B : Type 0}
    (f : A → B) (g : Schedule → B) (shown : Option A) (plan : Option Schedule) (found : Bool) (answer : Answer) →
    answer ≡ answer_by found → found ≡ is_some shown → option_map f shown ≡ option_map g plan → answer ≡ answer_of plan
answers f g shown plan found answer by is same =
    by ∙ ap answer_by (is ∙ sym (mapped f shown) ∙ ap is_some same ∙ mapped g plan)

-- A text of an objective and a plan, appended to none, is that of what these are.
pub printed : {A B : Type 0} (text : A → B → List ℕ) (before after : List ℕ) (a a2 : A) (b b2 : B)
    → after ≡ before ++ text a b → before ≡ [] → a ≡ a2 → b ≡ b2 → after ≡ text a2 b2
printed text before after a a2 b b2 appended none one other =
    appended ∙ ap (λ start. start ++ text a b) none ∙ ap₂ text one other
