-- What a text is read as keeps the ranges and the order.
use Rattle.std.proofs.Common.{rules, ◌≡◌, ℕ, suc, ◌+◌, ◌-◌, ◌<◌, ◌≤◌, Bool, true, cond, List, [], ◌∷◌, ◌++◌}
use Rattle.std.proofs.Common.{length, Option, Some, None, Result, Ok, Err, arith, length-append}
use Rattle.std.specs.Prelude.{option_map, option_and_then}
use Rattle.std.specs.List.{list_all}
use Rattle.std.proofs.lemmas.Grind.{common_steps}
use Rattle.cps_base.specs.Limits.{greatest_word}
use Rattle.cps_base.specs.Answers.{◌>>=◌}
use Rattle.cps_base.specs.Number.{number_within}
use Rattle.cps_base.specs.Text.{is_callsign}
use Rattle.landing_rules.specs.Rules.{last_second}
use Rattle.texts.specs.Parts.{number_in, parts}
use Rattle.certificate.specs.declared.certificate.Claim.{Claim}
use Rattle.certificate.specs.declared.fault.CertFault.{CertFault}
use Rattle.certificate.specs.Patterns.{is_pattern_length}
use Rattle.certificate.specs.States.{Pair, State, IsState, is_pair, follows, AreStates, AreAscending}
use Rattle.certificate.specs.Lines.{pattern_in, pair_in, pairs_in, state_from, state_by, state_in, landing_by}
use Rattle.certificate.specs.Lines.{landing_in}
use Rattle.certificate.specs.Reading.{Cert, IsClaim, AreLandings, IsCertificate, Body, line_in, lines_in, body_lines}
use Rattle.certificate.specs.shared.PartsKept.{landings_more}

pub then_some : {A B : Type 0} (o : Option A) (f : A → Option B) (y : B) → option_and_then f o ≡ Some y
    → (x : A) × (o ≡ Some x) × (f x ≡ Some y)
then_some o f y e = grind arith

pub map_some : {A B : Type 0} (o : Option A) (f : A → B) (y : B) → option_map f o ≡ Some y
    → (x : A) × (o ≡ Some x) × (f x ≡ y)
map_some o f y e = grind arith

-- a test that let a value through
pub passed_then : {A : Type 0} (b : Bool) (o : Option A) (y : A) → cond b o None ≡ Some y → (b ≡ true) × (o ≡ Some y)
passed_then b o y e = grind arith

pub number_range : (text : List ℕ) (least most n : ℕ) → number_in text least most ≡ Some n → (least ≤ n) × (n ≤ most)
unfolding number_in number_within
number_range text least most n e = search rules

pub pattern_size : (text : List ℕ) (ds : List Bool) → pattern_in text ≡ Some ds → is_pattern_length (length ds) ≡ true
unfolding pattern_in
pattern_size text ds e = grind (arith, common_steps)

pub pair_range : (text : List ℕ) (p : Pair) → pair_in text ≡ Some p → is_pair p ≡ true
unfolding pair_in
pair_range text p e = search (rules, number_range)

pub pairs_range : (ps : List (List ℕ)) (xs : List Pair) → pairs_in ps ≡ Some xs → list_all is_pair xs ≡ true
unfolding pairs_in
pairs_range [] xs e = cc
pairs_range (p ∷ ps) xs e =
    let more = map_some (pairs_in ps) _ xs (then_some (pair_in p) _ xs e).2 in search
    (rules, pair_range, pairs_range ps more.0 more.1)

state_from_range : (stage pattern last : List ℕ) (pairs : List (List ℕ)) (s : State)
    → state_from stage pattern last pairs ≡ Some s → IsState s
unfolding state_from
state_from_range stage pattern last pairs s e = search (rules, number_range, pattern_size, pairs_range)

pub state_range : (line : List ℕ) (s : State) → state_in line ≡ Some s → IsState s
unfolding state_in state_by
state_range line s e = go (parts 32 line) e
  where
    go : (fields : List (List ℕ)) → state_by fields ≡ Some s → IsState s
    go (word ∷ stage ∷ pattern ∷ last ∷ pairs) e = state_from_range stage pattern last pairs s (passed_then _ _ s e).1
    go fields e = absurd cc

pub landing_range : (line : List ℕ) (l : List ℕ × ℕ) → landing_in line ≡ Some l
    → (is_callsign l.0 ≡ true) × (l.1 ≤ last_second)
unfolding landing_in landing_by
landing_range line l e = search (rules, number_range)

-- ---- one more

states_more : (ss : List State) (s : State) → AreStates ss → IsState s → AreStates (ss ++ s ∷ [])
states_more [] s h p = (p, tt)
states_more (x ∷ xs) s h p = (h.0, states_more xs s h.1 p)

ascending_more : (ss : List State) (s : State) → AreAscending ss → follows ss s ≡ true → AreAscending (ss ++ s ∷ [])
ascending_more [] s h f = tt
ascending_more (a ∷ []) s h f = (f, tt)
ascending_more (a ∷ b ∷ rest) s h f = (h.0, ascending_more (b ∷ rest) s h.1 (last_is f))
  where
    last_is : follows (a ∷ b ∷ rest) s ≡ true → follows (b ∷ rest) s ≡ true
    last_is f = let e : length (a ∷ b ∷ rest) - 1 ≡ suc (length (b ∷ rest) - 1) =
        omega arith in cc

record IsBody (b : Body) : Type 0 where
  landings : AreLandings b.0
  states : AreStates b.1
  ascending : AreAscending b.1

pub bind_ok : {A B : Type 0} (r : Result A CertFault) (f : A → Result B CertFault) (y : B)
    → (r >>= f) ≡ Ok y → (x : A) × (r ≡ Ok x) × (f x ≡ Ok y)
bind_ok r f y e = grind arith

pub done : {A : Type 0} (b : Bool) (x y : A) (f : CertFault) → cond b (Ok x) (Err f) ≡ Ok y → (b ≡ true) × (x ≡ y)
done b x y f e = grind arith

-- one line adds one landing or one state, and keeps the order
line_keeps : (n : ℕ) (b : Body) (line : List ℕ) (b' : Body) → line_in n b line ≡ Ok b' → IsBody b
    → IsBody b' × (length b'.1 ≤ suc (length b.1))
unfolding line_in
line_keeps n b line b' e h = search
    (rules, landing_range, landings_more, states_more, state_range, ascending_more, length-append)

lines_keep : (n : ℕ) (c : Claim) (b : Body) (line : List ℕ) (rest : List (List ℕ)) (x : Cert)
    → IsClaim c → IsBody b → length b.1 + length rest < greatest_word → lines_in n c b line rest ≡ Ok x
    → IsCertificate x
unfolding lines_in
lines_keep n c b line [] x is h few e = search rules
lines_keep n c b line (next ∷ rest) x is h few e =
    let more = bind_ok (line_in n b line) _ x e in
    let k = line_keeps n b line more.0 more.1 h in
    lines_keep (n + 1) c more.0 next rest x is k.0 (omega (arith, k.1)) more.2

-- what is read is a certificate
pub body_is : (c : Claim) (rest : List (List ℕ)) (x : Cert) → IsClaim c → length rest ≤ greatest_word
    → body_lines c rest ≡ Ok x → IsCertificate x
body_is c [] x is few e = absurd cc
body_is c (line ∷ rest) x is few e =
    lines_keep 3 c ([], []) line rest x is (record { landings = tt; states = tt; ascending = tt }) (omega arith) e
