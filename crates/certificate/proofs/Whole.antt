-- A whole certificate that is printed reads back.
use Rattle.std.proofs.Common.{rules, ◌≡◌, ℕ, suc, ◌+◌, ◌-◌, ◌≤◌, true, List, [], ◌∷◌, ◌++◌, length, map, Result, Ok}
use Rattle.std.proofs.Common.{Err, refl, sym, subst, arith, append_assoc}
use Rattle.std.proofs.lemmas.List.{append-nil}
use Rattle.certificate.specs.declared.certificate.Claim.{Claim}
use Rattle.certificate.specs.declared.fault.CertFault.{CertFault}
use Rattle.certificate.specs.declared.fault.CertFault.TheVariants as fault
use Rattle.certificate.specs.States.{State, IsState, follows, AreStates, AreAscending}
use Rattle.certificate.specs.Reading.{Cert, AreLandings, Body, line_in, lines_in}
use Rattle.certificate.specs.Spelling.{state_text, landing_text}
use Rattle.certificate.proofs.Again.{state_reads, landing_reads, landing_no_state}

abbrev Lines : Type 0
Lines = List (List ℕ)

-- the lines from line n on, the last of them empty
abbrev pub lines_all : ℕ → Claim → Body → Lines → Result Cert CertFault
lines_all n c b [] = Err (fault.Line n)
lines_all n c b (line ∷ rest) = lines_in n c b line rest

more : (n : ℕ) (c : Claim) (b b' : Body) (line : List ℕ) (rest : Lines) → 1 ≤ length rest → line_in n b line ≡ Ok b'
    → lines_in n c b line rest ≡ lines_all (n + 1) c b' rest
unfolding lines_in
more n c b b' line rest some e = grind arith

after_last : (pre : List State) (s : State) (ss : List State) → AreAscending (pre ++ s ∷ ss) → follows pre s ≡ true
after_last [] s ss h = refl
after_last (a ∷ []) s ss h = h.0
after_last (a ∷ b ∷ rest) s ss h = let e : length (a ∷ b ∷ rest) - 1 ≡ suc (length (b ∷ rest) - 1) =
    omega arith in cc (after_last (b ∷ rest) s ss h.1)

state_line : (n : ℕ) (ls : List (List ℕ × ℕ)) (pre : List State) (s : State) → IsState s → follows pre s ≡ true
    → line_in n (ls, pre) (state_text s) ≡ Ok (ls, pre ++ s ∷ [])
unfolding line_in
state_line n ls pre s h f = cc (state_reads s h)

landing_line : (n : ℕ) (ls : List (List ℕ × ℕ)) (l : List ℕ × ℕ) → AreLandings (l ∷ [])
    → line_in n (ls, []) (landing_text l) ≡ Ok (ls ++ l ∷ [], [])
unfolding line_in
landing_line n ls l h = search (rules, landing_no_state, landing_reads)

states_back : (n : ℕ) (c : Claim) (ls : List (List ℕ × ℕ)) (pre ss : List State) → AreStates ss
    → AreAscending (pre ++ ss) → lines_all n c (ls, pre) (map state_text ss ++ [] ∷ []) ≡ Ok
    (record { claim = c; landings = ls; states = pre ++ ss })
unfolding lines_in
states_back n c ls pre [] h a = search rules
states_back n c ls pre (s ∷ ss) h a = search (
  rules,
  state_line,
  after_last,
  append_assoc,
  states_back (n + 1) c ls (pre ++ s ∷ []) ss h.1
      (subst AreAscending (sym (append_assoc pre (s ∷ []) ss)) a),
)

-- the lines of the landings and of the states give them back
pub body_back : (n : ℕ) (c : Claim) (pre ls : List (List ℕ × ℕ)) (ss : List State) → AreLandings ls
    → AreStates ss → AreAscending ss
    → lines_all n c (pre, []) (map landing_text ls ++ (map state_text ss ++ [] ∷ [])) ≡ Ok
    (record { claim = c; landings = pre ++ ls; states = ss })
body_back n c pre [] ss hl h a = simp (states_back, append-nil)
body_back n c pre (l ∷ ls) ss hl h a = search
    (rules, more, append_assoc, landing_line, body_back (n + 1) c (pre ++ l ∷ []) ls ss hl.2 h a)
