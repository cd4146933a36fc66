-- One more line of the text, and a line at which it fails.
use Rattle.std.proofs.Common.{rules, ◌≡◌, ℕ, ◌<◌, length, List, [], ◌∷◌, Ok, Err, refl}
use Rattle.certificate.specs.declared.certificate.Claim.{Claim}
use Rattle.certificate.specs.declared.fault.CertFault.{CertFault}
use Rattle.certificate.specs.Reading.{Body, line_in, lines_in}

pub line_stop : (n : ℕ) (c : Claim) (b : Body) (line : List ℕ) (e : CertFault) (rest : List (List ℕ)) (next : List ℕ)
    → line_in n b line ≡ Err e → lines_in n c b line (next ∷ rest) ≡ Err e
unfolding lines_in
line_stop n c b line e rest next h = rw h refl

pub line_stop_all : (n : ℕ) (c : Claim) (b : Body) (line : List ℕ) (e : CertFault) (rest : List (List ℕ))
    → 0 < length rest → line_in n b line ≡ Err e → lines_in n c b line rest ≡ Err e
line_stop_all n c b line e [] some h = search rules
line_stop_all n c b line e (next ∷ rest) some h = line_stop n c b line e rest next h

pub line_end : (n : ℕ) (c : Claim) (b : Body) (line : List ℕ) → length line ≡ 0
    → lines_in n c b line [] ≡ Ok (record { claim = c; landings = b.0; states = b.1 })
unfolding lines_in
line_end n c b line e = rw e refl
