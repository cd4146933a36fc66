-- The words of the line that says why a file is not a certificate.
use Rattle.std.specs.Prelude.{ℕ, List, [], ◌∷◌, codes, decimal}
use Rattle.certificate.specs.declared.fault.CertFault.{CertFault}
use Rattle.certificate.specs.declared.fault.CertFault.TheVariants.{Line, Order, Memory}

abbrev pub certificate_words : CertFault → List (List ℕ)
certificate_words (Line n) = codes "line" ∷ decimal n ∷ []
certificate_words (Order n) = codes "order" ∷ decimal n ∷ []
certificate_words Memory = []
