-- Why nothing begins.
use Rattle.std.specs.Prelude.{◌≡◌, Option, Some, None, MatchOption, ⊤}
use Rattle.situations.specs.declared.opening_refusal.OpeningFault.{OpeningFault}
use Rattle.situations.specs.declared.begin_fault.BeginFault.{BeginFault}
use Rattle.situations.specs.declared.begin_fault.BeginFault.TheVariants.{Opening, Memory}

-- the opening refusal that it is, and none for want of memory
abbrev pub opening_fault_of : BeginFault → Option OpeningFault
opening_fault_of (Opening fault) = Some fault
opening_fault_of Memory = None

-- the opening refusal that holds, or want of memory
abbrev pub IsRefusedBy : Option OpeningFault → BeginFault → Type 0
IsRefusedBy found fault = MatchOption (opening_fault_of fault) ⊤ (λ f. found ≡ Some f)
