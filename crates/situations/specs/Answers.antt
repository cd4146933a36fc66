-- A refusal as the rules name it.
use Rattle.std.specs.Prelude.{◌≡◌, Option, Some, None, option_map}
use Rattle.situations.specs.declared.refusal.Refusal.{Refusal}
use Rattle.situations.specs.declared.refusal.Refusal.TheVariants as code
use Rattle.landing_rules.specs.Events as rules

-- none for want of memory, which the rules do not know
abbrev pub refusal_of : Refusal → Option rules.Refusal
refusal_of (code.UnknownFlight c) = Some (rules.UnknownFlight c)
refusal_of (code.Frozen second) = Some (rules.Frozen second)
refusal_of (code.Duplicate c) = Some (rules.Duplicate c)
refusal_of code.TooManyFlights = Some rules.TooManyFlights
refusal_of code.TooManyWaiting = Some rules.TooManyWaiting
refusal_of (code.PredecessorOfFrozen c) = Some (rules.PredecessorOfFrozen c)
refusal_of (code.CoversFrozen c second) = Some (rules.CoversFrozen c second)
refusal_of code.TooManyClosures = Some rules.TooManyClosures
refusal_of code.UnknownClosure = Some rules.UnknownClosure
refusal_of (code.ClockBack second) = Some (rules.ClockBack second)
refusal_of code.Memory = None

-- the answer is the rules' own, and not want of memory
abbrev pub IsAnswer : Option Refusal → Option rules.Refusal → Type 0
IsAnswer found answer = option_map refusal_of found ≡ option_map Some answer
