-- What is left of a sink by a text that was to be put.
use Rattle.std.specs.Prelude.{◌≡◌, [], Result, Ok, Err}
use Rattle.cps_outside.specs.Puts.{Wrote, WrotePart}
use Rattle.cps_outside.specs.SinkState.{SinkState}
use Rattle.landing_rules.specs.Text.{Bytes}
use Rattle.replays.specs.declared.stops.Stop.{Stop}
use Rattle.replays.specs.declared.stops.Stop.TheVariants.{NotWritten, NoMemory}

-- it was put whole, in one put, or a part of it where the put failed, or nothing where there was no memory for it
abbrev pub PutsText : Bytes → SinkState → SinkState → Result (Unit {0}) Stop → Type 0
PutsText text from to (Ok u) = Wrote 1 from to text
PutsText text from to (Err NotWritten) = WrotePart 0 from to [] text
PutsText text from to (Err NoMemory) = to ≡ from
