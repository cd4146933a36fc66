-- What a sink in memory shows of itself, and how many bytes it takes.
use Rattle.std.specs.Prelude.{ℕ, ◌+◌, ◌-◌, ◌^◌, ◌==◌, min, nat_le, List, [], length, Bool, true, ◌&&◌, Option, is_none}
use Rattle.std.specs.Prelude.{unwrap_or}
use Rattle.cps_outside.specs.SinkState.{SinkState}
use Rattle.cps_outside.specs.FailingPuts.{bytes_of_failing}
use Rattle.cps_outside.specs.declared.memory_sink.MemorySink.{MemorySink}

abbrev pub sink_state : MemorySink → SinkState
sink_state sink = record {
  tells = true;
  written = sink.written.items;
  sure = length sink.failing.items == 0;
  room = sink.room;
  faults = sink.faults;
  puts = sink.puts;
}

-- before any put, with this room, where these puts are to fail
abbrev pub fresh_sink : ℕ → List (ℕ × ℕ) → SinkState
fresh_sink room failing =
    record { tells = true; written = []; sure = length failing == 0; room = room; faults = 0; puts = 0 }

-- the bytes for which it has room
abbrev pub room_of : MemorySink → ℕ
room_of sink = sink.room

-- the puts that are to fail, and how many bytes each takes
abbrev pub failing_puts_of : MemorySink → List (ℕ × ℕ)
failing_puts_of sink = sink.failing.items

-- how many puts there were
abbrev pub puts_of : MemorySink → ℕ
puts_of sink = sink.puts

-- the number of the next put, from 1
abbrev pub number_of_put : MemorySink → ℕ
number_of_put sink = min (sink.puts + 1) (2 ^ 64 - 1)

-- how many bytes the next put takes, if it is to fail
abbrev pub limit_of : MemorySink → Option ℕ
limit_of sink = bytes_of_failing sink.failing.items (number_of_put sink)

-- how many bytes of a piece of n bytes the next put takes
abbrev pub bytes_taken : MemorySink → ℕ → ℕ
bytes_taken sink n = min (min n sink.room) (unwrap_or (limit_of sink) n)

-- the next put takes a piece of n bytes whole and answers so
abbrev pub takes_all : MemorySink → ℕ → Bool
takes_all sink n = is_none (limit_of sink) && nat_le n sink.room
