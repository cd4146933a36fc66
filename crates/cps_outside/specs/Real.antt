-- What the folder over an opener of files and the sink over a writer show of themselves.
use Rattle.std.specs.Prelude.{ℕ, List, [], Bool, false, Option, unwrap_or}
use Rattle.cps_outside.specs.FolderState.{FolderState}
use Rattle.cps_outside.specs.OpenerState.{OpenerState}
use Rattle.cps_outside.specs.SinkState.{SinkState}
use Rattle.cps_outside.specs.declared.real_folder.OpenedFiles.{OpenedFiles}
use Rattle.cps_outside.specs.declared.real_sink.RealSink.{RealSink}

-- the files of this opener, of which loads failed so often and so many bytes were taken
abbrev pub folder_over : OpenerState → ℕ → ℕ → FolderState
folder_over opener faults taken = record {
  tells = opener.tells;
  content = opener.content;
  sure = false;
  asked = opener.asked;
  faults = faults;
  taken = taken;
}

-- a writer that holds these bytes, if it tells them, after so many failed puts and so many puts
abbrev pub sink_over : Bool → Option (List ℕ) → ℕ → ℕ → SinkState
sink_over tells contents faults puts = record {
  tells = tells;
  written = unwrap_or contents [];
  sure = false;
  room = 0;
  faults = faults;
  puts = puts;
}

abbrev pub folder_state : {O : Type 0} → (O → OpenerState) → OpenedFiles O → FolderState
folder_state state folder = folder_over (state folder.opener) folder.faults folder.taken

abbrev pub sink_state : {W : Type 0} {g : _} → (W → Option (List ℕ)) → RealSink W g → SinkState
sink_state contents sink = sink_over sink.is_told (contents sink.writer) sink.faults sink.puts

-- the writer of a sink
abbrev pub writer_of : {W : Type 0} {g : _} → RealSink W g → W
writer_of sink = sink.writer
