-- What a folder in memory shows of itself, and which loads of it fail.
use Rattle.std.specs.Prelude.{ℕ, ◌+◌, ◌-◌, ◌^◌, min, List, [], ◌∷◌, Bool, true, ◌==◌, ◌||◌, Option, Some, None}
use Rattle.std.specs.Prelude.{is_none, length, map, bytes_eq, string_bytes, String, Vec, if◌then◌else◌}
use Rattle.std.specs.List.{list_any}
use Rattle.std.specs.declared.alloc.Global.{Global}
use Rattle.cps_outside.specs.FolderState.{FolderState}
use Rattle.cps_outside.specs.declared.memory_folder.MemoryFolder.{MemoryFolder}

-- the content of the first file of this name
abbrev pub content_in : List (String Global × Vec ℕ Global) → List ℕ → Option (List ℕ)
content_in [] name = None
content_in (file ∷ files) name = if bytes_eq (string_bytes file.0) name then Some file.1.items
    else content_in files name

abbrev pub folder_state : MemoryFolder → FolderState
folder_state folder = record {
  tells = true;
  content = content_in folder.files.items;
  sure = length folder.failing.items == 0;
  asked = map string_bytes folder.asked.items;
  faults = folder.faults;
  taken = folder.taken;
}

-- these files, before any load, of which those of these numbers are to fail
abbrev pub fresh_folder : List (String Global × Vec ℕ Global) → List ℕ → FolderState
fresh_folder files failing =
    record { tells = true; content = content_in files; sure = length failing == 0; asked = []; faults = 0; taken = 0 }

-- the numbers of the loads that are to fail
abbrev pub failing_loads_of : MemoryFolder → List ℕ
failing_loads_of folder = folder.failing.items

-- how many loads there were
abbrev pub loads_of : MemoryFolder → ℕ
loads_of folder = folder.loads

-- the number of the next load, from 1
abbrev pub number_of_load : MemoryFolder → ℕ
number_of_load folder = min (folder.loads + 1) (2 ^ 64 - 1)

-- a load of this name would fail now: its number is listed, or no file has the name
abbrev pub is_to_fail : MemoryFolder → List ℕ → Bool
is_to_fail folder name =
    list_any (λ number. number == number_of_load folder) folder.failing.items
    || is_none (content_in folder.files.items name)
