-- Why a reading of a source gave up.
use Rattle.std.specs.Prelude.{◌≡◌, ◌⊎◌, Option, Some}
use Rattle.std.specs.declared.io.ErrorKind.{ErrorKind}
use Rattle.std.specs.declared.io.ErrorKind.TheVariants.{OutOfMemory}

-- the last read answered an error of this kind, or memory was refused
abbrev pub IsOfReadOrMemory : Option ErrorKind → ErrorKind → Type 0
IsOfReadOrMemory fault kind = (fault ≡ Some kind) ⊎ (kind ≡ OutOfMemory)
