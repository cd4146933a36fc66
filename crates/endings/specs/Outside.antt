-- What a run reads and writes beside the standard error.
use Rattle.cps_outside.specs.FolderState.{FolderState}
use Rattle.cps_outside.specs.SinkState.{SinkState}

-- the folder of its files and the output
pub record Outside : Type 0 where
  pub folder : FolderState
  pub out : SinkState
