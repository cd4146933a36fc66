use Rattle.situations.proofs.OpeningSound.{plain_opening}
use Rattle.situations.proofs.laws.plain_files_open.Goals as goal

pub returns : goal.returns
returns c = plain_opening
