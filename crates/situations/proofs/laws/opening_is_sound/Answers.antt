use Rattle.situations.proofs.OpeningSound.{opening_sound}
use Rattle.situations.proofs.laws.opening_is_sound.Goals as goal

pub returns : goal.returns
returns c = opening_sound
