use Rattle.traffic_lands.proofs.Made.{lands}
use Rattle.traffic_lands.proofs.Shown.{shows}
use Rattle.traffic_lands.proofs.laws.traffic_can_land.Goals as goal

pub returns : goal.returns
returns c = record { lands = lands; shown = shows lands }
