use Rattle.landing_rules.specs.Flights.{Active, Landing}
use Rattle.landing_rules.specs.Text.{ShownLanding}
use Rattle.audit.proofs.Broken.{each_break, each_pair}
use Rattle.audit.proofs.laws.what_is_broken_is_listed.Goals as goal

pub returns : goal.returns
returns c = record {
  flights = each_break Active;
  lines = each_break ShownLanding;
  marks = each_break (ShownLanding × Active);
  landings = each_break Landing;
  pairs = each_pair Landing;
}
