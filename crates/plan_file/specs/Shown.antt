-- What a landing shows.
use Rattle.landing_rules.specs.Text.{ShownLanding}
use Rattle.plan_file.specs.declared.landing.Landing.{Landing}

abbrev pub shown_of : Landing → ShownLanding
shown_of l = record { callsign = l.callsign; second = l.second; frozen = l.frozen }
