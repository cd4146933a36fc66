use Rattle.openings.specs.Plan.{IsOpened}
use Rattle.openings.specs.shared.Opened.{of_bytes}
use Rattle.openings.proofs.opening.open_files.Goals as goal

pub returns-clause-opened : goal.returns-clause-opened
returns-clause-opened g c = of_bytes (λ a fs begun. IsOpened a fs begun.0.state) c.begin.result _
    _ c.in_ok-aerodrome.aerodrome _ c.in_ok-aerodrome.ensures.value c.in_ok-flights.ensures.value c.begin.ensures.opened
