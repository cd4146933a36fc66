use Rattle.openings.specs.shared.Opened.{of_bytes}
use Rattle.certificate_commands.specs.Certify.{Certifies}
use Rattle.certificate_commands.proofs.certify.report_files.Goals as goal

pub returns : goal.returns
returns g c = of_bytes (λ a fs r. Certifies a fs r.text.items r.answer) c.report_opened.result
    _ _ c.in_ok-aerodrome.aerodrome _ c.in_ok-aerodrome.ensures.value c.in_ok-flights.ensures.value
    (rw c.as_slice.ensures.value at c.report_opened.ensures)
