-- A finding as the rules name it.
use Rattle.std.specs.Prelude.{◌≡◌, ℕ, ◌≤◌, Bool, List, [], ◌∷◌, ◌++◌, Option, find, map, nat_lt, option_map}
use Rattle.std.specs.Prelude.{if◌then◌else◌}
use Rattle.landing_rules.specs.Events.{named}
use Rattle.landing_rules.specs.Flights.{Active, Landing}
use Rattle.cps_base.specs.Limits.{greatest_weight}
use Rattle.landing_rules.specs.Rules.{place, rank_among}
use Rattle.landing_rules.specs.Testing.{is_shift_kept}
use Rattle.landing_rules.specs.Text.{ShownLanding}
use Rattle.audit.specs.declared.finding.Finding.{Finding}
use Rattle.audit.specs.declared.finding.Finding.TheVariants as code
use Rattle.landing_rules.specs.Audit as rules

abbrev pub finding_of : Finding → rules.Finding
finding_of (code.Missing c) = rules.Missing c
finding_of (code.Unknown c) = rules.Unknown c
finding_of (code.Twice c) = rules.Twice c
finding_of (code.Order i) = rules.Order i
finding_of (code.Mark c) = rules.Mark c
finding_of (code.Closed c t) = rules.Closed c t
finding_of (code.Separation c d) = rules.Separation c d
finding_of (code.Precedence c d) = rules.Precedence c d
finding_of (code.Moved c t) = rules.Moved c t
finding_of (code.Early c) = rules.Early c
finding_of (code.Shift c p r) = rules.Shift c p r
finding_of code.Objective = rules.OtherObjective
finding_of (code.Value v) = rules.Value v

-- the findings grew by these
abbrev pub Finds : List Finding → List Finding → List rules.Finding → Type 0
Finds old new found = map finding_of new ≡ map finding_of old ++ found

-- a finding, unless what it says is broken is kept
abbrev pub unless : Bool → rules.Finding → List rules.Finding
unless is_kept finding = if is_kept then [] else finding ∷ []

-- each of these landings that is not the table's time from f
abbrev pub too_near : List (List ℕ) → Landing → List Landing → List rules.Finding
too_near table f all = rules.for_failing (rules.are_apart table f)
    (λ (g : Landing). rules.Separation f.flight.callsign g.flight.callsign) all

-- what is found of a line whose callsign was seen above, or was not
abbrev pub repeated : Bool → List ℕ → List rules.Finding
repeated was_seen c = if was_seen then rules.Twice c ∷ [] else []

-- what is found of line i at second t, below a line at that before
abbrev pub out_of_order : ℕ → ℕ → ℕ → List rules.Finding
out_of_order i before t = if nat_lt before t then [] else rules.Order i ∷ []

-- what is found of a waiting flight, by its place and its rank
abbrev pub too_far : ℕ → List Landing → Landing → List rules.Finding
too_far k waiting f = if is_shift_kept k waiting f then [] else rules.Shift f.flight.callsign
    (place waiting f) (rank_among waiting f) ∷ []

-- so that the costs of 500 lines have a sum of 64 bits
abbrev pub HasSmallWeight : ShownLanding × Active → Type 0
HasSmallWeight x = x.1.flight.weight ≤ greatest_weight

-- a line with its flight, where it names one that is active
abbrev pub one_found : List Active → ShownLanding → Option (ShownLanding × Active)
one_found active l = option_map (λ a. (l, a)) (find (named l.callsign) active)
