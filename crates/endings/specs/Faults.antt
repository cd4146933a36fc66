-- How a run ends where a file does not read, or memory runs out.
use Rattle.std.specs.Prelude.{Option, Some, None}
use Rattle.aerodrome_file.specs.declared.fault.AeroFault.{AeroFault}
use Rattle.aerodrome_file.specs.declared.fault.AeroFault.TheVariants as aerodrome
use Rattle.certificate.specs.declared.fault.CertFault.{CertFault}
use Rattle.certificate.specs.declared.fault.CertFault.TheVariants as certificate
use Rattle.plan_file.specs.declared.plan.PlanFault.{PlanFault}
use Rattle.plan_file.specs.declared.plan.PlanFault.TheVariants as plan
use Rattle.event_log.specs.declared.fault.LogCause.{LogCause}
use Rattle.event_log.specs.declared.fault.LogCause.TheVariants as log
use Rattle.event_log.specs.declared.fault.LogFault.{LogFault}
use Rattle.flight_file.specs.declared.fault.FlightCause.{FlightCause}
use Rattle.flight_file.specs.declared.fault.FlightCause.TheVariants as flight
use Rattle.flight_file.specs.declared.fault.FlightFault.{FlightFault}
use Rattle.situations.specs.declared.opening_refusal.OpeningFault.{OpeningFault}
use Rattle.situations.specs.declared.begin_fault.BeginFault.{BeginFault}
use Rattle.situations.specs.Begun.{opening_fault_of}
use Rattle.trial_file.specs.declared.fault.TrialCause.{TrialCause}
use Rattle.trial_file.specs.declared.fault.TrialCause.TheVariants as trial
use Rattle.trial_file.specs.declared.fault.TrialFault.{TrialFault}
use Rattle.endings.specs.declared.ending.Ending.{Ending}
use Rattle.endings.specs.declared.ending.Ending.TheVariants.{Refused, NoMemory}
use Rattle.endings.specs.declared.ending.FilesFault.TheVariants.{Aerodrome, Flights, Events, Certificate, Trials, Plan}
use Rattle.endings.specs.declared.ending.FilesFault.TheVariants.{Opening}

abbrev pub aerodrome_ending : AeroFault → Ending
aerodrome_ending aerodrome.Memory = NoMemory
aerodrome_ending fault = Refused (Aerodrome fault)

abbrev pub by_flight_cause : FlightCause → FlightFault → Ending
by_flight_cause flight.Memory fault = NoMemory
by_flight_cause cause fault = Refused (Flights fault)

abbrev pub flights_ending : FlightFault → Ending
flights_ending fault = by_flight_cause fault.cause fault

abbrev pub by_log_cause : LogCause → LogFault → Ending
by_log_cause log.Memory fault = NoMemory
by_log_cause cause fault = Refused (Events fault)

abbrev pub events_ending : LogFault → Ending
events_ending fault = by_log_cause fault.cause fault

abbrev pub certificate_ending : CertFault → Ending
certificate_ending certificate.Memory = NoMemory
certificate_ending fault = Refused (Certificate fault)

-- an opening refusal, or want of memory
abbrev pub opening_ending : Option OpeningFault → Ending
opening_ending None = NoMemory
opening_ending (Some fault) = Refused (Opening fault)

abbrev pub by_trial_cause : TrialCause → TrialFault → Ending
by_trial_cause trial.Memory fault = NoMemory
by_trial_cause cause fault = Refused (Trials fault)

abbrev pub trials_ending : TrialFault → Ending
trials_ending fault = by_trial_cause fault.cause fault

abbrev pub plan_ending : PlanFault → Ending
plan_ending plan.Memory = NoMemory
plan_ending fault = Refused (Plan fault)

abbrev pub begin_ending : BeginFault → Ending
begin_ending fault = opening_ending (opening_fault_of fault)
