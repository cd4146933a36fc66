-- From what holds of files as they read to what is said of their bytes.
use Rattle.std.proofs.Common.{◌≡◌, ℕ, List, None, Some, Ok, Result, ap, subst, sym, ◌∙◌}
use Rattle.std.specs.Result.{result_ok}
use Rattle.std.proofs.lemmas.Option.{none-some, same_Some}
use Rattle.arrivals.specs.declared.aerodrome.Aerodrome.{Aerodrome}
use Rattle.aerodrome_file.specs.Reading.{aerodrome_of}
use Rattle.aerodrome_file.specs.declared.fault.AeroFault.{AeroFault}
use Rattle.arrivals.specs.declared.flight.Flight.{Flight}
use Rattle.flight_file.specs.Reading.{flights_of}
use Rattle.flight_file.specs.declared.fault.FlightFault.{FlightFault}
use Rattle.endings.specs.Files.{HoldsOfTwo, HoldsOfThree}
use Rattle.endings.specs.Refusing.{opening_refusal, refused_by, refused_by_three}
use Rattle.endings.specs.declared.ending.FilesFault.{FilesFault}

module _ (a f : List ℕ) (P : Aerodrome → List Flight → Type 0) (x : HoldsOfTwo a f P) where
  -- what is so of them is so of their bytes
  pub of_two : (Q : Result Aerodrome AeroFault → Result (List Flight) FlightFault → Type 0)
      → Q (Ok x.aerodrome) (Ok x.flights) → Q (aerodrome_of a) (flights_of f)
  of_two Q here = subst
      (λ r. Q r (flights_of f)) (sym x.aerodrome_read) (subst (λ r. Q (Ok x.aerodrome) r) (sym x.flights_read) here)

  -- what is so of what they also read as is so of the same
  pub same_two : (Q : Aerodrome → List Flight → Type 0) (y : HoldsOfTwo a f Q) (R : Aerodrome → List Flight → Type 0)
      → R y.aerodrome y.flights → R x.aerodrome x.flights
  same_two Q y R there =
      let aerodromes : y.aerodrome ≡ x.aerodrome =
      same_Some _ _ (ap result_ok (sym y.aerodrome_read ∙ x.aerodrome_read)) in
      let flights : y.flights ≡ x.flights = same_Some _ _ (ap result_ok (sym y.flights_read ∙ x.flights_read)) in
      subst (λ (b : Aerodrome). R b x.flights) aerodromes (subst (λ (l : List Flight). R y.aerodrome l) flights there)

  -- where they are taken they are not refused
  pub two_taken : (cause : FilesFault) → opening_refusal x.aerodrome x.flights ≡ None
      → refused_by (aerodrome_of a) (flights_of f) ≡ Some cause → ⊥
  two_taken cause taken refused = none-some _ (sym (of_two (λ r q. refused_by r q ≡ None) taken) ∙ refused)

module _ {T F : Type 0} (read : List ℕ → Result T F) (a f t : List ℕ) (P : Aerodrome → List Flight → T → Type 0)
    (x : HoldsOfThree read a f t P) where
  pub of_three : (Q : Result Aerodrome AeroFault → Result (List Flight) FlightFault → Result T F → Type 0)
      → Q (Ok x.aerodrome) (Ok x.flights) (Ok x.third) → Q (aerodrome_of a) (flights_of f) (read t)
  of_three Q here =
      subst (λ r. Q r (flights_of f) (read t)) (sym x.aerodrome_read) (subst (λ r. Q (Ok x.aerodrome) r (read t))
      (sym x.flights_read) (subst (λ r. Q (Ok x.aerodrome) (Ok x.flights) r) (sym x.third_read) here))

  pub same_three : (Q : Aerodrome → List Flight → T → Type 0) (y : HoldsOfThree read a f t Q)
      (R : Aerodrome → List Flight → T → Type 0) → R y.aerodrome y.flights y.third → R x.aerodrome x.flights x.third
  same_three Q y R there =
      let aerodromes : y.aerodrome ≡ x.aerodrome =
      same_Some _ _ (ap result_ok (sym y.aerodrome_read ∙ x.aerodrome_read)) in
      let flights : y.flights ≡ x.flights = same_Some _ _ (ap result_ok (sym y.flights_read ∙ x.flights_read)) in
      let thirds : y.third ≡ x.third = same_Some _ _ (ap result_ok (sym y.third_read ∙ x.third_read)) in
      subst (λ (b : Aerodrome). R b x.flights x.third) aerodromes
      (subst (λ (l : List Flight). R y.aerodrome l x.third) flights
      (subst (λ (u : T). R y.aerodrome y.flights u) thirds there))

  pub three_taken : (kind : F → FilesFault) (cause : FilesFault) → opening_refusal x.aerodrome x.flights ≡ None
      → refused_by_three kind (aerodrome_of a) (flights_of f) (read t) ≡ Some cause → ⊥
  three_taken kind cause taken refused =
      none-some _ (sym (of_three (λ r q s. refused_by_three kind r q s ≡ None) taken) ∙ refused)
