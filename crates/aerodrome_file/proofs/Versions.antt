-- What a version does not have is absent.
use Rattle.std.proofs.Common.{◌≡◌, zero, suc, ℕ, pos, ◌<◌, ◌≤◌, List, [], true, false, Option, Some, None, Ok, inl}
use Rattle.std.proofs.Common.{inr, refl, arith}
use Rattle.std.specs.Prelude.{codes, ◌==◌, ◌&&◌, nat_le, nat_lt}
use Rattle.std.specs.Ordering.{nat_cmp}
use Rattle.std.proofs.Common.{Ordering}
use Rattle.std.specs.declared.cmp.Ordering.TheVariants.{Less, Equal, Greater}
use Rattle.std.specs.Ordering.{match_ordering}
use Rattle.std.specs.Cmp.Lexicographic.{slice_cmp}
use Rattle.std.proofs.lemmas.Bool.{cases_Bool, ltb-false}
use Rattle.std.proofs.lemmas.Map.Lookups.{exact_bytes}
use Rattle.toml.specs.Data.{Data, integer, Members, no_members, member, get_member}
use Rattle.landing_rules.specs.declared.objective.Objective.{Objective}
use Rattle.arrivals.specs.declared.frozen_list.FrozenLanding.{FrozenLanding}
use Rattle.arrivals.specs.declared.passed_list.PassedCount.{PassedCount}
use Rattle.aerodrome_file.specs.declared.fault.Key.TheVariants as key
use Rattle.aerodrome_file.specs.declared.fault.Part.{Part}
use Rattle.aerodrome_file.specs.declared.fault.Part.TheVariants as part
use Rattle.aerodrome_file.specs.Keys.{is_known, only_in}
use Rattle.aerodrome_file.specs.Values.{number_in}
use Rattle.aerodrome_file.specs.Version.{version_of, HasKeysOf}
use Rattle.aerodrome_file.specs.Frozen.{clock_in, frozen_in, frozen_from}
use Rattle.aerodrome_file.specs.Passed.{passed_in, passed_from}
use Rattle.arrivals.specs.Aerodromes.{is_delay, most_shift, is_beyond}

-- a key that a part does not have is at no value
pub only_absent : (v : ℕ) (p : Part) (k : List ℕ) (ms : Members) → only_in v p ms ≡ Ok (tt {0})
    → is_known v p k ≡ false → get_member k ms ≡ None
unfolding only_in
only_absent v p k no_members e unknown = refl
only_absent v p k (member l d ms) e unknown =
    elim (cases_Bool (is_known v p l)) [
      | inr other ↦ absurd (cc (rw other at e))
      | inl known ↦
          let rest : only_in v p ms ≡ Ok (tt {0}) = rw known at e in
          by (slice_cmp nat_cmp k l) refl known (only_absent v p k ms rest unknown)
    ]
  where
    by : (o : Ordering) → slice_cmp nat_cmp k l ≡ o → is_known v p l ≡ true → get_member k ms ≡ None
        → match_ordering o (get_member k ms) (Some d) (get_member k ms) ≡ None
    by Less c known absent = absent
    by Greater c known absent = absent
    by Equal c known absent =
        let same : k ≡ l = exact_bytes k l c in
        let here : is_known v p k ≡ true = rw same known in
        absurd (cc)

not_clock : (v : ℕ) → v < 2 → is_known v part.Top (codes "clock") ≡ false
not_clock zero low = refl
not_clock (suc zero) low = refl
not_clock (suc (suc v)) low = absurd (omega (arith, low))

not_frozen : (v : ℕ) → v < 2 → is_known v part.Top (codes "frozen") ≡ false
not_frozen zero low = refl
not_frozen (suc zero) low = refl
not_frozen (suc (suc v)) low = absurd (omega (arith, low))

not_passed : (v : ℕ) → v < 3 → is_known v part.Top (codes "passed") ≡ false
not_passed zero low = refl
not_passed (suc zero) low = refl
not_passed (suc (suc zero)) low = refl
not_passed (suc (suc (suc v))) low = absurd (omega (arith, low))

pub keys_of : (v : ℕ) (ms : Members) → only_in v part.Top ms ≡ Ok (tt {0}) → HasKeysOf v ms
keys_of v ms e = record {
  clock = λ low. only_absent v part.Top (codes "clock") ms e (not_clock v low);
  frozen = λ low. only_absent v part.Top (codes "frozen") ms e (not_frozen v low);
  passed = λ low. only_absent v part.Top (codes "passed") ms e (not_passed v low);
}

named : (n : ℕ) → 1 ≤ n → n ≤ 3 → version_of (Some (integer (pos n))) ≡ n
named zero low high = absurd (omega (arith, low))
named (suc zero) low high = refl
named (suc (suc zero)) low high = refl
named (suc (suc (suc zero))) low high = refl
named (suc (suc (suc (suc n)))) low high = absurd (omega (arith, high))

-- the version of a file is that whose keys it has
pub same_version : (d : Option Data) (v : ℕ) → Ok v ≡ number_in key.Version 1 3 d → (1 ≤ v) × (v ≤ 3) → version_of d ≡ v
same_version (Some (integer (pos n))) v e range =
    elim (cases_Bool (nat_le 1 n && nat_le n 3)) [
      | inr outside ↦ absurd (cc (rw outside at e))
      | inl inside ↦
          let given : Ok v ≡ Ok n = rw inside at e in
          let same : v ≡ n = cc in
          rw (← same) (named v range.0 range.1)
    ]
same_version d v e range = absurd (cc e)

-- a version that is not the third is an earlier one
pub early : (v : ℕ) → (v == 3) ≡ false → v ≤ 3 → v < 3
early zero other range = omega arith
early (suc zero) other range = omega arith
early (suc (suc zero)) other range = omega arith
early (suc (suc (suc zero))) other range = absurd (cc other)
early (suc (suc (suc (suc v)))) other range = absurd (omega (arith, range))

pub no_clock : (d : Option Data) (clock : Option ℕ) → Ok clock ≡ clock_in d → d ≡ None → clock ≡ None
unfolding clock_in
no_clock None clock e absent = cc e
no_clock (Some d) clock e absent = absurd (cc absent)

pub none_frozen : (clock : Option ℕ) (freeze : ℕ) (d : Option Data) (fs : List FrozenLanding)
    → frozen_in clock freeze d ≡ Ok fs → d ≡ None → fs ≡ []
unfolding frozen_in frozen_from
none_frozen None freeze None fs e absent = cc e
none_frozen (Some now) freeze None fs e absent = cc e
none_frozen clock freeze (Some d) fs e absent = absurd (cc absent)

pub none_passed : (k : ℕ) (d : Option Data) (ps : List PassedCount) → passed_in k d ≡ Ok ps → d ≡ None → ps ≡ []
unfolding passed_in passed_from
none_passed k None ps e absent = cc e
none_passed k (Some d) ps e absent = absurd (cc absent)

pub within_shift : (v k : ℕ) (o : Objective) → is_beyond v k o ≡ false → is_delay o ≡ true → k ≤ most_shift v
within_shift v k o within delay =
    let low : nat_lt (most_shift v) k ≡ false = rw delay at within in
    ltb-false (most_shift v) k low
