-- One frozen landing or one count more, behind others.
use Rattle.std.proofs.Common.{◌≡◌, ℕ, ◌<◌, ◌≤◌, List, length, get_or, take, drop, ◌+◌, ◌-◌, refl, Ok, Some, true}
use Rattle.std.proofs.Common.{false, ◌++◌, ◌∷◌, [], arith, length-append}
use Rattle.std.proofs.lemmas.List.Folds.{list_any_at}
use Rattle.std.proofs.lemmas.List.Elements.{All-push}
use Rattle.std.proofs.lemmas.List.Quantifiers.{all_pairs_push}
use Rattle.std.proofs.lemmas.Slice.Eq.{bytes_eq-Decides}
use Rattle.std.specs.Prelude.{bytes_eq, ◌≢◌}
use Rattle.cps_base.specs.Limits.{most_flights, most_waiting}
use Rattle.toml.specs.declared.value.Value.{Value}
use Rattle.toml.specs.Data.{Members, as_table}
use Rattle.toml.specs.View.{view, items_view}
use Rattle.aerodrome_file.specs.Tables.{tables_of}
use Rattle.aerodrome_file.proofs.Items.{first_table}
use Rattle.arrivals.specs.declared.frozen_list.FrozenLanding.{FrozenLanding}
use Rattle.arrivals.specs.declared.passed_list.PassedCount.{PassedCount}
use Rattle.arrivals.specs.Aerodromes.{IsFrozen, AreFrozen, ArePassed}
use Rattle.aerodrome_file.specs.Frozen.{has_frozen, frozen_entry, frozen_from}
use Rattle.aerodrome_file.specs.Passed.{has_passed, passed_entry, passed_from}

pub frozen_more : (clock freeze : ℕ) (fs : List FrozenLanding) (f : FrozenLanding) → AreFrozen clock freeze fs
    → IsFrozen clock freeze f → has_frozen fs f.callsign ≡ false → length fs < most_flights
    → AreFrozen clock freeze (fs ++ f ∷ [])
frozen_more clock freeze fs f are here new room = record {
  few = omega (arith, length-append fs (f ∷ []));
  seconds = All-push (IsFrozen clock freeze) fs f are.seconds here;
  callsigns = all_pairs_push (λ g later. g.callsign ≢ later.callsign) fs f are.callsigns (λ k d below same.
      let alike : bytes_eq (get_or fs k d).callsign f.callsign ≡ true =
      (bytes_eq-Decides (get_or fs k d).callsign f.callsign).1 same in
      let some : has_frozen fs f.callsign ≡ true =
      list_any_at (λ g. bytes_eq g.callsign f.callsign) fs k d below alike in
      absurd (cc));
}

pub passed_more : (k : ℕ) (ps : List PassedCount) (p : PassedCount) → ArePassed k ps → (1 ≤ p.count) × (p.count ≤ k)
    → has_passed ps p.callsign ≡ false → length ps < most_waiting → ArePassed k (ps ++ p ∷ [])
passed_more k ps p are here new room = record {
  few = omega (arith, length-append ps (p ∷ []));
  counts = All-push (λ q. (1 ≤ q.count) × (q.count ≤ k)) ps p are.counts here;
  callsigns = all_pairs_push (λ q later. q.callsign ≢ later.callsign) ps p are.callsigns (λ i d below same.
      let alike : bytes_eq (get_or ps i d).callsign p.callsign ≡ true =
      (bytes_eq-Decides (get_or ps i d).callsign p.callsign).1 same in
      let some : has_passed ps p.callsign ≡ true =
      list_any_at (λ q. bytes_eq q.callsign p.callsign) ps i d below alike in
      absurd (cc));
}

-- the first of the tables that are left joins those before
pub frozen_step : (i clock freeze : ℕ) (before : List FrozenLanding) (vs : List Value) (v : Value) (ms : Members)
    (e : FrozenLanding) → v ≡ get_or vs 0 v → 0 < length vs → as_table (view v) ≡ Some ms
    → Ok e ≡ frozen_entry i clock freeze before ms
    → frozen_from (i + 1) clock freeze (before ++ e ∷ []) (tables_of (items_view (take (length vs - 1) (drop 1 vs))))
    ≡ frozen_from i clock freeze before (tables_of (items_view vs))
unfolding frozen_from
frozen_step i clock freeze before vs v ms e first some is given = rw (first_table vs v first some, is, ← given) refl

pub passed_step : (i k : ℕ) (before : List PassedCount) (vs : List Value) (v : Value) (ms : Members) (e : PassedCount)
    → v ≡ get_or vs 0 v → 0 < length vs → as_table (view v) ≡ Some ms → Ok e ≡ passed_entry i k before ms
    → passed_from (i + 1) k (before ++ e ∷ []) (tables_of (items_view (take (length vs - 1) (drop 1 vs))))
    ≡ passed_from i k before (tables_of (items_view vs))
unfolding passed_from
passed_step i k before vs v ms e first some is given = rw (first_table vs v first some, is, ← given) refl
