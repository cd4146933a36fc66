-- A change of the map of flights, as the rules see it.
use Rattle.std.proofs.Common.{rules, ◌≡◌, Some, None, map, sym, ap, subst, ◌∙◌}
use Rattle.std.specs.List.{IsDistinct}
use Rattle.std.specs.Map.{lookup, set_value}
use Rattle.std.specs.Str.{bytes_eq}
use Rattle.indexmap.specs.IndexMap.{keys, values}
use Rattle.landing_rules.specs.Flights.{Active, Callsign}
use Rattle.situations.specs.declared.situation.Situation.TheInside.{Inside}
use Rattle.situations.specs.Seen.{AreKeyed, IsInStep, seen, situation_of}
use Rattle.situations.proofs.Apart.{at_named, name_of, names_kept}
use Rattle.situations.proofs.Keyed.{changed_one, keyed_still, looked_up, none_named}

-- with other flights, each under its own callsign
pub in_step : (s now : Inside) (m : _) → now ≡ record s { active = m } → IsInStep s → AreKeyed m → IsInStep now
in_step s now m is ok keyed = search rules

-- ---- the flight of a callsign has changed, where one has it

module _ (c : Callsign) (g : Active → Active) (s now : Inside) (ok : IsInStep s) where
  abbrev pub IsChanged : Type 0
  IsChanged = IsInStep now × (seen now ≡ record (seen s) { active = map (at_named c g) (values s.active) })

  pub none_changed : now ≡ s → None ≡ lookup (bytes_eq c) s.active.entries → IsChanged
  none_changed same none = (
    subst IsInStep (sym same) ok,
    ap seen same ∙ ap (λ l. situation_of s.fixed l s.closures s.clock)
        (sym (none_named c g (values s.active) (sym (none ∙ looked_up c s.active.entries ok.keyed)))),
  )

  pub one_changed : (m : _) → now ≡ record s { active = m } → ((a : Active) → name_of a ≡ name_of (g a))
      → IsDistinct bytes_eq (keys s.active) → (a x : Active) → Some a ≡ lookup (bytes_eq c) s.active.entries → x ≡ g a
      → m.entries ≡ set_value (bytes_eq c) s.active.entries x → keys m ≡ keys s.active → IsChanged
  one_changed m is names distinct a x found new set keys_are =
      let flights = changed_one c g s.active.entries m.entries a x ok.keyed distinct (sym found) new set in (
        in_step s now m is ok (keyed_still s.active.entries m.entries _ keys_are flights
            (names_kept c g names (values s.active)) ok.keyed),
        ap seen is ∙ ap (λ l. situation_of s.fixed l s.closures s.clock) flights,
      )
