-- Each part is in its range.
use Rattle.std.proofs.Common.{refl, ◌∙◌}
use Rattle.aerodrome_file.proofs.Versions.{early, no_clock, none_frozen, none_passed, within_shift}
use Rattle.aerodrome_file.proofs.reading.aerodrome_in.Goals as goal

pub returns-clause-range : goal.returns-clause-range
returns-clause-range c =
    let keys = c.in_ok-version.ensures.keys in
    record {
      version = c.in_ok-version.ensures.range;
      k = c.in_ok-k.ensures.range.1;
      freeze = c.in_ok-freeze.ensures.range.1;
      shift = within_shift c.in_ok-version.version c.in_ok-k.k c.in_ok-objective.objective
          (rw c.is_beyond.ensures at c.if-is_beyond.false);
      clock = c.in_ok-clock.ensures.range;
      frozen = c.in_ok-frozen.ensures.range;
      carry = refl;
      passed = c.in_ok-passed.ensures.range;
      no_clock = λ low. no_clock _ c.in_ok-clock.clock c.in_ok-clock.ensures.value (c.get-6.ensures ∙ keys.clock low);
      none_frozen = λ low. none_frozen c.in_ok-clock.clock c.in_ok-freeze.freeze _ c.in_ok-frozen.frozen
          c.in_ok-frozen.ensures.value (c.get-7.ensures ∙ keys.frozen low);
      none_passed = λ other. none_passed c.in_ok-k.k _ c.in_ok-passed.passed c.in_ok-passed.ensures.value
          (c.get-8.ensures ∙ keys.passed (early c.in_ok-version.version other c.in_ok-version.ensures.range.1));
    }
