-- The last span, which pop takes off, is put back or runs on.
use Rattle.std.proofs.Common.{◌≡◌, ◌+◌, arith, ◌∙◌, append-nil}
use Rattle.landing_windows.proofs.Sweep.{ends_before, none_more, end_sooner, apart_more, alone_more, joined_more}
use Rattle.landing_windows.proofs.open_times.add_run.Goals.{in-Some+then-end-first+in_ok-push, in-Some+else-end-first}
use Rattle.landing_windows.proofs.open_times.add_run.Goals.{in_default}
use Rattle.landing_windows.proofs.open_times.add_run.Goals as goal

pub returns-then-last-first : goal.returns-then-last-first
returns-then-last-first c = search (none_more)

pub overflow_add-end : goal.overflow_add-end
overflow_add-end c = grind (arith, ends_before)

pub returns : goal.returns
returns c =
    rw c.in_ok-push-2.ensures.ok (
    elim c.match-pop.branch [
      | in-Some+then-end-first+in_ok-push w ↦
          rw (w.spans-is, w.start-is, w.in_ok-push.ensures.ok, w.in-Some.ensures.items) (
          apart_more _ _ _ (rw w.in-Some.ensures.items at c.requires.maximal)
          (end_sooner _ _ _ (rw w.in-Some.ensures.items at c.requires.maximal) w.if-end-first.true)
          c.if-last-first.false c.requires.in_days)
      | in-Some+else-end-first w ↦
          let all = rw w.in-Some.ensures.items at c.requires.before in
          let touches : w.in-Some.end + 1 ≡ c.args.first = let ends = ends_before _ _ _ all in omega arith in
          rw (w.spans-is, w.start-is, w.in-Some.ensures.items, ← touches)
          (joined_more _ _ _ (rw w.in-Some.ensures.items at c.requires.maximal) (omega arith) c.requires.in_days)
      | in_default w ↦
          let same : c.args.spans.now.items ≡ c.pop.new.self.items = w.in_default.ensures.items ∙ append-nil _ in
          rw (w.spans-is, w.start-is, ← same)
          (alone_more _ _ _ (λ some. cc (w.in_default.ensures.variant.1 some)) c.if-last-first.false
          c.requires.in_days)
    ])
