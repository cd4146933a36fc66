-- A command that prints its report, or none, does what is asked of it.
use Rattle.std.proofs.Common.{◌≡◌, ℕ, List, [], Ok, Err, Result, MatchResult, refl, subst, sym, inl}
use Rattle.cps_outside.specs.SinkState.{SinkState}
use Rattle.endings.specs.declared.ending.Answer.{Answer}
use Rattle.endings.specs.declared.ending.Ending.{Ending}
use Rattle.endings.specs.declared.ending.Ending.TheVariants.{Answered, Refused, NotWritten, NoMemory}
use Rattle.endings.specs.declared.ending.FilesFault.{FilesFault}
use Rattle.openings.specs.declared.report.Report.{Report}
use Rattle.openings.specs.Follows.{Finishes, FollowsAtOnce}
use Rattle.endings.specs.Refusing.{Stops}

-- one that stopped before it wrote
stopped : (Admits : List ℕ → Answer → Type 0) (Refuses : FilesFault → Type 0) (old new : SinkState) (ending : Ending)
    → new ≡ old → Stops Refuses ending → FollowsAtOnce Admits Refuses old new ending
stopped Admits Refuses old new (Refused cause) same stops = (stops, same)
stopped Admits Refuses old new NoMemory same stops = inl same
stopped Admits Refuses old new ending same stops = absurd stops

pub finished : (Admits : List ℕ → Answer → Type 0) (Refuses : FilesFault → Type 0) (report : Result Report Ending)
    (old new : SinkState) (ending : Ending) →
    MatchResult report (λ r. Admits r.text.items r.answer) (Stops Refuses) → Finishes report old new ending
    → FollowsAtOnce Admits Refuses old new ending
finished Admits Refuses (Err early) old new ending stops ends =
    stopped Admits Refuses old new ending ends.1 (subst (λ (e : Ending). Stops Refuses e) (sym ends.0) stops)
finished Admits Refuses (Ok r) old new (Answered answer) admits ends = record {
  text = r.text.items;
  admitted = subst (λ (x : Answer). Admits r.text.items x) (sym ends.0) admits;
  written = ends.1;
}
finished Admits Refuses (Ok r) old new NotWritten admits ends = record {
  puts = 0;
  whole = [];
  last = r.text.items;
  stood = inl (refl, refl);
  begun = (refl, (r.answer, admits));
  written = ends;
}
finished Admits Refuses (Ok r) old new ending admits ends = absurd ends
