-- From what `check` may answer on a printed certificate to what a complete run of it does.
use Rattle.std.proofs.Common.{ℕ, List, [], ◌∷◌, inl, inr, ap, subst, ◌∙◌}
use Rattle.cps_outside.specs.SinkState.{Grows}
use Rattle.cps_top.specs.declared.commands.Command.TheVariants.{Check}
use Rattle.cps_top.specs.AcceptedRuns.{PrintedRunsAcceptedLaw}
use Rattle.certificate_commands.specs.Certify.{PrintedIsAcceptedLaw}
use Rattle.endings.specs.Lines.{answer_status}

pub runs_accepted : PrintedIsAcceptedLaw → PrintedRunsAcceptedLaw
runs_accepted law words old new status a f text answer printed there done unfailed unhurt =
    let accepted = law a f text answer printed in
    elim (done.complete Check (a ∷ f ∷ text ∷ []) there accepted.taken unfailed unhurt) [
      | inl short ↦ inl short
      | inr ended ↦
          let prints = ended.2 in
          let same = (accepted.answered prints.text ended.0).0 prints.admitted in
          inr (
            ended.1 ∙ ap answer_status same.1,
            subst (λ (line : List ℕ). Grows old.out new.out line) same.0 prints.written.grew,
          )
    ]
