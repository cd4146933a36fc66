-- From a folder that is sure no load of files that are there fails, and into a sink that is sure no text fails for
-- which there is room.
use Rattle.std.proofs.Common.{◌≡◌, inl, inr, ℕ, ◌+◌, List, ◌++◌, IsTrue, arith}
use Rattle.cps_outside.specs.SinkState.{SinkState}
use Rattle.cps_top.specs.declared.commands.Command.{Command}
use Rattle.endings.specs.declared.ending.Ending.{Ending}
use Rattle.endings.specs.declared.ending.Ending.TheVariants.{NotWritten}
use Rattle.endings.specs.declared.ending.FilesFault.{FilesFault}
use Rattle.cps_top.specs.Commands.{IsCommandInRange, Refuses, TextsAreBoundedLaw}
use Rattle.endings.specs.Lines.{status_of}
use Rattle.endings.specs.Outside.{Outside}
use Rattle.cps_top.specs.Outcome.{Ends, Follows}
use Rattle.cps_top.specs.Statuses.{AreThere, HasRoom, HoldsEach, IsComplete, IsSure}
use Rattle.cps_top.proofs.ByCommand.{fits}
use Rattle.cps_top.proofs.Complete.{complete_unless, none_fails}
use Rattle.cps_top.proofs.Exact.{exact}
use Rattle.cps_top.proofs.Statuses.{asks}

none_unwritten : (command : Command) (contents : List (List ℕ)) (old new : SinkState)
    → IsTrue old.sure → HoldsEach command contents old → Follows command contents old new NotWritten → ⊥
none_unwritten command contents old new sure room unwritten =
    let text = unwritten.whole ++ unwritten.last in
    omega (arith, room (unwritten.puts + 1) text unwritten.begun, unwritten.written.lacked sure)

-- room for as many bytes as it prints at most holds each of its texts
holds_each : TextsAreBoundedLaw → (command : Command) (contents : List (List ℕ)) (sink : SinkState)
    → IsCommandInRange command → HasRoom command contents sink → HoldsEach command contents sink
holds_each law command contents sink range room puts text stands =
    omega (arith, law command contents puts text range stands, room)

pub is_sure : TextsAreBoundedLaw → (words : List (List ℕ)) (old new : Outside) (status : ℕ) (ending : Ending) →
    status ≡ status_of ending → Ends words old new ending → IsSure words old new status
is_sure law words old new status ending is ends = record {
  complete = λ command contents there folder taken out room. held command contents there folder taken out
      (holds_each law command contents old.out (fits words command there.named).1 room);
  held = held;
  refused = λ command contents refusal there folder refuses.
      elim ((exact words old new status ending is ends).refused command contents refusal there refuses) [
        | inl three ↦ inl three
        | inr (inl eight) ↦ inr eight
        | inr (inr four) ↦ (
            let fails = (asks words old new status ending is ends).failed four.0 in
            absurd (none_fails words old new command contents there fails.0 folder fails.1))
      ];
}
  where
    held : (command : Command) (contents : List (List ℕ)) → AreThere words old command contents
        → IsTrue old.folder.sure → ((refusal : FilesFault) → Refuses command contents refusal → ⊥)
        → IsTrue old.out.sure → HoldsEach command contents old.out → IsComplete command contents old new status
    held command contents there folder taken out room = complete_unless words old new command contents there
        status ending is ends taken (λ place fails. none_fails words old new command contents there place folder fails)
        (none_unwritten command contents old.out new.out out room)
