-- The pieces one behind the other are the words of the cause.
use Rattle.std.proofs.Common.{append_assoc}
use Rattle.plan_text.proofs.refusal.append_covered.Goals as goal

pub returns : goal.returns
returns c =
    rw (
      c.in_ok-extend_from_slice-3.ensures.items,
      c.as_bytes.ensures.value,
      c.format.ensures.text,
      c.in_ok-push.ensures.items,
      c.in_ok-extend_from_slice-2.ensures.items,
      c.bytes.ensures.value,
      c.in_ok-extend_from_slice.ensures.items,
    ) (simp append_assoc)
