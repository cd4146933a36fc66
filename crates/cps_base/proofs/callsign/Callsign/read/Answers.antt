-- The eight bytes hold the text with zeros behind it.
use Rattle.std.proofs.Common.{◌≡◌, ℕ, ◌++◌, List, true, rules, take, drop, length, replicate, sym, refl, ◌∙◌}
use Rattle.std.proofs.Math.Seq.{take-append_seam}
use Rattle.std.proofs.lemmas.List.{drop-replicate}
use Rattle.cps_base.specs.Text.{is_callsign}
use Rattle.cps_base.specs.Padded.{padded}
use Rattle.cps_base.proofs.callsign.Callsign.read.Goals as goal

-- what stands in the eight bytes, and its front
kept : (text : List ℕ) → text ++ drop (length text) (replicate 8 0) ≡ padded 0 8 text
kept text = rw (drop-replicate {X = ℕ} (length text) 8 0)

front : (text : List ℕ) → take (length text) (text ++ drop (length text) (replicate 8 0)) ≡ text
front text = take-append_seam text _

pub invariant_of-result : goal.invariant_of-result
invariant_of-result c =
    let callsign : is_callsign c.args.text.now ≡ true = sym c.is_callsign.ensures ∙ c.if-not-is_callsign.false in
    rw (c.copy_from_slice.ensures.after, front c.args.text.now) (kept c.args.text.now, refl, search (rules, callsign))

pub returns : goal.returns
returns c =
    let callsign : is_callsign c.args.text.now ≡ true = sym c.is_callsign.ensures ∙ c.if-not-is_callsign.false in
    rw (c.copy_from_slice.ensures.after, front c.args.text.now, callsign) refl
