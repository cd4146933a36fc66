-- What stands goes on by a text, whole or in part.
use Rattle.std.proofs.Common.{◌≡◌, ℕ, ◌+◌, ◌^◌, ◌<◌, ◌≤◌, [], ◌++◌, length, refl, ap, sym, subst, ◌∙◌, arith}
use Rattle.std.proofs.Common.{append_assoc, length-append}
use Rattle.std.proofs.lemmas.List.{append-nil}
use Rattle.cps_outside.specs.Puts.{Wrote, WrotePart}
use Rattle.cps_outside.specs.SinkState.{SinkState, CountsPuts}
use Rattle.landing_rules.specs.Text.{Bytes}

-- the puts of both
counted_both : (m n : ℕ) (old mid new : SinkState) → CountsPuts m old mid → CountsPuts n mid new
    → CountsPuts (m + n) old new
counted_both m n old mid new a b = omega (arith, a, b)

-- no put is counted of a count that its type can hold
pub wrote_nothing : (old : SinkState) → old.puts < 2 ^ 64 → Wrote 0 old old []
wrote_nothing old fits = record {
  tells = refl;
  sure = refl;
  faults = omega arith;
  grew = λ told. sym (append-nil old.written);
  left = λ sure. omega arith;
  counted = omega (arith, fits);
}

pub wrote_after : (m n : ℕ) (old mid new : SinkState) (x y : Bytes) → Wrote m old mid x → Wrote n mid new y
    → Wrote (m + n) old new (x ++ y)
wrote_after m n old mid new x y a b = record {
  tells = b.tells ∙ a.tells;
  sure = b.sure ∙ a.sure;
  faults = omega (arith, a.faults, b.faults);
  grew = λ told. b.grew (a.tells ∙ told) ∙ ap (λ (w : Bytes). w ++ y) (a.grew told) ∙ append_assoc old.written x y;
  left = λ sure.
      let first : old.room ≤ mid.room + length x = a.left sure in
      let then : mid.room ≤ new.room + length y = b.left (a.sure ∙ sure) in
      omega (arith, first, then, length-append x y);
  counted = counted_both m n old mid new a.counted b.counted;
}

pub part_after : (m n : ℕ) (old mid new : SinkState) (x whole last : Bytes) → Wrote m old mid x
    → WrotePart n mid new whole last → WrotePart (m + n) old new (x ++ whole) last
part_after m n old mid new x whole last a b = record {
  tells = b.tells ∙ a.tells;
  grew = λ told. let p = b.grew (a.tells ∙ told) in (
    p.0,
    p.1,
    p.2,
    p.3 ∙ ap (λ (w : Bytes). w ++ (whole ++ p.0)) (a.grew told) ∙ append_assoc old.written x (whole ++ p.0)
        ∙ ap (λ (w : Bytes). old.written ++ w) (sym (append_assoc x whole p.0)),
  );
  failed = omega (arith, a.faults, b.failed);
  lacked = λ sure.
      let first : old.room ≤ mid.room + length x = a.left sure in
      let short : mid.room < length (whole ++ last) = b.lacked (a.sure ∙ sure) in
      omega (arith, first, short, length-append x whole, length-append whole last, length-append (x ++ whole) last);
  counted =
      subst (λ puts. CountsPuts puts old new) (omega arith) (counted_both m (n + 1) old mid new a.counted b.counted);
}

-- the put behind a text that stands failed
pub failed_after : (m : ℕ) (old mid new : SinkState) (x last : Bytes) → Wrote m old mid x → WrotePart 0 mid new [] last
    → WrotePart m old new x last
failed_after m old mid new x last a b =
    let none : m + 0 ≡ m = omega arith in
    subst (λ n. WrotePart n old new x last) none
    (subst (λ (w : Bytes). WrotePart (m + 0) old new w last) (append-nil x) (part_after m 0 old mid new x [] last a b))
