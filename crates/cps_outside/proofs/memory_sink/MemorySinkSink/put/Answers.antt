-- What a failed put took is the first part of its piece, and a put that is to fail is listed.
use Rattle.std.proofs.Common.{rules, ◌≡◌, ℕ, ◌++◌, List, [], ◌∷◌, length, Some, take, drop, take-append-drop, arith}
use Rattle.std.specs.Prelude.{◌==◌, IsTrue}
use Rattle.cps_outside.specs.FailingPuts.{bytes_of_failing}
use Rattle.cps_outside.proofs.memory_sink.MemorySinkSink.put.Goals as goal

taken_part : (w new bytes : List ℕ) (n : ℕ) → new ≡ w ++ take n bytes →
    (first : List ℕ) × (rest : List ℕ) × (first ++ rest ≡ bytes) × (new ≡ w ++ first)
taken_part w new bytes n e = (take n bytes, drop n bytes, take-append-drop n bytes, e)

-- where no put is listed, none is to fail
none_to_fail : (failing : List (ℕ × ℕ)) (put taken : ℕ) → bytes_of_failing failing put ≡ Some taken
    → IsTrue (length failing == 0) → ⊥
none_to_fail [] put taken found sure = cc
none_to_fail (entry ∷ rest) put taken found sure = grind arith

pub returns-then-most-bytes-clause-writes : goal.returns-then-most-bytes-clause-writes
returns-then-most-bytes-clause-writes c = record {
  tells = search rules;
  sure = search rules;
  faults = search rules;
  ok = search rules;
  left = search rules;
  failed = search rules;
  lacked = search rules;
  part = λ told. taken_part _ _ c.args.bytes.now _ c.take-in-None.ensures.written;
}

pub returns-in-Some-clause-writes : goal.returns-in-Some-clause-writes
returns-in-Some-clause-writes c =
    let found : bytes_of_failing c.args.self.now.failing.items c.saturating_add-self.result ≡ Some c.in-Some.taken =
    cc in
    record {
      tells = search rules;
      sure = search rules;
      faults = search rules;
      ok = search rules;
      left = search rules;
      failed = search rules;
      lacked = λ sure. absurd (none_to_fail _ _ _ found sure);
      part = λ told. taken_part _ _ c.args.bytes.now _ c.take.ensures.written;
    }
