-- That windows which go on alike have the same successors.
use Rattle.std.proofs.Common.{rules, ◌≡◌, ℕ, ◌+◌, ◌*◌, ◌/◌, List, length, arith, ◌∙◌, sym}
use Rattle.std.specs.Prelude.{ℤ, pos}
use Rattle.std.proofs.lemmas.Int.{ints}
use Rattle.cps_nodes.specs.Leads.{GoOnAlike, IsWithin, TailMeetsHead}
use Rattle.cps_nodes.specs.Laws.{LeadOn, offset_after}
use Rattle.cps_nodes.specs.Windows.{IsWindow}
use Rattle.landing_rules.specs.Problem.{Problem}
use Rattle.cps_network.specs.Permits.{IsSuccessor, LeadAlike}

-- windows that go on alike have the same successors
pub IsSuccessor-alike : (p : Problem) (stage : ℕ) (xs ys next : List ℤ) → length xs ≡ 2 * p.k + 1 → GoOnAlike xs ys
    → IsSuccessor p stage xs next → IsSuccessor p stage ys next
IsSuccessor-alike p stage xs ys next len alike (rank, is, at) = (
  rank,
  record {
    from_one = is.from_one;
    to_count = is.to_count;
    early = is.early;
    late = is.late;
    accepted = (alike.accepts (offset_after stage rank) (omega (arith, ints, len, is.late))).0 is.accepted;
    after = λ first must. (alike.placed (pos stage) (pos first)).0 (is.after first must);
  },
  at ∙ alike.next (offset_after stage rank),
)

-- windows that lead to one window have the same offsets from the second on
pub lead_alike : (p : Problem) (w : ℕ) → w ≡ 2 * p.k + 1 → LeadOn w → LeadAlike p w
lead_alike p w odd law stage xs ys next a b meets (rank, is, at) =
    let within : IsWithin (pos (w / 2)) (offset_after stage rank) = search rules in
    let valid : IsWindow w next = grind arith in
    let own : IsWithin (pos (length xs / 2)) (offset_after stage rank) = grind arith in
    let head : TailMeetsHead xs next = (law.meets xs next a valid).0 (offset_after stage rank, own, is.accepted, at) in
    IsSuccessor-alike p stage xs ys next (a.len ∙ odd) (law.alike xs ys a b (head ∙ sym meets)) (rank, is, at)
