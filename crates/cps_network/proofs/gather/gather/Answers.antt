use Rattle.std.proofs.Common.{◌≡◌, ℕ, ◌<◌, ◌≤◌, arith, rules, inl, inr}
use Rattle.std.proofs.lemmas.Bool.{cases_lt}
use Rattle.cps_network.specs.Extended.{StandBefore, Follows, group_at}
use Rattle.cps_network.proofs.GatherLemmas.{grown_on, grown_upto}
use Rattle.cps_network.proofs.NextOrder.{later_block}
use Rattle.cps_network.proofs.gather.gather.Goals as goal

pub add_block-requires : goal.add_block-requires
add_block-requires g c =
    let before : StandBefore c.loop-from.gathered.windows.items
    (λ x. (k : ℕ) × (c.loop-from.from ≤ k) × (k < c.end_of_block-to.result)
    × Follows g.row.W c.args.before.now c.args.groups.now k x) =
    λ x next has (k, low_k, high_k, (l, few_l, follows)). elim ((c.loop-from.invariant.grown x).0 has) [
      | inl old ↦ absurd (search rules)
      | inr (i, none, lt, (j, few_j, earlier)) ↦
          let past = c.loop-from.invariant.past i lt (omega arith) in
          let level = c.end_of_block-to.ensures.level k low_k high_k in
          later_block g.row.W c.args.before.now c.args.groups.now c.requires.valid c.requires.groups c.requires.order
          i k j l x next (omega arith) (omega arith) (omega (arith, past, level)) earlier follows
    ] in search (rules, arith)

-- the groups of a block are below the next one
past : (groups : _) (from to : ℕ)
    → ((i : ℕ) → i < from → (group_at groups i).order < (group_at groups from).order)
    → ((i : ℕ) → from ≤ i → i < to → (group_at groups i).order ≡ (group_at groups from).order)
    → (group_at groups from).order < (group_at groups to).order
    → (i : ℕ) → i < to → (group_at groups i).order < (group_at groups to).order
past groups from to before level next i lt = elim (cases_lt i from) [
  | inl earlier ↦ let less = before i earlier in omega arith
  | inr here ↦ let same = level i here lt in omega arith
]

pub loop-from-preserved : goal.loop-from-preserved
loop-from-preserved g c = record {
  grown = grown_on (Follows g.row.W c.args.before.now c.args.groups.now) _ _ _ _ _ _ (omega arith)
      (omega arith) c.loop-from.invariant.grown c.in_ok-add_block.ensures.members;
  within = omega arith;
  ascending = c.in_ok-add_block.ensures.ascending;
  places = c.in_ok-add_block.ensures.places;
  past = λ i lt few.
      let rises = c.requires.order.rising c.loop-from.from c.end_of_block-to.result (omega arith) few in
      let ends = c.end_of_block-to.ensures.ends few in
      past c.args.groups.now _ _ (λ m below. c.loop-from.invariant.past m below (omega arith))
      c.end_of_block-to.ensures.level (grind arith) i lt;
}

pub returns-clause-members : goal.returns-clause-members
returns-clause-members g c = grown_upto (Follows g.row.W c.args.before.now c.args.groups.now) _ _ _ _ _ (omega arith)
    c.loop-from.invariant.grown
