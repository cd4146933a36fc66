-- A feasible schedule, said pair by pair, is one whose seconds land a legal order of all flights.
use Rattle.std.proofs.Common.{◌≡◌, ◌≢◌, ℕ, suc, ◌+◌, ◌<◌, ◌≤◌, inl, inr, List, [], ◌∷◌, ◌++◌, length}
use Rattle.std.proofs.Common.{true, ltb, arith, refl, sym, ap, subst, ◌∙◌, append_assoc, le_trans}
use Rattle.cps_theory.specs.RankLists.{Distinct, In, IsRank, upto}
use Rattle.cps_theory.specs.LandingTrail.{Landed, cost_of, latest_landing, ranks}
use Rattle.cps_theory.specs.LegalPrefix.{EachFits}
use Rattle.cps_theory.specs.Feasible.{Feasible, LandsAllRanks, RankedProblem, SoundProblem, at_seconds, earlier}
use Rattle.cps_theory.specs.Feasible.{next_from, total}
use Rattle.cps_theory.specs.laws.FrozenFront.{each_fits_distinct}
use Rattle.cps_theory.specs.laws.LandingOrder.{sorted, Descends, sorted_in, in_sorted, length-sorted, sorted_descends}
use Rattle.cps_theory.specs.laws.LandingOrder.{descends_distinct, descends_place}
use Rattle.cps_theory.specs.laws.LegalPrefix.{legal_each_fits, prefix_legal, in_from_one}
use Rattle.cps_theory.specs.laws.Members.{in_middle}
use Rattle.cps_theory.specs.laws.RankCounts.{count, count_is}
use Rattle.cps_theory.specs.laws.RanksOfList.{all_ranks, count_ranks, total_ranks}

-- the seconds do not change which ranks stand in a list
pub ranks_at : (t : ℕ → ℕ) (rs : List ℕ) → ranks (at_seconds t rs) ≡ rs
ranks_at t [] = refl
ranks_at t (r ∷ rs) = ap (λ l. r ∷ l) (ranks_at t rs)

-- landings of different ranks are those at the seconds that they show
pub at_seconds_agree : (t t' : ℕ → ℕ) (rs : List ℕ) → ((r : ℕ) → In r rs → t r ≡ t' r)
    → at_seconds t rs ≡ at_seconds t' rs
at_seconds_agree t t' [] h = refl
at_seconds_agree t t' (r ∷ rs) h = grind (arith, at_seconds_agree t t' rs)

-- how many land earlier, counted over any list of all ranks
pub earlier_in : (n : ℕ) (t : ℕ → ℕ) (r : ℕ) (rs : List ℕ) → Distinct rs → ((x : ℕ) → In x rs → IsRank n x)
    → length rs ≡ n → earlier n t r ≡ count (λ q. ltb (t q) (t r)) rs
earlier_in n t r rs d in' e = count_is _ _ ∙ sym (count_ranks _ n rs d in' e)

module _ (p : RankedProblem) (t : ℕ → ℕ) (sound : SoundProblem p) where
  abbrev LandsAt : List ℕ → Type 0
  LandsAt rs = Landed (λ r u. p.is_open r u ≡ true) (next_from p) (at_seconds t rs)

  -- ---- from an order to the pairs

  from_last : (l u r : ℕ) → p.start r ≤ next_from p l u r
  from_last l u r = grind arith

  after_last : (l u r : ℕ) → 1 ≤ l → u + p.apart l r ≤ next_from p l u r
  after_last l u r one = grind arith

  landed_at : (x : ℕ) (rs : List ℕ) → LandsAt rs → In x rs → (p.is_open x (t x) ≡ true) × (p.start x ≤ t x)
  landed_at x [] l i = absurd i
  landed_at x (r ∷ rs) l i = grind (arith, from_last, le_trans, landed_at x rs)

  -- each earlier one is apart from the latest
  apart_head : (y r : ℕ) (rs : List ℕ) → EachFits p.rules rs → LandsAt (r ∷ rs) → In y rs → t y + p.apart y r ≤ t r
  apart_head y r [] pl l i = absurd i
  apart_head y r (q ∷ rs) pl l i = grind (arith, le_trans, after_last, apart_head y q rs pl.1 l.2)

  below_head : (y r : ℕ) (rs : List ℕ) → EachFits p.rules rs → LandsAt (r ∷ rs) → In y rs → t y < t r
  below_head y r rs pl l i = omega (arith, apart_head y r rs pl l i)

  pub landed_descends : (rs : List ℕ) → EachFits p.rules rs → LandsAt rs → Descends t rs
  landed_descends [] pl l = tt
  landed_descends (r ∷ rs) pl l = (λ y i. below_head y r rs pl.1 l i, landed_descends rs pl.1 l.2)

  apart_in : (f g : ℕ) (rs : List ℕ) → EachFits p.rules rs → LandsAt rs → In f rs → In g rs
      → f ≢ g → t f ≤ t g → t f + p.apart f g ≤ t g
  apart_in f g [] pl l i j ne le = grind (arith, below_head, apart_head)
  apart_in f g (r ∷ rs) pl l i j ne le = grind (arith, below_head, apart_head, apart_in f g rs)

  order_in : (f g : ℕ) (rs : List ℕ) → EachFits p.rules rs → LandsAt rs → In g rs → p.rules.before f g ≡ true
      → t f < t g
  order_in f g [] pl l i b = absurd i
  order_in f g (r ∷ rs) pl l i b = grind (arith, below_head, order_in f g rs)

  -- the place of each
  place_in : (all : List ℕ) → Descends t all → (front rs : List ℕ) → all ≡ front ++ rs → EachFits p.rules rs
      → (r : ℕ) → In r rs → (r ≤ suc (count (λ q. ltb (t q) (t r)) all) + p.rules.most)
      × (suc (count (λ q. ltb (t q) (t r)) all) ≤ r + p.rules.back r)
  place_in all d front [] e pl r i = absurd i
  place_in all d front (x ∷ rs) e pl r (inr i) =
      place_in all d (front ++ x ∷ []) rs (e ∙ sym (append_assoc _ _ rs)) pl.1 r i
  place_in all d front (x ∷ rs) e pl r (inl s) = grind (arith, count, descends_place)

  pub lands_feasible : (rs : List ℕ) → LandsAllRanks p t rs → Feasible p t
  lands_feasible rs l =
      let n = p.rules.count in
      let pl = legal_each_fits _ rs l.legal in
      let d = each_fits_distinct _ rs pl in
      let in' : (x : ℕ) → In x rs → IsRank n x = λ x i. in_from_one _ x rs pl i in
      let has = all_ranks n rs d in' l.whole in
      let place = place_in rs (landed_descends rs pl l.landed) [] rs refl pl in
      record {
        opened = λ r q. (landed_at r rs l.landed (has r q)).0;
        started = λ r q. (landed_at r rs l.landed (has r q)).1;
        separated = λ f g qf qg ne le. apart_in f g rs pl l.landed (has f qf) (has g qg) ne le;
        in_order = λ f g qf qg b. order_in f g rs pl l.landed (has g qg) b;
        not_early = λ r q. subst (λ m. r ≤ suc m + p.rules.most) (sym (earlier_in n t r rs d in' l.whole))
            (place r (has r q)).0;
        not_late = grind (arith, earlier_in);
      }

  -- ---- from the pairs to the order by seconds

  module _ (f : Feasible p t) where
    apart_seconds : (a b : ℕ) → IsRank p.rules.count a → IsRank p.rules.count b → a ≢ b → t a ≢ t b
    apart_seconds a b qa qb ne e = omega (arith, sound.positive a b)

    descends : Descends t (sorted t p.rules.count)
    descends = sorted_descends t _ apart_seconds

    -- what lands before an element of the order stands behind it
    behind : (front : List ℕ) (r : ℕ) (rs : List ℕ) → Descends t (front ++ r ∷ rs) → (x : ℕ)
        → In x (front ++ r ∷ rs) → t x < t r → In x rs
    behind [] r rs d x k lt = grind (arith, in_middle)
    behind (y ∷ front) r rs d x k lt = grind (arith, in_middle, behind front)

    tail_descends : (front rs : List ℕ) → Descends t (front ++ rs) → Descends t rs
    tail_descends [] rs d = d
    tail_descends (y ∷ front) rs d = tail_descends front rs d.1

    from_next : (rs : List ℕ) (r : ℕ) → ((x : ℕ) → In x (r ∷ rs) → IsRank p.rules.count x)
        → Descends t (r ∷ rs) → next_from p (latest_landing (at_seconds t rs)).0
        (latest_landing (at_seconds t rs)).1 r ≤ t r
    from_next [] r in' d = f.started r (in' r (inl refl))
    from_next rs r in' d = grind arith

    walk : (front rs : List ℕ) → sorted t p.rules.count ≡ front ++ rs → EachFits p.rules rs × LandsAt rs
    walk front [] e = (tt, tt)
    walk front (r ∷ rs) e =
        let n = p.rules.count in
        let d = rw e at descends in
        let in' : (x : ℕ) → In x (front ++ r ∷ rs) → IsRank n x = λ x i. sorted_in t n x (rw e i) in
        let q = in' r (in_middle r front rs) in
        let rest = walk (front ++ r ∷ []) rs (e ∙ sym (append_assoc front _ rs)) in
        let dr = tail_descends front (r ∷ rs) d in
        let place =
        earlier_in n t r _ (descends_distinct t _ descends) (sorted_in t n) (length-sorted t n)
        ∙ ap (count (λ x. ltb (t x) (t r))) e ∙ descends_place t front r rs d in (
          (
            record {
              from_one = q.0;
              to_count = q.1;
              is_new = λ i. omega (arith, dr.0 r i);
              not_early = omega arith;
              not_late = omega arith;
              after = λ a b. let qa = sound.ranked a r b in behind front r rs d a (subst (In a) e (in_sorted t n a qa))
                  (f.in_order a r qa q b);
            },
            rest.0,
          ),
          (f.opened r q, from_next rs r (λ x i. in' x (in_right x front (r ∷ rs) i)) dr, rest.1),
        )
      where
        in_right : (x : ℕ) (front rs : List ℕ) → In x rs → In x (front ++ rs)
        in_right x [] rs i = i
        in_right x (y ∷ front) rs i = inr (in_right x front rs i)

    pub feasible_lands : LandsAllRanks p t (sorted t p.rules.count)
    feasible_lands =
        let n = p.rules.count in
        let w = walk [] (sorted t n) refl in
        record {
          legal = prefix_legal p.rules sound.low (sorted t n)
              (search (arith, length-sorted, in_sorted));
          whole = length-sorted t n;
          landed = w.1;
        }

  -- ---- the objectives

  cost_at : (cost : ℕ → ℕ → ℕ) (rs : List ℕ) → cost_of cost (at_seconds t rs) ≡ total (λ r. cost r (t r)) rs
  cost_at cost [] = refl
  cost_at cost (r ∷ rs) = omega (arith, cost_at cost rs)

  pub cost_all : (cost : ℕ → ℕ → ℕ) (rs : List ℕ) → LandsAllRanks p t rs
      → cost_of cost (at_seconds t rs) ≡ total (λ r. cost r (t r)) (upto p.rules.count)
  cost_all cost rs l = grind (arith, legal_each_fits, cost_at, total_ranks, each_fits_distinct, in_from_one)

  -- the last second is the greatest
  pub last_greatest : (rs : List ℕ) → LandsAllRanks p t rs → (r : ℕ) → IsRank p.rules.count r
      → t r ≤ (latest_landing (at_seconds t rs)).1
  last_greatest rs l r q =
      let pl = legal_each_fits _ rs l.legal in
      go rs (landed_descends rs pl l.landed) (all_ranks _ rs (each_fits_distinct _ rs pl)
      (λ x i. in_from_one _ x rs pl i) l.whole r q)
    where
      go : (rs : List ℕ) → Descends t rs → In r rs → t r ≤ (latest_landing (at_seconds t rs)).1
      go [] d i = absurd i
      go (x ∷ rs) d i = grind arith
