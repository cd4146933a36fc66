-- One window more is put together.
use Rattle.replan.specs.shared.Pushed.{each_pushed, each_upto}
use Rattle.std.proofs.Common.{◌≡◌, ℕ, ◌+◌, ◌<◌, inl, inr, List, [], ◌∷◌, ◌++◌, length, length-append, refl, sym, ap}
use Rattle.std.proofs.Common.{◌∙◌, arith}
use Rattle.std.specs.Prelude.{ℤ}
use Rattle.std.proofs.lemmas.List.{get_or_append_left, get_or_push}
use Rattle.cps_network.specs.Lists.{node_at}
use Rattle.cps_network.specs.Nodes.{latest}
use Rattle.cps_network.specs.WindowRanks.{TellsPlaced}
use Rattle.cps_network.specs.declared.node.Node.{Node}
use Rattle.replan.specs.WindowNodes.{no_node, seen_at, told_at, AreOneNode, AreSame, ArePutTogether, AreSeen}
use Rattle.replan.specs.WindowNodes.{IsKeptOrPut, IsSeenAt}
use Rattle.replan.specs.shared.OneNode.{one_same, same_one}

-- the windows are put together, each node with what its first window tells
abbrev pub AreGrouped : ℕ → List (List ℤ) → ℕ → List ℕ → List ℕ → List Node → Type 0
AreGrouped stage windows count places firsts nodes = ArePutTogether stage windows count places firsts
    × AreSeen stage windows firsts nodes

module _ (stage : ℕ) (windows : List (List ℤ)) (count : ℕ) (places firsts : List ℕ) (nodes : List Node)
    (g : AreGrouped stage windows count places firsts nodes) (node : Node)
    (placed : TellsPlaced (node_at windows count) stage node.placed)
    (last : node.last ≡ latest (stage, node_at windows count)) where
  old_place : (place i : ℕ) → i < count → told_at (places ++ place ∷ []) i ≡ told_at places i
  old_place place i lt = get_or_append_left places (place ∷ []) 0 i (let l = g.0.long in omega arith)

  new_place : (place : ℕ) → told_at (places ++ place ∷ []) count ≡ place
  new_place place = get_or_push places place 0 count g.0.long

  -- the node that was seen at a place is this window's
  seen_one : (j : ℕ) → j < length firsts → AreSame (seen_at nodes j) node
      → AreOneNode stage (node_at windows (told_at firsts j)) (node_at windows count)
  seen_one j lt same = same_one stage _ _
      _ node.placed (g.1.placed j lt) placed same.0 (sym (g.1.last j lt) ∙ same.1 ∙ last)

  one_seen : (j : ℕ) → j < length firsts → AreOneNode stage (node_at windows (told_at firsts j)) (node_at windows count)
      → AreSame (seen_at nodes j) node
  one_seen j lt o = (
    one_same stage (node_at windows (told_at firsts j)) (node_at windows count) (seen_at nodes j).placed node.placed
        (g.1.placed j lt) placed o,
    g.1.last j lt ∙ o.last ∙ sym last,
  )

  kept_more : (place : ℕ) → IsSeenAt nodes node place
      → AreGrouped stage windows (count + 1) (places ++ place ∷ []) firsts nodes
  kept_more place there =
      let inside : place < length firsts = (let a = there.within in let b = g.1.one_each in omega arith) in (
        record {
          long = length-append places (place ∷ []) ∙ ap (λ n. n + 1) g.0.long;
          within = each_upto (λ i m. m < length firsts) places place 0 count g.0.long g.0.within inside;
          first = λ j lt. (let a = g.0.first j lt in omega arith);
          own = λ j lt. old_place place _ (g.0.first j lt) ∙ g.0.own j lt;
          one = each_upto (λ i m. AreOneNode stage (node_at windows (told_at firsts m)) (node_at windows i))
              places place 0 count g.0.long g.0.one (seen_one place inside there.here);
          apart = g.0.apart;
        },
        g.1,
      )

  module _ (is_new : (j : ℕ) → j < length nodes → AreSame (seen_at nodes j) node → ⊥) where
    abbrev more : List ℕ
    more = firsts ++ count ∷ []

    one_more : length more ≡ length firsts + 1
    one_more = length-append firsts (count ∷ [])

    old_first : (j : ℕ) → j < length firsts → told_at more j ≡ told_at firsts j
    old_first j lt = get_or_append_left firsts (count ∷ []) 0 j lt

    new_first : told_at more (length firsts) ≡ count
    new_first = get_or_push firsts count 0 _ refl

    old_seen : (j : ℕ) → j < length firsts → seen_at (nodes ++ node ∷ []) j ≡ seen_at nodes j
    old_seen j lt = get_or_append_left nodes (node ∷ []) no_node j (let e = g.1.one_each in omega arith)

    new_seen : seen_at (nodes ++ node ∷ []) (length firsts) ≡ node
    new_seen = get_or_push nodes node no_node _ g.1.one_each

    differs : (j : ℕ) → j < length firsts → AreOneNode stage (node_at windows (told_at firsts j))
        (node_at windows count) → ⊥
    differs j lt o = is_new j (let e = g.1.one_each in omega arith) (one_seen j lt o)

    turned : (xs ys : List ℤ) → AreOneNode stage xs ys → AreOneNode stage ys xs
    turned xs ys o = record { placed = λ rank one. ((o.placed rank one).1, (o.placed rank one).0); last = sym o.last }

    apart_more : (i : ℕ) → i < length more → (j : ℕ) → j < length more
        → AreOneNode stage (node_at windows (told_at more i)) (node_at windows (told_at more j)) → i ≡ j
    apart_more = each_pushed (λ i m. (j : ℕ) → j < length more
        → AreOneNode stage (node_at windows m) (node_at windows (told_at more j)) → i ≡ j) firsts count 0
        (λ i a. each_pushed (λ j m. AreOneNode stage (node_at windows (told_at firsts i)) (node_at windows m) → i ≡ j)
        firsts count 0 (λ j b o. g.0.apart i j a b o) (λ o. absurd (differs i a o)))
        (each_pushed (λ j m. AreOneNode stage (node_at windows count) (node_at windows m) → length firsts ≡ j)
        firsts count 0 (λ j b o. absurd (differs j b (turned _ _ o))) (λ o. refl))

    itself : (xs : List ℤ) → AreOneNode stage xs xs
    itself xs = record { placed = λ rank one. (λ p. p, λ p. p); last = refl }

    put_more : AreGrouped stage windows (count + 1) (places ++ length firsts ∷ []) more (nodes ++ node ∷ [])
    put_more = (
      record {
        long = length-append places (length firsts ∷ []) ∙ ap (λ (n : ℕ). n + 1) g.0.long;
        within = each_upto (λ i m. m < length more) places (length firsts) 0 count g.0.long (λ i lt. let a =
            g.0.within i lt in omega (arith, a, one_more)) (omega (arith, one_more));
        first = each_pushed (λ j f. f < count + 1) firsts count 0 (λ j lt. let a = g.0.first j lt in omega (arith, a))
            (omega arith);
        own = each_pushed (λ j f. told_at (places ++ length firsts ∷ []) f ≡ j) firsts count 0 (λ j lt. old_place
            (length firsts) (told_at firsts j) (g.0.first j lt) ∙ g.0.own j lt) (new_place (length firsts));
        one = each_upto (λ i m. AreOneNode stage (node_at windows (told_at more m)) (node_at windows i)) places
            (length firsts) 0 count g.0.long (λ i lt. rw (old_first (told_at places i) (g.0.within i lt))
            (g.0.one i lt)) (rw new_first (itself (node_at windows count)));
        apart = λ i j li lj o. apart_more i li j lj o;
      },
      record {
        one_each = length-append nodes (node ∷ []) ∙ ap (λ (n : ℕ). n + 1) g.1.one_each ∙ sym one_more;
        placed = each_pushed (λ j f. TellsPlaced (node_at windows f) stage (seen_at (nodes ++ node ∷ []) j).placed)
            firsts count 0 (λ j lt. rw (old_seen j lt) (g.1.placed j lt)) (rw new_seen placed);
        last = each_pushed (λ j f. (seen_at (nodes ++ node ∷ []) j).last ≡ latest (stage, node_at windows f))
            firsts count 0 (λ j lt. rw (old_seen j lt) (g.1.last j lt)) (rw new_seen last);
      },
    )

  pub one_window : (place : ℕ) (seen : List Node) (first : List ℕ)
      → IsKeptOrPut nodes seen firsts first node count place
      → AreGrouped stage windows (count + 1) (places ++ place ∷ []) first seen
  one_window place seen first (inl k) = rw (k.same_nodes, k.same_firsts) (kept_more place k.there)
  one_window place seen first (inr p) = rw (p.last, g.1.one_each, p.one_node, p.one_first) (put_more p.is_new)
