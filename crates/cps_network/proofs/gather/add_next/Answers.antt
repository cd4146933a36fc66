use Rattle.std.proofs.Common.{◌≡◌, ◌<◌, ◌∙◌, [], arith, ap, sym, subst, w8, to_z, of_z}
use Rattle.std.specs.Prelude.{ℤ}
use lib.Signed.{mag}
use Rattle.std.proofs.lemmas.Int.{ints}
use Rattle.std.proofs.lemmas.List.{get_or_default}
use Rattle.cps_nodes.specs.Windows.{Accepts, shifted}
use Rattle.cps_nodes.specs.Leads.{Extends}
use Rattle.cps_network.specs.declared.groups.Group.{Group}
use Rattle.cps_network.specs.Extended.{offset_of}
use Rattle.cps_network.specs.Lists.{node_at}
use Rattle.cps_network.proofs.GatherLemmas.{one_follows}
use Rattle.cps_network.proofs.LinkLemmas.{extends_by, places_on}
use Rattle.cps_network.proofs.ListLemmas.{ascends_on}
use Rattle.cps_network.proofs.gather.add_next.Goals as goal

-- a number of a byte is the same in a byte
same_byte : (x o : ℤ) → x ≡ o → mag x < 128 → to_z w8 (of_z w8 x) ≡ o
same_byte x o e few = omega (arith, ints)

pub after-next-requires : goal.after-next-requires
after-next-requires g c =
    let front : c.index-before-group.result ≡ node_at c.args.before.now c.args.group.from =
    c.index-before-group.is ∙ get_or_default c.args.before.now c.args.group.from
    c.index-before-group.result [] c.requires.group.within in
    let offset : to_z w8 (of_z w8 c.offset_of.result) ≡ offset_of g.row.W c.args.j =
    same_byte _ _ c.offset_of.ensures c.offset_of.type_inv in (
      omega arith,
      (
        omega (arith, ints, offset),
        (
          omega (arith, ints, offset, c.requires.width, c.requires.bit),
          subst (Accepts c.index-before-group.result) (sym offset)
              (subst (λ xs. Accepts xs (offset_of g.row.W c.args.j)) (sym front)
              (c.requires.group.accepted c.args.j (c.has.ensures.0 c.if-not-has.false))),
        ),
      ),
    )

-- the window that is added
next_is : (g : _) (c : goal.In_ok-push g)
    → c.after-next.result ≡ shifted (node_at c.args.before.now c.args.group.from) (offset_of g.row.W c.args.j)
next_is g c =
    let front : c.index-before-group.result ≡ node_at c.args.before.now c.args.group.from =
    c.index-before-group.is ∙ get_or_default c.args.before.now c.args.group.from
    c.index-before-group.result [] c.requires.group.within in
    let offset : to_z w8 (of_z w8 c.offset_of.result) ≡ offset_of g.row.W c.args.j =
    same_byte _ _ c.offset_of.ensures c.offset_of.type_inv in
    c.after-next.ensures ∙ ap (shifted c.index-before-group.result) offset
    ∙ ap (λ xs. shifted xs (offset_of g.row.W c.args.j)) front

pub returns-clause-ascending : goal.returns-clause-ascending
returns-clause-ascending g c =
    ascends_on _ _ _ c.requires.ascending
    (λ x has. c.requires.before x _ has (record { offset = c.has.ensures.0 c.if-not-has.false; is = next_is g c }))
    c.in_ok-push.ensures.windows

pub returns-clause-members : goal.returns-clause-members
returns-clause-members g c =
    one_follows g.row.W c.args.before.now _ _ _ _ _ (c.has.ensures.0 c.if-not-has.false) (next_is g c)
    c.in_ok-push.ensures.windows

pub returns-clause-places : goal.returns-clause-places
returns-clause-places g c = λ groups few same have.
    let leads = extends_by g.row.W c.args.j c.args.before.now c.args.group c.after-next.result c.requires.width
    c.requires.bit c.requires.valid c.requires.group (c.has.ensures.0 c.if-not-has.false) (next_is g c) in
    places_on c.args.before.now groups _ _ _ _ c.after-next.result c.args.place few
    (subst (λ (h : Group). Extends (node_at c.args.before.now h.from) c.after-next.result) (sym same) leads)
    c.in_ok-push.ensures.windows c.in_ok-push.ensures.places have
