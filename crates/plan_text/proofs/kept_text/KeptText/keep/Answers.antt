use Rattle.std.proofs.Common.{◌≡◌, ℕ, ◌+◌, List, length, map, take, drop, sym, ap, ap₂, subst, ◌∙◌, arith}
use Rattle.std.proofs.lemmas.List.{length-take, take-map}
use Rattle.landing_rules.specs.Text.{Bytes, ShownLanding}
use Rattle.plan_text.specs.Kept.{Written, landing_of, EndAt}
use Rattle.plan_text.proofs.Kept.{of_lines, ends_first, first_lines, first_short, drop_first, take_first, length_behind}
use Rattle.plan_text.proofs.kept_text.KeptText.keep.Goals as goal

pub overflow_add-end : goal.overflow_add-end
overflow_add-end c = grind (arith, first_short, length_behind)

pub invariant_of-self : goal.invariant_of-self
invariant_of-self c =
    let h = c.self.inside.head in
    let ls = c.self.inside.lines.items in
    let text = c.self.inside.text.items in
    let e = c.end_of.result in
    let end : e ≡ length (of_lines (take c.args.count ls)) =
    c.end_of.ensures ∙ ap (λ l. length (of_lines (take c.args.count l))) c.deref.ensures.value in
    let short = first_short ls c.args.count in
    let all = ap (length {A = ℕ}) c.self.invariant.lines in
    let within = c.self.invariant.head in
    let behind = length_behind h text within in
    let cut = length-take (h + e) text in
    let same = ap (length {A = ℕ}) c.truncate-2.ensures.items in
    record {
      head = omega arith;
      lines = ap (drop h) c.truncate-2.ensures.items ∙ drop_first h e text
          ∙ ap₂ (λ (n : ℕ) (t : Bytes). take n t) end c.self.invariant.lines ∙ first_lines ls c.args.count
          ∙ ap of_lines (sym c.truncate.ensures.items);
      ends = subst (EndAt 0) (sym c.truncate.ensures.items) (ends_first 0 ls c.args.count c.self.invariant.ends);
    }

pub returns : goal.returns
returns c =
    let h = c.self.inside.head in
    ap₂ (λ (b : Bytes) (l : List ShownLanding). (let w : Written = record { head = b; landings = l } in w))
    (ap (take h) c.truncate-2.ensures.items ∙ take_first h c.end_of.result c.self.inside.text.items
    ∙ ap (λ (w : Written). w.head) c.self.view_is)
    (ap (map landing_of) c.truncate.ensures.items ∙ sym (take-map landing_of c.args.count c.self.inside.lines.items)
    ∙ ap (λ (w : Written). take c.args.count w.landings) c.self.view_is)
