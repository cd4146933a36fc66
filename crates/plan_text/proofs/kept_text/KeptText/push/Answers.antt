use Rattle.std.proofs.Common.{◌≡◌, ℕ, ◌++◌, [], ◌∷◌, length, drop, sym, ap, subst, ◌∙◌, arith, rules}
use Rattle.std.proofs.lemmas.List.{length-append}
use Rattle.landing_rules.specs.Text.{line, landing_words}
use Rattle.plan_file.specs.Shown.{shown_of}
use Rattle.plan_text.specs.Kept.{EndAt}
use Rattle.plan_text.specs.declared.kept_text.Line.{Line}
use Rattle.plan_text.proofs.Kept.{of_lines, of_lines_more, ends_more, drop_grown, length_behind}
use Rattle.plan_text.proofs.kept_text.KeptText.push.Goals as goal

pub invariant_of-self : goal.invariant_of-self
invariant_of-self c =
    let h = c.self.inside.head in
    let ls = c.self.inside.lines.items in
    let old = c.self.inside.text.items in
    let w = line (landing_words (shown_of c.args.landing)) in
    let l : Line = record { landing = c.args.landing; end = c.saturating_sub-end.result } in
    let text : c.append_landing.new.into.items ≡ old ++ w = search rules in
    let lines : c.push.new.self.items ≡ ls ++ l ∷ [] = search rules in
    let behind : drop h (old ++ w) ≡ of_lines ls ++ w = drop_grown h old w c.self.invariant.head
    ∙ ap (λ t. t ++ w) c.self.invariant.lines in
    let within = c.self.invariant.head in
    let grown = length-append old w in
    let long = length_behind h (old ++ w) (omega arith) in
    let size = ap (length {A = ℕ}) text in
    let rest = ap (length {A = ℕ}) behind in
    let v = c.append_landing.new.into.ok.0 in
    let n = c.len.ensures in
    let s = c.saturating_sub-end.ensures in
    record {
      head = omega arith;
      lines = ap (drop h) text ∙ behind ∙ sym (of_lines_more ls l) ∙ ap of_lines (sym lines);
      ends = subst (EndAt 0) (sym lines) (ends_more 0 ls l c.self.invariant.ends (omega arith));
    }
