use Rattle.std.proofs.Common.{◌≡◌, ◌++◌, ℕ, length, take, drop, sym, ap, ap₂, ◌∙◌, arith}
use Rattle.std.proofs.lemmas.List.{length-append, with_items_is}
use Rattle.std.proofs.Math.Seq.{take-append_seam}
use Rattle.plan_text.proofs.Kept.{drop_seam}
use Rattle.plan_text.proofs.kept_text.KeptText.set_head.Goals as goal
use Rattle.plan_text.proofs.kept_text.KeptText.set_head.Goals.{After-drop-head}

size : (c : After-drop-head) → length c.args.head.items ≡ c.self.inside.head
size c = let v = c.args.head.ok.0 in let n = c.len-count.ensures in cc

-- the head, and what stood behind the one before
bytes : (c : After-drop-head) → c.overwrite.new.text ≡ c.args.head.items
    ++ drop c.self.inside.head c.self.inside.text.items
bytes c = grind arith

as_long : (c : After-drop-head) → length c.overwrite.new.text ≡ c.self.inside.text.len
as_long c = grind arith

text : (c : After-drop-head) → take c.self.inside.text.len (c.overwrite.new.text
    ++ drop (length c.overwrite.new.text) c.self.inside.text.items) ≡ c.args.head.items
    ++ drop c.self.inside.head c.self.inside.text.items
text c = grind (arith, with_items_is, as_long, bytes)

pub invariant_of-self : goal.invariant_of-self
invariant_of-self c =
    let hs = c.args.head.items in
    let behind = drop c.self.inside.head c.self.inside.text.items in
    record {
      head = let e = ap (length {A = ℕ}) (text c) in let a = length-append hs behind in let n = size c in omega arith;
      lines = ap (drop c.self.inside.head) (text c) ∙ ap (λ n. drop n (hs ++ behind)) (sym (size c))
          ∙ drop_seam hs behind ∙ c.self.invariant.lines;
      ends = c.self.invariant.ends;
    }

pub returns-then-count-self : goal.returns-then-count-self
returns-then-count-self c = grind (arith, ap₂, text, size, take-append_seam)
