use Rattle.std.proofs.Common.{◌≡◌, List, [], ◌++◌, length, map, sym, ap, append-nil, ◌∙◌, arith}
use Rattle.std.proofs.lemmas.List.{length-map}
use Rattle.landing_rules.specs.Audit.{Finding, lines_found}
use Rattle.plan_file.specs.Shown.{shown_of}
use Rattle.audit.proofs.FoundLines.{none_unknown}
use Rattle.audit.proofs.names.unknown_unless.Goals as goal

nothing_more : (old more : List Finding) → more ≡ [] → old ≡ old ++ more
nothing_more old more e = sym (append-nil old) ∙ ap (λ l. old ++ l) (sym e)

pub returns-then-found-lines : goal.returns-then-found-lines
returns-then-found-lines c =
    let active = c.args.active.now in
    let lines = map shown_of c.args.lines.now in
    let n = length-map c.args.lines.now shown_of in
    let r = c.requires in
    let t = c.if-found-lines.true in
    let all : length (lines_found active lines) ≡ length lines = omega (arith, n, r, t) in
    nothing_more _ _ (none_unknown active lines all)
