use Rattle.std.proofs.Common.{arith}
use Rattle.std.proofs.lemmas.Grind.{common_steps}
use Rattle.std.proofs.Common.{inl, inr, map, string_bytes}
use Rattle.std.proofs.lemmas.List.{map-append}
use Rattle.endings.proofs.Loading.{next_name, is_name, all_loaded, asked_unless, loads_more, fails_next, too_long_next}
use Rattle.endings.proofs.Loading.{asks_next}
use Rattle.endings.proofs.loads.load_all.Goals as goal

pub returns-in-Err-Failed : goal.returns-in-Err-Failed
returns-in-Err-Failed g c = grind (arith, common_steps, next_name, fails_next, is_name, asked_unless)

pub returns-in-Err-TooLong : goal.returns-in-Err-TooLong
returns-in-Err-TooLong g c = grind (arith, common_steps, next_name, too_long_next, is_name, asked_unless)

pub returns-in-Err-Memory : goal.returns-in-Err-Memory
returns-in-Err-Memory g c =
    let step = next_name c.args.names.now c.loop-index.index c.index-names-index.result c.as_str.result.now
    c.loop-index-test.true c.index-names-index.is c.as_str.ensures.value in
    asks_next (g.F.Folder.state c.args.folder.now) (g.F.Folder.state c.loop-index.folder)
    (g.F.Folder.state c.load.new.self) (map string_bytes c.args.names.now) _ c.loop-index.index
    c.as_str.result.now c.loop-index.invariant step
    (λ told. elim (c.load.ensures.asked told) [ inl more ↦ inl more | inr same ↦ inr same.1 ])

pub returns-then-is_err : goal.returns-then-is_err
returns-then-is_err g c =
    let step = next_name c.args.names.now c.loop-index.index c.index-names-index.result c.as_str.result.now
    c.loop-index-test.true c.index-names-index.is c.as_str.ensures.value in
    asks_next (g.F.Folder.state c.args.folder.now) (g.F.Folder.state c.loop-index.folder)
    (g.F.Folder.state c.load.new.self) (map string_bytes c.args.names.now) _ c.loop-index.index
    c.as_str.result.now c.loop-index.invariant step
    (λ told. elim (c.load.ensures.asked told) [ inl more ↦ inl more | inr same ↦ inr same.1 ])

pub loop-index-preserved : goal.loop-index-preserved
loop-index-preserved g c = grind (arith, common_steps, next_name, map-append, loads_more, asked_unless)

pub returns : goal.returns
returns g c = all_loaded _ _ c.args.names.now _ c.loop-index.index c.loop-index-test.false c.loop-index.invariant
