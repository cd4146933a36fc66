use Rattle.std.proofs.lemmas.Result.{IfOk-weaker}
use Rattle.plan_file.specs.Blocks.{seen_block}
use Rattle.audit.proofs.CleanBlocks.{clean_exactly}
use Rattle.audit.proofs.auditing.audit.Goals as goal

pub returns-clause-clean : goal.returns-clause-clean
returns-clause-clean c = IfOk-weaker c.found_in.result _ _ (λ all h. clean_exactly c.args.situation.now
    (seen_block c.args.block.now) all.items c.findings_are_whole.ensures.clean c.requires.sound h) c.found_in.ensures
