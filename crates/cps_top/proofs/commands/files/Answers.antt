use Rattle.cps_top.proofs.FilesOf.{names_in_default}
use Rattle.cps_top.proofs.commands.files.Goals as goal

pub returns-in_default : goal.returns-in_default
returns-in_default c =
    let names = names_in_default c.args.words.now c.args.command c.requires c.in_default.not-Trial in
    record { names = names.0; count = names.1 }
