use Rattle.std.proofs.Common.{vec_items}
use Rattle.cps_top.proofs.FilesOf.{followed}
use Rattle.cps_top.proofs.commands.perform.Goals as goal

pub returns-in-Plan : goal.returns-in-Plan
returns-in-Plan g c = followed vec_items _ _ _ _ _ _ _ _ _ c.in-Plan.is c.requires.count c.file-aerodrome.ensures
    c.file-flights.ensures c.file-third.ensures c.run_plan.ensures

pub returns-in-Replay : goal.returns-in-Replay
returns-in-Replay g c = followed vec_items _ _ _ _ _ _ _ _ _ c.in-Replay.is c.requires.count c.file-aerodrome.ensures
    c.file-flights.ensures c.file-third.ensures c.run_replay.ensures

pub returns-in-Certify : goal.returns-in-Certify
returns-in-Certify g c = followed vec_items _ _ _ _ _ _ _ _ _ c.in-Certify.is c.requires.count c.file-aerodrome.ensures
    c.file-flights.ensures c.file-third.ensures c.run_certify.ensures

pub returns-in-Check : goal.returns-in-Check
returns-in-Check g c = followed vec_items _ _ _ _ _ _ _ _ _ c.in-Check.is c.requires.count c.file-aerodrome.ensures
    c.file-flights.ensures c.file-third.ensures c.run_check.ensures

pub returns-in-Effort : goal.returns-in-Effort
returns-in-Effort g c = followed vec_items _ _ _ _ _ _ _ _ _ c.in-Effort.is c.requires.count c.file-aerodrome.ensures
    c.file-flights.ensures c.file-third.ensures c.run_effort.ensures

pub returns-in-First : goal.returns-in-First
returns-in-First g c = followed vec_items _ _ _ _ _ _ _ _ _ c.in-First.is c.requires.count c.file-aerodrome.ensures
    c.file-flights.ensures c.file-third.ensures c.run_first.ensures

pub returns-in-WhatIf : goal.returns-in-WhatIf
returns-in-WhatIf g c = followed vec_items _ _ _ _ _ _ _ _ _ c.in-WhatIf.is c.requires.count c.file-aerodrome.ensures
    c.file-flights.ensures c.file-third.ensures c.run_what_if.ensures

pub returns-in-Audit : goal.returns-in-Audit
returns-in-Audit g c = followed vec_items _ _ _ _ _ _ _ _ _ c.in-Audit.is c.requires.count c.file-aerodrome.ensures
    c.file-flights.ensures c.file-third.ensures c.run_audit.ensures

pub returns-in-Trial : goal.returns-in-Trial
returns-in-Trial g c = followed vec_items _ _ _ _ _ _ _ _ _ c.in-Trial.is c.requires.count c.file-aerodrome.ensures
    c.file-flights.ensures c.file-third.ensures c.run_trial.ensures
