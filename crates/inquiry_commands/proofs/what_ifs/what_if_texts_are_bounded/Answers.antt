use Rattle.inquiry_commands.proofs.WhatIfTexts.{what_if_short}
use Rattle.inquiry_commands.proofs.what_ifs.what_if_texts_are_bounded.Goals as goal

pub returns : goal.returns
returns c = what_if_short
