use Rattle.inquiry_commands.proofs.FirstLaws.{text_is_one}
use Rattle.inquiry_commands.proofs.first_laws.first_text_is_one.Goals as goal

pub returns : goal.returns
returns c = text_is_one c.first_plan_is_one.ensures.one
