use Rattle.ev_schema.proofs.NumberLaws.{made_numbered}
use Rattle.ev_schema.proofs.laws.made_is_numbered.Goals as goal

pub returns : goal.returns
returns c = made_numbered
