use Rattle.sql_check.proofs.Complete.{complete}
use Rattle.sql_check.proofs.Sound.{sound}
use Rattle.sql_check.proofs.WellSpelled.{spelled}
use Rattle.sql_check.proofs.laws.checks_decide.Goals as goal

pub returns : goal.returns
returns c = record { sound = sound; complete = complete; spelled = spelled }
