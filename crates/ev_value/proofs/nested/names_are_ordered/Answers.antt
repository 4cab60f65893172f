use Rattle.ev_value.proofs.Names.{names_ordered}
use Rattle.ev_value.proofs.nested.names_are_ordered.Goals as goal

pub returns : goal.returns
returns c = names_ordered
