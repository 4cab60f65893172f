use Rattle.ev_list.proofs.OrderLaws.{sort_is_stable}
use Rattle.ev_list.proofs.laws.sort_is_stable.Goals as goal

pub returns : goal.returns
returns g c = sort_is_stable g.row.T.Denot
