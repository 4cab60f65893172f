use Rattle.ev_list.proofs.Occurrences.{keeps_first}
use Rattle.ev_list.proofs.laws.first_occurrences_are_kept.Goals as goal

pub returns : goal.returns
returns g c = keeps_first g.T.Same.same g.met.T.Same.exact
