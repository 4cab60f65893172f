use Rattle.trial_exact.proofs.Promise.{one_tree}
use Rattle.trial_exact.proofs.read.one_tree.Goals as goal

pub returns : goal.returns
returns c = one_tree
