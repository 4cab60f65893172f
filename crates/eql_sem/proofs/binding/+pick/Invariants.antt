use Rattle.std.proofs.Common.{length}
use Rattle.eql_sem.proofs.binding.+pick.Given as goal

abbrev pub decreases-pick : goal.decreases-pick
decreases-pick l = length l.names.now
