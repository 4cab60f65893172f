use Rattle.std.proofs.Common.{length}
use Rattle.eql_sem.proofs.operation.+gathered.Given as goal

abbrev pub decreases-gathered : goal.decreases-gathered
decreases-gathered g l = length l.lists.now
