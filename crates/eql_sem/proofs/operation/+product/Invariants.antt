use Rattle.std.proofs.Common.{length}
use Rattle.eql_sem.proofs.operation.+product.Given as goal

abbrev pub decreases-product : goal.decreases-product
decreases-product g l = length l.lists.now
