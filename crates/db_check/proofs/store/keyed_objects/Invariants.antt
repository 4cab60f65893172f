use Rattle.std.proofs.Common.{◌≡◌, ◌++◌, reverse, length}
use Rattle.db_check.specs.Check.{keyed_objects}
use Rattle.db_check.proofs.store.keyed_objects.Given as goal

abbrev pub invariant-loop-object : goal.invariant-loop-object
invariant-loop-object l = l.all ++ keyed_objects (reverse l.left.items) ≡ keyed_objects l.fn.objects

abbrev pub decreases-loop-object : goal.decreases-loop-object
decreases-loop-object l = length l.left.items
