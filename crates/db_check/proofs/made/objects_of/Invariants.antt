use Rattle.std.proofs.Common.{◌≡◌, ◌++◌, drop}
use Rattle.db_check.specs.Check.{objects_of}
use Rattle.db_check.proofs.made.objects_of.Given as goal

abbrev pub invariant-loop-i : goal.invariant-loop-i
invariant-loop-i l = l.objects ++ objects_of l.schema l.orders (drop l.i l.heads) (drop l.i l.drafts) ≡ objects_of l.schema l.orders l.heads l.drafts
