use Rattle.std.proofs.Common.{◌≡◌, drop}
use Rattle.db_store.specs.Objects.{find}
use Rattle.db_store.proofs.object.find.Given as goal

abbrev pub invariant-loop-object : goal.invariant-loop-object
invariant-loop-object l = find (drop l.object-index l.objects) l.id ≡ find l.objects l.id
