use Rattle.std.proofs.Common.{◌≡◌, drop}
use Rattle.db_store.specs.Objects.{entry}
use Rattle.db_store.proofs.object.Object.entry.Given as goal

abbrev pub invariant-loop-entry : goal.invariant-loop-entry
invariant-loop-entry l = entry (drop l.entry-index l.self.values) l.pointer ≡ entry l.self.values l.pointer
