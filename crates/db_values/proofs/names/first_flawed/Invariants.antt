use Rattle.std.proofs.Common.{◌≡◌, drop}
use Rattle.db_values.specs.Names.{first_flawed}
use Rattle.db_values.proofs.names.first_flawed.Given as goal

abbrev pub invariant-loop-pointer : goal.invariant-loop-pointer
invariant-loop-pointer l = first_flawed l.schema.types l.heads l.schema.pointers l.members (drop l.pointer-index l.listed) ≡ first_flawed l.schema.types l.heads l.schema.pointers l.members l.listed
