use Rattle.std.proofs.Common.{◌≡◌, drop, None}
use Rattle.std.specs.Option.{option_copied}
use Rattle.db_values.specs.Names.{least_unknown}
use Rattle.db_values.proofs.names.least_unknown.Given as goal

abbrev pub invariant-loop-member : goal.invariant-loop-member
invariant-loop-member l = least_unknown l.schema l.ty (option_copied l.found) (drop l.member-index l.members) ≡ least_unknown l.schema l.ty None l.members
