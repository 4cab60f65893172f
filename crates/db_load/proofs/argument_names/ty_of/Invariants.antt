use Rattle.std.proofs.Common.{◌≡◌, drop}
use Rattle.db_load.specs.ArgumentValues.{ty_of as ty_of_name}
use Rattle.db_load.proofs.argument_names.ty_of.Given as goal

-- what is left has what the whole has
abbrev pub invariant-loop-one : goal.invariant-loop-one
invariant-loop-one l = ty_of_name (drop l.one-index l.wanted) l.name ≡ ty_of_name l.fn.wanted l.fn.name
