use Rattle.std.proofs.Common.{◌≡◌, drop, zero}
use Rattle.eql_forms.specs.Built.{type_from}
use Rattle.eql_forms.proofs.path.type_named.Given as goal

-- what is left has what the whole has
abbrev pub invariant-loop-i : goal.invariant-loop-i
invariant-loop-i l = type_from l.i (drop l.i l.types) l.name ≡ type_from zero l.types l.name
