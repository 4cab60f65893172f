use Rattle.std.proofs.Common.{◌≡◌, ◌++◌, drop}
use Rattle.eql_sem.specs.Forms.{tuple_forms}
use Rattle.eql_sem.proofs.nested.tuples.Given as goal

abbrev pub invariant-loop-part : goal.invariant-loop-part
invariant-loop-part l = l.all ++ tuple_forms (drop l.part-index l.parts) ≡ tuple_forms l.parts
