use Rattle.std.proofs.Common.{◌≡◌, ◌++◌, drop}
use Rattle.eql_sem.specs.Forms.{shape_forms}
use Rattle.eql_sem.proofs.nested.shapes.Given as goal

abbrev pub invariant-loop-part : goal.invariant-loop-part
invariant-loop-part l = l.all ++ shape_forms (drop l.part-index l.parts) ≡ shape_forms l.parts
