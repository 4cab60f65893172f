use Rattle.std.proofs.Common.{◌≡◌, ◌++◌, drop, flat_map}
use Rattle.sql_encode.specs.Rows.{object_rows}
use Rattle.sql_encode.proofs.encoding.pointer_rows.Given as goal

abbrev pub invariant-loop-object : goal.invariant-loop-object
invariant-loop-object l = l.rows ++ flat_map (object_rows l.info l.pointer) (drop l.object-index l.objects) ≡ flat_map (object_rows l.info l.pointer) l.objects
