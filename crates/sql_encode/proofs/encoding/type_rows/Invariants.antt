use Rattle.std.proofs.Common.{◌≡◌, ◌++◌, drop, map, filter}
use Rattle.ev_schema.specs.Types.{is_subtype}
use Rattle.db_store.specs.declared.object.Object.{Object}
use Rattle.sql_encode.specs.Rows.{type_row, type_rows}
use Rattle.sql_encode.proofs.encoding.type_rows.Given as goal

abbrev pub invariant-loop-object : goal.invariant-loop-object
invariant-loop-object l = l.rows ++ map (type_row l.schema l.listed) (filter (λ (o : Object). is_subtype l.schema.types o.ty l.ty) (drop l.object-index l.objects)) ≡ type_rows l.schema l.objects l.ty
