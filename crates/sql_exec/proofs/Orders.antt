-- How keys order, at the code's constructors.
use Rattle.std.proofs.Common.{◌≡◌, refl}
use Rattle.ev_list.specs.declared.order.Absent.{Absent}
use Rattle.ev_list.specs.declared.order.Direction.TheVariants as direction
use Rattle.sql_ast.specs.declared.expression.SqlExpr.{SqlExpr}
use Rattle.sql_ast.specs.declared.select.Key.TheVariants as key
use Rattle.sql_table.specs.Meaning.{order_of}

pub of_ascending : (value : SqlExpr) (nulls : Absent) → order_of (key.Ascending value nulls) ≡ record { direction = direction.Ascending; absent = nulls }
of_ascending value nulls = refl

pub of_descending : (value : SqlExpr) (nulls : Absent) → order_of (key.Descending value nulls) ≡ record { direction = direction.Descending; absent = nulls }
of_descending value nulls = refl
