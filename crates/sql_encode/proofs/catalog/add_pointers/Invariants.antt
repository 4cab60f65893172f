use Rattle.std.proofs.Common.{◌≡◌, ◌++◌, drop}
use Rattle.sql_encode.specs.Shapes.{type_columns}
use Rattle.sql_encode.proofs.catalog.add_pointers.Given as goal

abbrev pub invariant-loop-pointer : goal.invariant-loop-pointer
invariant-loop-pointer l = l.columns ++ type_columns l.schema (drop l.pointer-index l.listed) ≡ l.fn.columns ++ type_columns l.schema l.listed
