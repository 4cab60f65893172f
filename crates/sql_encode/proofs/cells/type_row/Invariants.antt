use Rattle.std.proofs.Common.{◌≡◌, ◌++◌, drop, flat_map, slice_get}
use Rattle.core_ir.specs.declared.path.PtrId.{PtrId}
use Rattle.sql_encode.specs.Rows.{type_row, pointer_cells}
use Rattle.sql_encode.proofs.cells.type_row.Given as goal

abbrev pub invariant-loop-pointer : goal.invariant-loop-pointer
invariant-loop-pointer l = l.cells ++ flat_map (λ (p : PtrId). pointer_cells (slice_get l.schema.pointers p.0) l.object p) (drop l.pointer-index l.listed) ≡ type_row l.schema l.listed l.object
