-- Whether two cells are the same.
use Rattle.std.specs.Prelude.{Bool, true, false, ◌&&◌}
use Rattle.std.specs.Ordering.{is_eq}
use Rattle.ev_value.specs.Order.{val_cmp}
use Rattle.sql_table.specs.declared.cell.Cell.{Cell, Null, Val, Row', Array', Row_of-Cell, end_of-Cell, more_of-Cell}

unfoldable mutual
  -- nulls are the same, and so are equal values, rows and arrays whose cells are the same place by place
  pub cell_same : Cell → Cell → Bool
  cell_same Null Null = true
  cell_same (Val v) (Val w) = is_eq (val_cmp v w)
  cell_same (Row' _ cs) (Row' _ ds) = row_same cs ds
  cell_same (Array' _ cs) (Array' _ ds) = row_same cs ds
  cell_same _ _ = false

  pub row_same : {m n : _} → Row_of-Cell m → Row_of-Cell n → Bool
  row_same end_of-Cell end_of-Cell = true
  row_same (more_of-Cell c cs) (more_of-Cell d ds) = cell_same c d && row_same cs ds
  row_same _ _ = false
