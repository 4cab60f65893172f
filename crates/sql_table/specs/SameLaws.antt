-- Cells that are the same are equal.
use Rattle.std.proofs.Common.{◌≡◌, ◌↔◌, List, [], ◌∷◌, Bool, true, false, ◌&&◌, refl, sym, ap, ◌∙◌, subst}
use Rattle.std.specs.Cmp.Lexicographic.{pointwise}
use Rattle.std.specs.Ordering.{is_eq}
use Rattle.ev_value.specs.Order.{val_cmp}
use Rattle.ev_value.specs.declared.value.Val as val
use Rattle.ev_list.specs.Sames.{val_exact}
use Rattle.sql_table.specs.Same.{cell_same, row_same}
use Rattle.sql_table.specs.declared.cell.Cell.{Cell, Null, Val, Row', Array', Row_of-Cell, end_of-Cell, more_of-Cell, roll-Cell, out-Cell, items-the_row-Cell, roll-out-Cell}
use Rattle.sql_table.specs.declared.cell.Cell.TheBlock as block
use Rattle.sql_table.specs.declared.cell.Cell.TheVariants as cell
use Rattle.sql_table.specs.declared.cell.Cell.TheVariants.{rolls-Row, rolls-Array}
use Rattle.sql_table.specs.declared.cell.Cell.TheOpen as open_cell
use denote.Hole.Carrier.{shown-items, list-listed}
use denote.Hole.Carrier as carrier
use mathlib.Core.Former.{Count, list, list_count, this}

-- ---- at the code's constructors

rows_hidden : (cs ds : List Cell) → row_same (block.hidden-the_row-Cell-0 cs) (block.hidden-the_row-Cell-0 ds) ≡ pointwise cell_same cs ds
unfolding cell_same block.hidden-the_row-Cell-0 carrier.hidden
rows_hidden [] [] = refl
rows_hidden [] (d ∷ ds) = refl
rows_hidden (c ∷ cs) [] = refl
rows_hidden (c ∷ cs) (d ∷ ds) = ap (λ b. cell_same c d && b) (rows_hidden cs ds)

pub same_rows : (cs ds : List Cell) → cell_same (cell.Row cs) (cell.Row ds) ≡ pointwise cell_same cs ds
unfolding cell_same
same_rows cs ds = rows_hidden cs ds

pub same_arrays : (cs ds : List Cell) → cell_same (cell.Array cs) (cell.Array ds) ≡ pointwise cell_same cs ds
unfolding cell_same
same_arrays cs ds = rows_hidden cs ds

pub null_row : (ds : List Cell) → cell_same cell.Null (cell.Row ds) ≡ false
unfolding cell_same
null_row ds = refl

pub null_array : (ds : List Cell) → cell_same cell.Null (cell.Array ds) ≡ false
unfolding cell_same
null_array ds = refl

pub val_row : (v : val.Val) (ds : List Cell) → cell_same (cell.Val v) (cell.Row ds) ≡ false
unfolding cell_same
val_row v ds = refl

pub val_array : (v : val.Val) (ds : List Cell) → cell_same (cell.Val v) (cell.Array ds) ≡ false
unfolding cell_same
val_array v ds = refl

pub row_null : (cs : List Cell) → cell_same (cell.Row cs) cell.Null ≡ false
unfolding cell_same
row_null cs = refl

pub row_val : (cs : List Cell) (v : val.Val) → cell_same (cell.Row cs) (cell.Val v) ≡ false
unfolding cell_same
row_val cs v = refl

pub row_array : (cs ds : List Cell) → cell_same (cell.Row cs) (cell.Array ds) ≡ false
unfolding cell_same
row_array cs ds = refl

pub array_null : (cs : List Cell) → cell_same (cell.Array cs) cell.Null ≡ false
unfolding cell_same
array_null cs = refl

pub array_val : (cs : List Cell) (v : val.Val) → cell_same (cell.Array cs) (cell.Val v) ≡ false
unfolding cell_same
array_val cs v = refl

pub array_row : (cs ds : List Cell) → cell_same (cell.Array cs) (cell.Row ds) ≡ false
unfolding cell_same
array_row cs ds = refl

pub null_null : cell_same cell.Null cell.Null ≡ true
unfolding cell_same
null_null = refl

pub null_val : (w : val.Val) → cell_same cell.Null (cell.Val w) ≡ false
unfolding cell_same
null_val w = refl

pub val_null : (v : val.Val) → cell_same (cell.Val v) cell.Null ≡ false
unfolding cell_same
val_null v = refl

pub val_val : (v w : val.Val) → cell_same (cell.Val v) (cell.Val w) ≡ is_eq (val_cmp v w)
unfolding cell_same
val_val v w = refl

-- ---- the same is equal

-- the cells of a row
abbrev cells : {m : Count} → Row_of-Cell m → List Cell
cells {m = m} row = items-the_row-Cell m row

row_opens : (s : List (Unit {0})) (row : Row_of-Cell (list_count (this {0}) s 0)) → out-Cell (Row' s row) ≡ open_cell.Row (cells row)
unfolding out-Cell carrier.out block.shown-the_row-Cell-0
row_opens s row = ap open_cell.Row (shown-items (list (this {0})) Cell Row_of-Cell block.view-the_row-Cell (λ x. x) (list-listed Cell) s row)

row_is : (s : List (Unit {0})) (row : Row_of-Cell (list_count (this {0}) s 0)) → Row' s row ≡ cell.Row (cells row)
row_is s row = sym (roll-out-Cell (Row' s row)) ∙ ap roll-Cell (row_opens s row) ∙ rolls-Row (cells row)

array_opens : (s : List (Unit {0})) (row : Row_of-Cell (list_count (this {0}) s 0)) → out-Cell (Array' s row) ≡ open_cell.Array (cells row)
unfolding out-Cell carrier.out block.shown-the_row-Cell-0
array_opens s row = ap open_cell.Array (shown-items (list (this {0})) Cell Row_of-Cell block.view-the_row-Cell (λ x. x) (list-listed Cell) s row)

array_is : (s : List (Unit {0})) (row : Row_of-Cell (list_count (this {0}) s 0)) → Array' s row ≡ cell.Array (cells row)
array_is s row = sym (roll-out-Cell (Array' s row)) ∙ ap roll-Cell (array_opens s row) ∙ rolls-Array (cells row)

and_both : (a b : Bool) → (a && b) ≡ true → (a ≡ true) × (b ≡ true)
and_both true b h = (refl, h)
and_both false b h = cc

mutual
  unfolding cell_same row_same

  same_is : (c d : Cell) → cell_same c d ≡ true → c ≡ d
  same_is Null Null h = refl
  same_is (Val v) (Val w) h = ap Val ((val_exact v w).0 h)
  same_is (Row' s cs) (Row' t ds) h = row_is s cs ∙ ap cell.Row (rows_same cs ds h) ∙ sym (row_is t ds)
  same_is (Array' s cs) (Array' t ds) h = array_is s cs ∙ ap cell.Array (rows_same cs ds h) ∙ sym (array_is t ds)
  same_is _ _ h = cc

  rows_same : {m n : _} → (cs : Row_of-Cell m) (ds : Row_of-Cell n) → row_same cs ds ≡ true → cells cs ≡ cells ds
  rows_same end_of-Cell end_of-Cell h = refl
  rows_same end_of-Cell (more_of-Cell d ds) h = cc
  rows_same (more_of-Cell c cs) end_of-Cell h = cc
  rows_same (more_of-Cell c cs) (more_of-Cell d ds) h =
      let both : (cell_same c d ≡ true) × (row_same cs ds ≡ true) = and_both (cell_same c d) (row_same cs ds) h in
      λ i. same_is c d both.0 i ∷ rows_same cs ds both.1 i

mutual
  unfolding cell_same row_same

  itself : (c : Cell) → cell_same c c ≡ true
  itself Null = refl
  itself (Val v) = (val_exact v v).1 refl
  itself (Row' s cs) = rows_itself cs
  itself (Array' s cs) = rows_itself cs

  rows_itself : {m : _} → (cs : Row_of-Cell m) → row_same cs cs ≡ true
  rows_itself end_of-Cell = refl
  rows_itself (more_of-Cell c cs) = ap (λ b. b && row_same cs cs) (itself c) ∙ rows_itself cs

pub cell_exact : (c d : Cell) → (cell_same c d ≡ true) ↔ (c ≡ d)
cell_exact c d = (same_is c d, λ e. subst (λ x. cell_same c x ≡ true) e (itself c))
