-- Definitions on cells, at the code's constructors.
use Rattle.std.proofs.Common.{◌≡◌, ℕ, zero, suc, ℤ, pos, negsuc, ◌≤ℤ◌, List, [], ◌∷◌, ◌++◌, Option, Some, None, false, refl, ap, sym, ◌∙◌, reverse, slice_get, arith}
use Rattle.std.proofs.Common.{append_assoc}
use Rattle.std.proofs.lemmas.Int.{ints}
use Rattle.std.proofs.lemmas.List.{reverse-append}
use Rattle.ev_value.proofs.Items.{append_nil}
use Rattle.std.specs.Option.{option_to_list}
use Rattle.std.specs.List.{cons_option}
use Rattle.ev_value.specs.declared.value.Val.{Val}
use Rattle.sql_table.specs.declared.cell.Cell.{Cell, out-roll-Cell}
use Rattle.sql_table.specs.declared.cell.Cell.TheBlock as block
use Rattle.sql_table.specs.declared.cell.Cell.TheVariants as cell
use Rattle.sql_table.specs.declared.cell.Cell.TheViews as views
use Rattle.sql_table.specs.declared.cell.Cell.TheOpen as open_cell
use Rattle.sql_table.specs.Operators.{value_of, is_null, or_null, cast_item, part, part_among, parts, parts_in, elements, elements_in, present}
use Rattle.ev_value.specs.declared.item.Item.TheVariants as item
use Rattle.sql_ast.specs.declared.ty.SqlTy.{SqlTy}
use Rattle.sql_ast.specs.declared.ty.SqlTy.TheBlock as ty_block
use Rattle.sql_ast.specs.declared.ty.SqlTy.TheVariants as ty
use denote.Hole.Carrier as carrier

pub value_row : (cs : List Cell) → value_of (cell.Row cs) ≡ None
unfolding block.hidden-the_row-Cell-0 carrier.hidden
value_row cs = refl

pub value_array : (cs : List Cell) → value_of (cell.Array cs) ≡ None
unfolding block.hidden-the_row-Cell-0 carrier.hidden
value_array cs = refl

pub null_row : (cs : List Cell) → is_null (cell.Row cs) ≡ false
unfolding block.hidden-the_row-Cell-0 carrier.hidden
null_row cs = refl

pub null_array : (cs : List Cell) → is_null (cell.Array cs) ≡ false
unfolding block.hidden-the_row-Cell-0 carrier.hidden
null_array cs = refl

pub elements_array : (cs : List Cell) → elements (cell.Array cs) ≡ Some cs
unfolding views.roll-Cell views.out-Cell carrier.roll
elements_array cs = ap elements_in (out-roll-Cell (open_cell.Array cs))

pub elements_row : (cs : List Cell) → elements (cell.Row cs) ≡ None
unfolding views.roll-Cell views.out-Cell carrier.roll
elements_row cs = ap elements_in (out-roll-Cell (open_cell.Row cs))

pub parts_row : (cs : List Cell) → parts (cell.Row cs) ≡ Some cs
unfolding views.roll-Cell views.out-Cell carrier.roll
parts_row cs = ap parts_in (out-roll-Cell (open_cell.Row cs))

pub parts_array : (cs : List Cell) → parts (cell.Array cs) ≡ None
unfolding views.roll-Cell views.out-Cell carrier.roll
parts_array cs = ap parts_in (out-roll-Cell (open_cell.Array cs))

-- ---- the values among cells

pub present_last : (cs : List Cell) (c : Cell) → present (cs ++ c ∷ []) ≡ present cs ++ option_to_list (value_of c)
present_last [] c = by_case (value_of c)
  where
    by_case : (o : Option Val) → cons_option o [] ≡ option_to_list o
    by_case (Some v) = refl
    by_case None = refl
present_last (x ∷ xs) c = by_case (present_last xs c) (value_of x)
  where
    by_case : present (xs ++ c ∷ []) ≡ present xs ++ option_to_list (value_of c) → (o : Option Val) → cons_option o (present (xs ++ c ∷ [])) ≡ cons_option o (present xs) ++ option_to_list (value_of c)
    by_case h (Some v) = ap (λ l. v ∷ l) h
    by_case h None = h

-- ---- casts

pub cast_row : (ts : List SqlTy) (x : Cell) → cast_item (ty.Row ts) x ≡ item.Value cell.Null
unfolding ty_block.hidden-the_row-SqlTy-0 carrier.hidden
cast_row ts x = refl

pub cast_array : (t : SqlTy) (x : Cell) → cast_item (ty.Array t) x ≡ item.Value cell.Null
unfolding ty_block.hidden-the_row-SqlTy-1 carrier.hidden
cast_array t x = refl

-- ---- parts

pub no_parts : (x : Cell) (z : ℤ) → parts x ≡ None → part z x ≡ cell.Null
no_parts x z h = ap (part_among z) h ∙ nothing z
  where
    nothing : (z : ℤ) → part_among z None ≡ cell.Null
    nothing (pos zero) = refl
    nothing (pos (suc n)) = refl
    nothing (negsuc n) = refl

pub no_part : (x : Cell) (z : ℤ) → z ≤ℤ pos 0 → part z x ≡ cell.Null
no_part x (pos zero) h = refl
no_part x (pos (suc n)) h = absurd (omega (arith, ints))
no_part x (negsuc n) h = refl

pub part_at : (x : Cell) (cs : List Cell) (n : ℕ) → parts x ≡ Some cs → part (pos (suc n)) x ≡ or_null (slice_get cs n)
part_at x cs n h = ap (part_among (pos (suc n))) h

-- one turn of a loop that takes cells from the end: the cell has a value, or none
pub value_turn : (whole : List Val) (old new : List Cell) (c : Cell) (v : Val) (taken more : List Val) → present old ++ reverse taken ≡ whole → old ≡ new ++ c ∷ [] → value_of c ≡ Some v → more ≡ taken ++ v ∷ [] → present new ++ reverse more ≡ whole
value_turn whole old new c v taken more is e h m =
    ap (λ l. present new ++ l) (ap reverse m ∙ reverse-append taken (v ∷ []))
    ∙ sym (append_assoc (present new) (v ∷ []) (reverse taken))
    ∙ sym (ap (λ l. l ++ reverse taken) (ap present e ∙ present_last new c ∙ ap (λ o. present new ++ option_to_list o) h)) ∙ is

pub null_turn : (whole : List Val) (old new : List Cell) (c : Cell) (taken : List Val) → present old ++ reverse taken ≡ whole → old ≡ new ++ c ∷ [] → value_of c ≡ None → present new ++ reverse taken ≡ whole
null_turn whole old new c taken is e h =
    sym (ap (λ l. l ++ reverse taken) (ap present e ∙ present_last new c ∙ ap (λ o. present new ++ option_to_list o) h ∙ append_nil (present new))) ∙ is
