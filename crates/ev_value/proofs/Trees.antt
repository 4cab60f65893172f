-- A tuple as cases see it is the tuple of its components, and an array the array of its elements.
use Rattle.std.proofs.Common.{◌≡◌, List, sym, ap, ◌∙◌}
use Rattle.ev_value.specs.declared.value.Val.{Val, Tuple', Array', Row_of-Val, roll-Val, out-Val, items-the_row-Val, roll-out-Val}
use Rattle.ev_value.specs.declared.value.Val.TheVariants.{Tuple, rolls-Tuple, Array, rolls-Array}
use Rattle.ev_value.specs.declared.value.Val.TheOpen as open_val
use Rattle.ev_value.specs.declared.value.Val.TheBlock as block
use denote.Hole.Carrier.{shown-items, list-listed}
use denote.Hole.Carrier as carrier
use mathlib.Core.Former.{Count, list, list_count, this}

-- the components or elements of a row
abbrev pub parts : {m : Count} → Row_of-Val m → List Val
parts {m = m} row = items-the_row-Val m row

pub tuple_opens : (s : List (Unit {0})) (row : Row_of-Val (list_count (this {0}) s 0)) → out-Val (Tuple' s row) ≡ open_val.Tuple (parts row)
unfolding out-Val carrier.out block.shown-the_row-Val-0
tuple_opens s row = ap open_val.Tuple (shown-items (list (this {0})) Val Row_of-Val block.view-the_row-Val (λ x. x) (list-listed Val) s row)

pub tuple_is : (s : List (Unit {0})) (row : Row_of-Val (list_count (this {0}) s 0)) → Tuple' s row ≡ Tuple (parts row)
tuple_is s row = sym (roll-out-Val (Tuple' s row)) ∙ ap roll-Val (tuple_opens s row) ∙ rolls-Tuple (parts row)

pub array_opens : (s : List (Unit {0})) (row : Row_of-Val (list_count (this {0}) s 0)) → out-Val (Array' s row) ≡ open_val.Array (parts row)
unfolding out-Val carrier.out block.shown-the_row-Val-0
array_opens s row = ap open_val.Array (shown-items (list (this {0})) Val Row_of-Val block.view-the_row-Val (λ x. x) (list-listed Val) s row)

pub array_is : (s : List (Unit {0})) (row : Row_of-Val (list_count (this {0}) s 0)) → Array' s row ≡ Array (parts row)
array_is s row = sym (roll-out-Val (Array' s row)) ∙ ap roll-Val (array_opens s row) ∙ rolls-Array (parts row)
