-- Lists made one element after the other.
use Rattle.std.proofs.Common.{◌≡◌, List, [], ◌∷◌, ◌++◌, refl, sym, ap, ◌∙◌, append_assoc, reverse, map}
use Rattle.std.proofs.lemmas.List.{reverse-append}
use Rattle.ev_value.specs.declared.item.Item.{Item}
use Rattle.ev_value.specs.declared.item.Item.TheVariants as item
use Rattle.ev_value.specs.Item.{bind, one, all_of}
use Rattle.ev_list.specs.declared.order.Keyed.{Keyed}
use Rattle.sql_table.specs.declared.cell.Cell.{Cell}
use Rattle.sql_table.specs.Meaning.{on_value}
use Rattle.sql_table.specs.Names.{Cells}
use Rattle.sql_exec.specs.Engine.{cell_row, keyless_item}

-- what is due, with elements in front of it
abbrev pub after : {A : Type 0} → List A → Item (List A) → Item (List A)
after done x = on_value x (λ xs. item.Value (done ++ xs))

pub after_none : {A : Type 0} (x : Item (List A)) → after [] x ≡ x
after_none (item.Value xs) = refl
after_none (item.Fault e) = refl

-- one more element in front
pub after_more : {A : Type 0} (done : List A) (x : A) (rest : Item (List A)) → after done (on_value rest (λ xs. item.Value (x ∷ xs))) ≡ after (done ++ x ∷ []) rest
after_more done x (item.Value xs) = ap item.Value (sym (append_assoc done (x ∷ []) xs))
after_more done x (item.Fault e) = refl

map_last : {A B : Type 0} (f : A → B) (xs : List A) (x : A) → map f (xs ++ x ∷ []) ≡ map f xs ++ f x ∷ []
map_last f [] x = refl
map_last f (y ∷ ys) x = ap (λ l. f y ∷ l) (map_last f ys x)

-- one turn of a loop that takes elements from the end
pub mapped_turn : {A B : Type 0} (f : A → B) (whole : List B) (old new : List A) (x : A) (taken more : List B) → map f old ++ reverse taken ≡ whole → old ≡ new ++ x ∷ [] → more ≡ taken ++ f x ∷ [] → map f new ++ reverse more ≡ whole
mapped_turn f whole old new x taken more is e m =
    ap (λ l. map f new ++ l) (ap reverse m ∙ reverse-append taken (f x ∷ []))
    ∙ sym (append_assoc (map f new) (f x ∷ []) (reverse taken))
    ∙ sym (ap (λ l. l ++ reverse taken) (ap (map f) e ∙ map_last f new x)) ∙ is

pub plain_is : (rows : List (Item (Keyed Cells))) → map keyless_item rows ≡ bind rows (λ row. one row.value)
plain_is [] = refl
plain_is (item.Value row ∷ rows) = ap (λ l. item.Value row.value ∷ l) (plain_is rows)
plain_is (item.Fault e ∷ rows) = ap (λ l. item.Fault e ∷ l) (plain_is rows)

pub cell_rows_are : (cs : List Cell) → map cell_row cs ≡ all_of (map (λ c. c ∷ []) cs)
cell_rows_are [] = refl
cell_rows_are (c ∷ cs) = ap (λ l. cell_row c ∷ l) (cell_rows_are cs)
