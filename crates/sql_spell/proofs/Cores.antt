-- Cores and items as cases see them.
use Rattle.std.proofs.Common.{◌≡◌, ℕ, List, Option, Some, None, refl, sym, ap, ◌∙◌}
use Rattle.sql_ast.specs.declared.expression.SqlExpr.{SqlExpr, end_of-SqlExpr, more_of-SqlExpr, Row_of-Core}
use Rattle.sql_ast.specs.declared.expression.SqlExpr.TheBlock as block
use Rattle.sql_ast.specs.declared.select.Body.{Body}
use Rattle.sql_ast.specs.declared.select.Column.{Column}
use Rattle.sql_ast.specs.declared.select.Core as c
use Rattle.sql_ast.specs.declared.select.Core.{Core, Row_of-Column, end_of-Column, more_of-Column, Row_of-FromItem, end_of-FromItem, more_of-FromItem, Row_of-Key, end_of-Key, more_of-Key, Held-Body-condition, None', Some', roll-Core, out-Core, items-the_row-Column, items-the_row-FromItem, items-the_row-Key, roll-out-Core}
use Rattle.sql_ast.specs.declared.select.Core.TheVariants as core
use Rattle.sql_ast.specs.declared.select.FromItem as f
use Rattle.sql_ast.specs.declared.select.FromItem.{FromItem, roll-FromItem, out-FromItem, roll-out-FromItem}
use Rattle.sql_ast.specs.declared.select.FromItem.TheVariants as from
use Rattle.sql_ast.specs.declared.select.Key.{Key}
use Rattle.sql_spell.proofs.Shapes.{cores_in}
use denote.Hole.Carrier.{shown-items, list-listed}
use denote.Hole.Carrier as carrier
use mathlib.Core.Former.{Count, list, list_count, this}

abbrev pub columns_in : {m : Count} → Row_of-Column m → List Column
columns_in {m = m} row = items-the_row-Column m row

abbrev pub items_in : {m : Count} → Row_of-FromItem m → List FromItem
items_in {m = m} row = items-the_row-FromItem m row

abbrev pub keys_in : {m : Count} → Row_of-Key m → List Key
keys_in {m = m} row = items-the_row-Key m row

abbrev pub held_in : Held-Body-condition → Option SqlExpr
held_in None' = None
held_in (Some' _ (more_of-SqlExpr x end_of-SqlExpr)) = Some x

cores_shown : (s : List (Unit {0})) (row : Row_of-Core (list_count (this {0}) s 0)) → block.shown-the_row-Core-0 s row ≡ cores_in row
unfolding block.shown-the_row-Core-0
cores_shown s row = shown-items (list (this {0})) Core Row_of-Core block.view-the_row-Core (λ x. x) (list-listed Core) s row

pub lateral_is : (s : List (Unit {0})) (row : Row_of-Core (list_count (this {0}) s 0)) (alias : List ℕ) → f.Lateral' s row alias ≡ from.Lateral (record { cores = cores_in row }) alias
unfolding out-FromItem carrier.out
lateral_is s row alias = sym (roll-out-FromItem (f.Lateral' s row alias)) ∙ from.rolls-Lateral (record { cores = block.shown-the_row-Core-0 s row }) alias ∙ ap (λ (cs : List Core). from.Lateral (record { cores = cs }) alias) (cores_shown s row)

pub left_is : (s : List (Unit {0})) (row : Row_of-Core (list_count (this {0}) s 0)) (alias : List ℕ) → f.LeftLateral' s row alias ≡ from.LeftLateral (record { cores = cores_in row }) alias
unfolding out-FromItem carrier.out
left_is s row alias = sym (roll-out-FromItem (f.LeftLateral' s row alias)) ∙ from.rolls-LeftLateral (record { cores = block.shown-the_row-Core-0 s row }) alias ∙ ap (λ (cs : List Core). from.LeftLateral (record { cores = cs }) alias) (cores_shown s row)

columns_shown : (s : List (Unit {0})) (row : Row_of-Column (list_count (this {0}) s 0)) → block.shown-the_row-Column-3 s row ≡ columns_in row
unfolding block.shown-the_row-Column-3 carrier.shown
columns_shown s row = shown-items (list (this {0})) Column Row_of-Column block.view-the_row-Column (λ x. x) (list-listed Column) s row

items_shown : (s : List (Unit {0})) (row : Row_of-FromItem (list_count (this {0}) s 0)) → block.shown-the_row-FromItem-4 s row ≡ items_in row
unfolding block.shown-the_row-FromItem-4
items_shown s row = shown-items (list (this {0})) FromItem Row_of-FromItem block.view-the_row-FromItem (λ x. x) (list-listed FromItem) s row

keys_shown : (s : List (Unit {0})) (row : Row_of-Key (list_count (this {0}) s 0)) → block.shown-the_row-Key-5 s row ≡ keys_in row
unfolding block.shown-the_row-Key-5
keys_shown s row = shown-items (list (this {0})) Key Row_of-Key block.view-the_row-Key (λ x. x) (list-listed Key) s row

held_shown : (h : Held-Body-condition) → block.view-Body-condition h ≡ held_in h
unfolding block.shown-the_row-SqlExpr-2 carrier.shown
held_shown None' = refl
held_shown (Some' _ (more_of-SqlExpr x end_of-SqlExpr)) = refl

-- the body of such a core
abbrev pub body_in : {m n : Count} → Row_of-FromItem m → Held-Body-condition → Row_of-Key n → Held-Body-condition → Held-Body-condition → Body
body_in items condition keys offset limit = record { from = items_in items; condition = held_in condition; keys = keys_in keys; offset = held_in offset; limit = held_in limit }

pub all_is : (s1 : List (Unit {0})) (columns : Row_of-Column (list_count (this {0}) s1 0)) (s2 : List (Unit {0})) (items : Row_of-FromItem (list_count (this {0}) s2 0)) (condition : Held-Body-condition) (s3 : List (Unit {0})) (keys : Row_of-Key (list_count (this {0}) s3 0)) (offset limit : Held-Body-condition) → c.All' s1 columns s2 items condition s3 keys offset limit ≡ core.All (columns_in columns) (body_in items condition keys offset limit)
unfolding out-Core carrier.out
all_is s1 columns s2 items condition s3 keys offset limit =
    sym (roll-out-Core (c.All' s1 columns s2 items condition s3 keys offset limit))
    ∙ core.rolls-All (block.shown-the_row-Column-3 s1 columns) (record { from = block.shown-the_row-FromItem-4 s2 items; condition = block.view-Body-condition condition; keys = block.shown-the_row-Key-5 s3 keys; offset = block.view-Body-condition offset; limit = block.view-Body-condition limit })
    ∙ (λ i. core.All (columns_shown s1 columns i) (record { from = items_shown s2 items i; condition = held_shown condition i; keys = keys_shown s3 keys i; offset = held_shown offset i; limit = held_shown limit i }))

pub distinct_is : (s1 : List (Unit {0})) (columns : Row_of-Column (list_count (this {0}) s1 0)) (s2 : List (Unit {0})) (items : Row_of-FromItem (list_count (this {0}) s2 0)) (condition : Held-Body-condition) (s3 : List (Unit {0})) (keys : Row_of-Key (list_count (this {0}) s3 0)) (offset limit : Held-Body-condition) → c.Distinct' s1 columns s2 items condition s3 keys offset limit ≡ core.Distinct (columns_in columns) (body_in items condition keys offset limit)
unfolding out-Core carrier.out
distinct_is s1 columns s2 items condition s3 keys offset limit =
    sym (roll-out-Core (c.Distinct' s1 columns s2 items condition s3 keys offset limit))
    ∙ core.rolls-Distinct (block.shown-the_row-Column-3 s1 columns) (record { from = block.shown-the_row-FromItem-4 s2 items; condition = block.view-Body-condition condition; keys = block.shown-the_row-Key-5 s3 keys; offset = block.view-Body-condition offset; limit = block.view-Body-condition limit })
    ∙ (λ i. core.Distinct (columns_shown s1 columns i) (record { from = items_shown s2 items i; condition = held_shown condition i; keys = keys_shown s3 keys i; offset = held_shown offset i; limit = held_shown limit i }))
