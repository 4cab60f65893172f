-- The places of a core's parts, at the code's constructors.
use Rattle.std.proofs.Common.{◌≡◌, ℕ, suc, List, [], ◌∷◌, length, drop, Option, Some, None, refl, ap}
use Rattle.sql_ast.specs.declared.expression.SqlExpr.{SqlExpr}
use Rattle.sql_ast.specs.declared.expression.SqlExpr.TheBlock as block
use Rattle.sql_ast.specs.declared.select.Body.{Body}
use Rattle.sql_ast.specs.declared.select.Column.{Column}
use Rattle.sql_ast.specs.declared.select.FromItem.{FromItem}
use Rattle.sql_ast.specs.declared.select.Key.{Key}
use Rattle.sql_grammar.specs.declared.grown.Places.{Places}
use Rattle.sql_check.specs.Names.{column_count, item_count, key_count, behind}
use Rattle.sql_check.specs.NameLists.{beyond_option}
use Rattle.sql_check.specs.Walk.{inner}
use denote.Hole.Carrier as carrier

count_columns : (cs : List Column) → column_count (block.hidden-the_row-Column-3 cs) ≡ length cs
unfolding column_count block.hidden-the_row-Column-3 carrier.hidden
count_columns [] = refl
count_columns (c ∷ cs) = ap suc (count_columns cs)

count_items : (is : List FromItem) → item_count (block.hidden-the_row-FromItem-4 is) ≡ length is
unfolding item_count block.hidden-the_row-FromItem-4 carrier.hidden
count_items [] = refl
count_items (i ∷ is) = ap suc (count_items is)

count_keys : (ks : List Key) → key_count (block.hidden-the_row-Key-5 ks) ≡ length ks
unfolding key_count block.hidden-the_row-Key-5 carrier.hidden
count_keys [] = refl
count_keys (k ∷ ks) = ap suc (count_keys ks)

behind_is : (o : Option SqlExpr) (ps : List Places) → behind (block.back-Body-condition o) ps ≡ beyond_option o ps
unfolding behind block.hidden-the_row-SqlExpr-2 carrier.hidden
behind_is None ps = refl
behind_is (Some x) ps = refl

module _ (ps : List Places) (columns : List Column) (body : Body) where
  pub items_at : drop (column_count (block.hidden-the_row-Column-3 columns)) (inner ps) ≡ drop (length columns) (inner ps)
  items_at = ap (λ (n : ℕ). drop n (inner ps)) (count_columns columns)

  pub condition_at : drop (item_count (block.hidden-the_row-FromItem-4 body.from)) (drop (column_count (block.hidden-the_row-Column-3 columns)) (inner ps)) ≡ drop (length body.from) (drop (length columns) (inner ps))
  condition_at = λ i. drop (count_items body.from i) (items_at i)

  pub keys_at : behind (block.back-Body-condition body.condition) (drop (item_count (block.hidden-the_row-FromItem-4 body.from)) (drop (column_count (block.hidden-the_row-Column-3 columns)) (inner ps)))
      ≡ beyond_option body.condition (drop (length body.from) (drop (length columns) (inner ps)))
  keys_at = λ i. behind_is body.condition (condition_at i) i

  pub offset_at : drop (key_count (block.hidden-the_row-Key-5 body.keys)) (behind (block.back-Body-condition body.condition) (drop (item_count (block.hidden-the_row-FromItem-4 body.from)) (drop (column_count (block.hidden-the_row-Column-3 columns)) (inner ps))))
      ≡ drop (length body.keys) (beyond_option body.condition (drop (length body.from) (drop (length columns) (inner ps))))
  offset_at = λ i. drop (count_keys body.keys i) (keys_at i)

  pub limit_at : behind (block.back-Body-condition body.offset) (drop (key_count (block.hidden-the_row-Key-5 body.keys)) (behind (block.back-Body-condition body.condition) (drop (item_count (block.hidden-the_row-FromItem-4 body.from)) (drop (column_count (block.hidden-the_row-Column-3 columns)) (inner ps)))))
      ≡ beyond_option body.offset (drop (length body.keys) (beyond_option body.condition (drop (length body.from) (drop (length columns) (inner ps)))))
  limit_at = λ i. behind_is body.offset (offset_at i) i
