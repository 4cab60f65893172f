-- How high the tree of a statement is. A select with its cores is one node, and so is an expression; columns, items of
-- FROM and keys are none. A type is a node below what holds it.
use Rattle.std.specs.Prelude.{ℕ, suc, max, List, [], ◌∷◌}
use Rattle.sql_ast.specs.declared.expression.SqlExpr as e
use Rattle.sql_ast.specs.declared.expression.SqlExpr.{SqlExpr, Row_of-SqlExpr, end_of-SqlExpr, more_of-SqlExpr, Row_of-Core, end_of-Core, more_of-Core}
use Rattle.sql_ast.specs.declared.select.Core as c
use Rattle.sql_ast.specs.declared.select.Core.{Core, Row_of-Column, end_of-Column, more_of-Column, Row_of-FromItem, end_of-FromItem, more_of-FromItem, Row_of-Key, end_of-Key, more_of-Key, Held-Body-condition, None', Some'}
use Rattle.sql_ast.specs.declared.select.FromItem as f
use Rattle.sql_ast.specs.declared.select.FromItem.{FromItem}
use Rattle.sql_ast.specs.declared.select.Key as k
use Rattle.sql_ast.specs.declared.select.Key.{Key}
use Rattle.sql_ast.specs.declared.select.Stmt.{Stmt}
use Rattle.sql_ast.specs.declared.ty.SqlTy as t
use Rattle.sql_ast.specs.declared.ty.SqlTy.{SqlTy, Row_of-SqlTy, end_of-SqlTy, more_of-SqlTy}

unfoldable mutual
  pub type_height : SqlTy → ℕ
  type_height (t.Scalar _) = 1
  type_height (t.Row' _ parts) = suc (types_height parts)
  type_height (t.Array' _ (more_of-SqlTy element end_of-SqlTy)) = suc (type_height element)

  pub types_height : {m : _} → Row_of-SqlTy m → ℕ
  types_height end_of-SqlTy = 0
  types_height (more_of-SqlTy first more) = max (type_height first) (types_height more)

unfoldable mutual
  pub expr_height : SqlExpr → ℕ
  expr_height (e.Int _) = 1
  expr_height (e.Text _) = 1
  expr_height (e.Bool _) = 1
  expr_height (e.Uuid _) = 1
  expr_height (e.Null ty) = suc (type_height ty)
  expr_height (e.Column _ _) = 1
  expr_height (e.Arg _ ty) = suc (type_height ty)
  expr_height (e.Global _) = 1
  expr_height (e.Array' _ cores) = suc (suc (cores_height cores))
  expr_height (e.Row' _ parts) = suc (exprs_height parts)
  expr_height (e.Part' _ (more_of-SqlExpr row end_of-SqlExpr) _) = suc (expr_height row)
  expr_height (e.Case' _ (more_of-SqlExpr condition end_of-SqlExpr) _ (more_of-SqlExpr value end_of-SqlExpr) _ (more_of-SqlExpr other end_of-SqlExpr)) =
      suc (max (expr_height condition) (max (expr_height value) (expr_height other)))
  expr_height (e.Cast' _ (more_of-SqlExpr operand end_of-SqlExpr) ty) = suc (max (expr_height operand) (type_height ty))
  expr_height (e.Unary' _ _ (more_of-SqlExpr operand end_of-SqlExpr)) = suc (expr_height operand)
  expr_height (e.Binary' _ _ (more_of-SqlExpr left end_of-SqlExpr) _ (more_of-SqlExpr right end_of-SqlExpr)) = suc (max (expr_height left) (expr_height right))
  expr_height (e.Call' _ _ (more_of-SqlExpr operand end_of-SqlExpr)) = suc (expr_height operand)

  pub exprs_height : {m : _} → Row_of-SqlExpr m → ℕ
  exprs_height end_of-SqlExpr = 0
  exprs_height (more_of-SqlExpr first more) = max (expr_height first) (exprs_height more)

  -- what stands below the node of a select
  pub cores_height : {m : _} → Row_of-Core m → ℕ
  cores_height end_of-Core = 0
  cores_height (more_of-Core core more) = max (core_height core) (cores_height more)

  pub core_height : Core → ℕ
  core_height (c.All' _ columns _ items condition _ keys offset limit) =
      max (columns_height columns) (max (items_height items) (max (option_height condition) (max (keys_height keys) (max (option_height offset) (option_height limit)))))
  core_height (c.Distinct' _ columns _ items condition _ keys offset limit) =
      max (columns_height columns) (max (items_height items) (max (option_height condition) (max (keys_height keys) (max (option_height offset) (option_height limit)))))

  pub columns_height : {m : _} → Row_of-Column m → ℕ
  columns_height end_of-Column = 0
  columns_height (more_of-Column value _ more) = max (expr_height value) (columns_height more)

  pub items_height : {m : _} → Row_of-FromItem m → ℕ
  items_height end_of-FromItem = 0
  items_height (more_of-FromItem first more) = max (item_height first) (items_height more)

  pub item_height : FromItem → ℕ
  item_height (f.Table _ _) = 0
  item_height (f.Lateral' _ cores _) = suc (cores_height cores)
  item_height (f.LeftLateral' _ cores _) = suc (cores_height cores)
  item_height (f.Unnest array _) = expr_height array

  pub keys_height : {m : _} → Row_of-Key m → ℕ
  keys_height end_of-Key = 0
  keys_height (more_of-Key first more) = max (key_height first) (keys_height more)

  pub key_height : Key → ℕ
  key_height (k.Ascending value _) = expr_height value
  key_height (k.Descending value _) = expr_height value

  pub option_height : Held-Body-condition → ℕ
  option_height None' = 0
  option_height (Some' _ (more_of-SqlExpr x end_of-SqlExpr)) = expr_height x

-- the height of the cores of a list
abbrev pub cores_height_of : List Core → ℕ
cores_height_of [] = 0
cores_height_of (core ∷ more) = max (core_height core) (cores_height_of more)

-- the height of a statement
abbrev pub nesting : Stmt → ℕ
nesting s = suc (cores_height_of s.select.cores)
