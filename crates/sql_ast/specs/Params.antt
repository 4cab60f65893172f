-- The parameters of a statement.
use Rattle.std.specs.Prelude.{ℕ, false, List, [], ◌∷◌, ◌++◌, fold, Option, Some, None, if◌then◌else◌}
use Rattle.std.specs.Cmp.Lexicographic.{slice_cmp}
use Rattle.std.specs.Ordering.{nat_cmp, match_ordering}
use Rattle.std.specs.Str.{bytes_eq}
use Rattle.ev_value.specs.declared.value.ScalarTy.{ScalarTy}
use Rattle.ev_list.specs.declared.param.Param.{Param}
use Rattle.sql_ast.specs.declared.expression.SqlExpr as e
use Rattle.sql_ast.specs.declared.expression.SqlExpr.{SqlExpr, Row_of-SqlExpr, end_of-SqlExpr, more_of-SqlExpr, Row_of-Core, end_of-Core, more_of-Core}
use Rattle.sql_ast.specs.declared.select.Core as c
use Rattle.sql_ast.specs.declared.select.Core.{Core, Row_of-Column, end_of-Column, more_of-Column, Row_of-FromItem, end_of-FromItem, more_of-FromItem, Row_of-Key, end_of-Key, more_of-Key, Held-Body-condition, None', Some'}
use Rattle.sql_ast.specs.declared.select.FromItem as f
use Rattle.sql_ast.specs.declared.select.FromItem.{FromItem}
use Rattle.sql_ast.specs.declared.select.Key as k
use Rattle.sql_ast.specs.declared.select.Key.{Key}
use Rattle.sql_ast.specs.declared.select.Stmt.{Stmt}
use Rattle.sql_ast.specs.declared.catalog.Typed.{Typed}
use Rattle.sql_ast.specs.declared.ty.SqlTy.{SqlTy, Scalar}

unfoldable mutual
  -- each ARG of an expression with its type, in the order of the text
  pub args_of_expr : SqlExpr → List Typed
  args_of_expr (e.Arg name ty) = record { name = name; ty = ty } ∷ []
  args_of_expr (e.Array' _ cores) = args_of_cores cores
  args_of_expr (e.Row' _ parts) = args_of_exprs parts
  args_of_expr (e.Part' _ (more_of-SqlExpr row end_of-SqlExpr) _) = args_of_expr row
  args_of_expr (e.Case' _ (more_of-SqlExpr condition end_of-SqlExpr) _ (more_of-SqlExpr value end_of-SqlExpr) _ (more_of-SqlExpr other end_of-SqlExpr)) =
      args_of_expr condition ++ (args_of_expr value ++ args_of_expr other)
  args_of_expr (e.Cast' _ (more_of-SqlExpr operand end_of-SqlExpr) _) = args_of_expr operand
  args_of_expr (e.Unary' _ _ (more_of-SqlExpr operand end_of-SqlExpr)) = args_of_expr operand
  args_of_expr (e.Binary' _ _ (more_of-SqlExpr left end_of-SqlExpr) _ (more_of-SqlExpr right end_of-SqlExpr)) = args_of_expr left ++ args_of_expr right
  args_of_expr (e.Call' _ _ (more_of-SqlExpr operand end_of-SqlExpr)) = args_of_expr operand
  args_of_expr _ = []

  pub args_of_exprs : {m : _} → Row_of-SqlExpr m → List Typed
  args_of_exprs end_of-SqlExpr = []
  args_of_exprs (more_of-SqlExpr first more) = args_of_expr first ++ args_of_exprs more

  pub args_of_cores : {m : _} → Row_of-Core m → List Typed
  args_of_cores end_of-Core = []
  args_of_cores (more_of-Core core more) = args_of_core core ++ args_of_cores more

  -- of the columns, of FROM, WHERE, the keys, OFFSET and LIMIT
  pub args_of_core : Core → List Typed
  args_of_core (c.All' _ columns _ items condition _ keys offset limit) =
      args_of_columns columns ++ (args_of_items items ++ (args_of_option condition ++ (args_of_keys keys ++ (args_of_option offset ++ args_of_option limit))))
  args_of_core (c.Distinct' _ columns _ items condition _ keys offset limit) =
      args_of_columns columns ++ (args_of_items items ++ (args_of_option condition ++ (args_of_keys keys ++ (args_of_option offset ++ args_of_option limit))))

  pub args_of_columns : {m : _} → Row_of-Column m → List Typed
  args_of_columns end_of-Column = []
  args_of_columns (more_of-Column value _ more) = args_of_expr value ++ args_of_columns more

  pub args_of_items : {m : _} → Row_of-FromItem m → List Typed
  args_of_items end_of-FromItem = []
  args_of_items (more_of-FromItem first more) = args_of_item first ++ args_of_items more

  pub args_of_item : FromItem → List Typed
  args_of_item (f.Table _ _) = []
  args_of_item (f.Lateral' _ cores _) = args_of_cores cores
  args_of_item (f.LeftLateral' _ cores _) = args_of_cores cores
  args_of_item (f.Unnest array _) = args_of_expr array

  pub args_of_keys : {m : _} → Row_of-Key m → List Typed
  args_of_keys end_of-Key = []
  args_of_keys (more_of-Key first more) = args_of_key first ++ args_of_keys more

  pub args_of_key : Key → List Typed
  args_of_key (k.Ascending value _) = args_of_expr value
  args_of_key (k.Descending value _) = args_of_expr value

  pub args_of_option : Held-Body-condition → List Typed
  args_of_option None' = []
  args_of_option (Some' _ (more_of-SqlExpr x end_of-SqlExpr)) = args_of_expr x

abbrev pub args_of_cores_list : List Core → List Typed
args_of_cores_list [] = []
args_of_cores_list (core ∷ more) = args_of_core core ++ args_of_cores_list more

-- each ARG of a statement with its type, in the order of the text
abbrev pub args_of : Stmt → List Typed
args_of s = args_of_cores_list s.select.cores

-- the type of the first parameter with a name
abbrev pub type_of_param : List ℕ → List Param → Option ScalarTy
type_of_param name [] = None
type_of_param name (p ∷ more) = if bytes_eq p.name name then Some p.ty else type_of_param name more

-- a parameter in its place by the bytes of its name, if none with that name is there
abbrev pub with_param : List Param → Param → List Param
with_param [] p = p ∷ []
with_param (q ∷ qs) p = match_ordering (slice_cmp nat_cmp p.name q.name) (p ∷ q ∷ qs) (q ∷ qs) (q ∷ with_param qs p)

-- an ARG as a parameter, where its type is scalar; a parameter of a statement may not be absent
abbrev pub param_of : List ℕ → SqlTy → List Param
param_of name (Scalar ty) = record { name = name; ty = ty; optional = false } ∷ []
param_of name _ = []

-- the ARGs with scalar types as parameters; those of a well-formed statement all have such types
abbrev pub scalar_params : List Typed → List Param
scalar_params [] = []
scalar_params (a ∷ more) = param_of a.name a.ty ++ scalar_params more

-- the parameters of a statement in the byte order of their names, each once, with the type of its first ARG
abbrev pub params_of : Stmt → List Param
params_of s = fold with_param [] (scalar_params (args_of s))
