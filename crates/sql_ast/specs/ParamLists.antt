-- The ARGs in lists of forms, and in optional ones.
use Rattle.std.specs.Prelude.{ℕ, List, [], ◌∷◌, ◌++◌, insert, Option, Some, None}
use Rattle.ev_list.specs.declared.param.Param.{Param}
use Rattle.sql_ast.specs.declared.catalog.Typed.{Typed}
use Rattle.sql_ast.specs.declared.expression.SqlExpr.{SqlExpr}
use Rattle.sql_ast.specs.declared.select.Body.{Body}
use Rattle.sql_ast.specs.declared.select.Column.{Column}
use Rattle.sql_ast.specs.declared.select.FromItem.{FromItem}
use Rattle.sql_ast.specs.declared.select.Key.{Key}
use Rattle.sql_ast.specs.Params.{args_of_expr, args_of_item, args_of_key}

abbrev pub args_in_exprs : List SqlExpr → List Typed
args_in_exprs [] = []
args_in_exprs (first ∷ more) = args_of_expr first ++ args_in_exprs more

abbrev pub args_in_columns : List Column → List Typed
args_in_columns [] = []
args_in_columns (first ∷ more) = args_of_expr first.value ++ args_in_columns more

abbrev pub args_in_items : List FromItem → List Typed
args_in_items [] = []
args_in_items (first ∷ more) = args_of_item first ++ args_in_items more

abbrev pub args_in_keys : List Key → List Typed
args_in_keys [] = []
args_in_keys (first ∷ more) = args_of_key first ++ args_in_keys more

abbrev pub args_in_option : Option SqlExpr → List Typed
args_in_option None = []
args_in_option (Some x) = args_of_expr x

-- of what stands behind the columns
abbrev pub args_in_body : Body → List Typed
args_in_body body = args_in_items body.from ++ (args_in_option body.condition ++ (args_in_keys body.keys ++ (args_in_option body.offset ++ args_in_option body.limit)))

-- parameters with one more at a place, or as they are
abbrev pub put_at : Option ℕ → Param → List Param → List Param
put_at None p qs = qs
put_at (Some at) p qs = insert qs at p
