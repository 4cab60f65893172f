-- A form as cases see it is the form that the code makes.
use Rattle.std.proofs.Common.{◌≡◌, ℤ, List, refl, sym, ap, ◌∙◌}
use Rattle.sql_ast.specs.declared.expression.BinaryOp.{BinaryOp}
use Rattle.sql_ast.specs.declared.expression.UnaryOp.{UnaryOp}
use Rattle.sql_ast.specs.declared.expression.Function.{Function}
use Rattle.sql_ast.specs.declared.expression.SqlExpr as e
use Rattle.sql_ast.specs.declared.expression.SqlExpr.{SqlExpr, Row_of-SqlExpr, end_of-SqlExpr, more_of-SqlExpr, Row_of-Core, end_of-Core, more_of-Core, roll-SqlExpr, out-SqlExpr, items-the_row-SqlExpr, items-the_row-Core, roll-out-SqlExpr}
use Rattle.sql_ast.specs.declared.expression.SqlExpr.TheVariants as expr
use Rattle.sql_ast.specs.declared.expression.SqlExpr.TheOpen as open_expr
use Rattle.sql_ast.specs.declared.expression.SqlExpr.TheBlock as block
use Rattle.sql_ast.specs.declared.select.Core.{Core}
use Rattle.sql_ast.specs.declared.ty.SqlTy as t
use Rattle.sql_ast.specs.declared.ty.SqlTy.{SqlTy, Row_of-SqlTy, end_of-SqlTy, more_of-SqlTy, roll-SqlTy, out-SqlTy, items-the_row-SqlTy, roll-out-SqlTy}
use Rattle.sql_ast.specs.declared.ty.SqlTy.TheVariants as ty
use Rattle.sql_ast.specs.declared.ty.SqlTy.TheOpen as open_ty
use Rattle.sql_ast.specs.declared.ty.SqlTy.TheBlock as ty_block
use denote.Hole.Carrier.{shown-items, list-listed}
use denote.Hole.Carrier as carrier
use mathlib.Core.Former.{Count, list, list_count, this}

-- ---- types

abbrev pub types_in : {m : Count} → Row_of-SqlTy m → List SqlTy
types_in {m = m} row = items-the_row-SqlTy m row

row_ty_opens : (s : List (Unit {0})) (row : Row_of-SqlTy (list_count (this {0}) s 0)) → out-SqlTy (t.Row' s row) ≡ open_ty.Row (types_in row)
unfolding out-SqlTy carrier.out ty_block.shown-the_row-SqlTy-0
row_ty_opens s row = ap open_ty.Row (shown-items (list (this {0})) SqlTy Row_of-SqlTy ty_block.view-the_row-SqlTy (λ x. x) (list-listed SqlTy) s row)

pub row_ty_is : (s : List (Unit {0})) (row : Row_of-SqlTy (list_count (this {0}) s 0)) → t.Row' s row ≡ ty.Row (types_in row)
row_ty_is s row = sym (roll-out-SqlTy (t.Row' s row)) ∙ ap roll-SqlTy (row_ty_opens s row) ∙ ty.rolls-Row (types_in row)

pub array_ty_is : (s : _) (x : SqlTy) → t.Array' s (more_of-SqlTy x end_of-SqlTy) ≡ ty.Array x
unfolding ty_block.hidden-the_row-SqlTy-1 carrier.hidden
array_ty_is s x = refl

-- ---- expressions

abbrev pub exprs_in : {m : Count} → Row_of-SqlExpr m → List SqlExpr
exprs_in {m = m} row = items-the_row-SqlExpr m row

abbrev pub cores_in : {m : Count} → Row_of-Core m → List Core
cores_in {m = m} row = items-the_row-Core m row

row_opens : (s : List (Unit {0})) (row : Row_of-SqlExpr (list_count (this {0}) s 0)) → out-SqlExpr (e.Row' s row) ≡ open_expr.Row (exprs_in row)
unfolding out-SqlExpr carrier.out block.shown-the_row-SqlExpr-1
row_opens s row = ap open_expr.Row (shown-items (list (this {0})) SqlExpr Row_of-SqlExpr block.view-the_row-SqlExpr (λ x. x) (list-listed SqlExpr) s row)

pub row_is : (s : List (Unit {0})) (row : Row_of-SqlExpr (list_count (this {0}) s 0)) → e.Row' s row ≡ expr.Row (exprs_in row)
row_is s row = sym (roll-out-SqlExpr (e.Row' s row)) ∙ ap roll-SqlExpr (row_opens s row) ∙ expr.rolls-Row (exprs_in row)

array_opens : (s : List (Unit {0})) (row : Row_of-Core (list_count (this {0}) s 0)) → out-SqlExpr (e.Array' s row) ≡ open_expr.Array (record { cores = cores_in row })
unfolding out-SqlExpr carrier.out block.shown-the_row-Core-0
array_opens s row = ap (λ (cs : List Core). open_expr.Array (record { cores = cs })) (shown-items (list (this {0})) Core Row_of-Core block.view-the_row-Core (λ x. x) (list-listed Core) s row)

pub array_is : (s : List (Unit {0})) (row : Row_of-Core (list_count (this {0}) s 0)) → e.Array' s row ≡ expr.Array (record { cores = cores_in row })
array_is s row = sym (roll-out-SqlExpr (e.Array' s row)) ∙ ap roll-SqlExpr (array_opens s row) ∙ expr.rolls-Array (record { cores = cores_in row })

pub part_is : (s : _) (x : SqlExpr) (z : ℤ) → e.Part' s (more_of-SqlExpr x end_of-SqlExpr) z ≡ expr.Part x z
unfolding block.hidden-the_row-SqlExpr-2 carrier.hidden
part_is s x z = refl

pub case_is : (s u v : _) (x y z : SqlExpr) → e.Case' s (more_of-SqlExpr x end_of-SqlExpr) u (more_of-SqlExpr y end_of-SqlExpr) v (more_of-SqlExpr z end_of-SqlExpr) ≡ expr.Case (record { condition = x; value = y; other = z })
unfolding block.hidden-the_row-SqlExpr-2 carrier.hidden
case_is s u v x y z = refl

pub cast_is : (s : _) (x : SqlExpr) (t : SqlTy) → e.Cast' s (more_of-SqlExpr x end_of-SqlExpr) t ≡ expr.Cast x t
unfolding block.hidden-the_row-SqlExpr-2 carrier.hidden
cast_is s x t = refl

pub unary_is : (o : UnaryOp) (s : _) (x : SqlExpr) → e.Unary' o s (more_of-SqlExpr x end_of-SqlExpr) ≡ expr.Unary o x
unfolding block.hidden-the_row-SqlExpr-2 carrier.hidden
unary_is o s x = refl

pub binary_is : (o : BinaryOp) (s u : _) (x y : SqlExpr) → e.Binary' o s (more_of-SqlExpr x end_of-SqlExpr) u (more_of-SqlExpr y end_of-SqlExpr) ≡ expr.Binary (record { operator = o; left = x; right = y })
unfolding block.hidden-the_row-SqlExpr-2 carrier.hidden
binary_is o s u x y = refl

pub call_is : (o : Function) (s : _) (x : SqlExpr) → e.Call' o s (more_of-SqlExpr x end_of-SqlExpr) ≡ expr.Call o x
unfolding block.hidden-the_row-SqlExpr-2 carrier.hidden
call_is o s x = refl
