-- The ARGs of each form, at the code's constructors.
use Rattle.std.proofs.Common.{◌≡◌, ℕ, ℤ, Bool, List, [], ◌∷◌, ◌++◌, Option, Some, None, refl, ap, sym, ◌∙◌, subst, append_assoc, Result, OnOk}
use Rattle.ev_value.proofs.Items.{append_nil}
use Rattle.ev_list.specs.declared.order.Absent.{Absent}
use Rattle.sql_ast.specs.declared.expression.Binary.{Binary}
use Rattle.sql_ast.specs.declared.expression.Case.{Case}
use Rattle.sql_ast.specs.declared.expression.Function.{Function}
use Rattle.sql_ast.specs.declared.expression.SqlExpr.{SqlExpr}
use Rattle.sql_ast.specs.declared.expression.SqlExpr.TheBlock as block
use Rattle.sql_ast.specs.declared.expression.SqlExpr.TheVariants as expr
use Rattle.sql_ast.specs.declared.expression.UnaryOp.{UnaryOp}
use Rattle.sql_ast.specs.declared.select.Body.{Body}
use Rattle.sql_ast.specs.declared.select.Column.{Column}
use Rattle.sql_ast.specs.declared.select.Core.{Core}
use Rattle.sql_ast.specs.declared.select.Core.TheVariants as core
use Rattle.sql_ast.specs.declared.select.FromItem.{FromItem}
use Rattle.sql_ast.specs.declared.select.FromItem.TheVariants as from
use Rattle.sql_ast.specs.declared.select.Key.{Key}
use Rattle.sql_ast.specs.declared.select.Key.TheVariants as key
use Rattle.sql_ast.specs.declared.select.Select.{Select}
use Rattle.sql_ast.specs.declared.catalog.Typed.{Typed}
use Rattle.sql_ast.specs.declared.ty.SqlTy.{SqlTy}
use Rattle.sql_ast.specs.declared.ty.SqlTy.TheBlock as ty_block
use Rattle.sql_ast.specs.declared.ty.SqlTy.TheVariants as ty
use Rattle.sql_ast.specs.ParamLists.{args_in_body, args_in_columns, args_in_exprs, args_in_items, args_in_keys, args_in_option}
use Rattle.sql_ast.specs.Params.{args_of_columns, args_of_core, args_of_cores, args_of_cores_list, args_of_expr, args_of_exprs, args_of_item, args_of_items, args_of_key, args_of_keys, args_of_option, param_of}
use denote.Hole.Carrier as carrier

pub param_row : (name : List ℕ) (ts : List SqlTy) → param_of name (ty.Row ts) ≡ []
unfolding ty_block.hidden-the_row-SqlTy-0 carrier.hidden
param_row name ts = refl

pub param_array : (name : List ℕ) (t : SqlTy) → param_of name (ty.Array t) ≡ []
unfolding ty_block.hidden-the_row-SqlTy-1 carrier.hidden
param_array name t = refl

-- ---- lists and options

exprs_hidden : (es : List SqlExpr) → args_of_exprs (block.hidden-the_row-SqlExpr-1 es) ≡ args_in_exprs es
unfolding args_of_expr block.hidden-the_row-SqlExpr-1 carrier.hidden
exprs_hidden [] = refl
exprs_hidden (e ∷ es) = ap (λ l. args_of_expr e ++ l) (exprs_hidden es)

columns_hidden : (cs : List Column) → args_of_columns (block.hidden-the_row-Column-3 cs) ≡ args_in_columns cs
unfolding args_of_expr block.hidden-the_row-Column-3 carrier.hidden
columns_hidden [] = refl
columns_hidden (c ∷ cs) = ap (λ l. args_of_expr c.value ++ l) (columns_hidden cs)

items_hidden : (is : List FromItem) → args_of_items (block.hidden-the_row-FromItem-4 is) ≡ args_in_items is
unfolding args_of_expr block.hidden-the_row-FromItem-4 carrier.hidden
items_hidden [] = refl
items_hidden (i ∷ is) = ap (λ l. args_of_item i ++ l) (items_hidden is)

keys_hidden : (ks : List Key) → args_of_keys (block.hidden-the_row-Key-5 ks) ≡ args_in_keys ks
unfolding args_of_expr block.hidden-the_row-Key-5 carrier.hidden
keys_hidden [] = refl
keys_hidden (k ∷ ks) = ap (λ l. args_of_key k ++ l) (keys_hidden ks)

cores_hidden : (cs : List Core) → args_of_cores (block.hidden-the_row-Core-0 cs) ≡ args_of_cores_list cs
unfolding args_of_expr block.hidden-the_row-Core-0 carrier.hidden
cores_hidden [] = refl
cores_hidden (c ∷ cs) = ap (λ l. args_of_core c ++ l) (cores_hidden cs)

option_back : (o : Option SqlExpr) → args_of_option (block.back-Body-condition o) ≡ args_in_option o
unfolding args_of_expr block.hidden-the_row-SqlExpr-2 carrier.hidden
option_back None = refl
option_back (Some x) = refl

-- ---- expressions

pub of_array : (s : Select) → args_of_expr (expr.Array s) ≡ args_of_cores_list s.cores
unfolding args_of_expr
of_array s = cores_hidden s.cores

pub of_row : (es : List SqlExpr) → args_of_expr (expr.Row es) ≡ args_in_exprs es
unfolding args_of_expr
of_row es = exprs_hidden es

pub of_int : (z : ℤ) → args_of_expr (expr.Int z) ≡ []
unfolding args_of_expr
of_int z = refl

pub of_text : (s : List ℕ) → args_of_expr (expr.Text s) ≡ []
unfolding args_of_expr
of_text s = refl

pub of_bool : (b : Bool) → args_of_expr (expr.Bool b) ≡ []
unfolding args_of_expr
of_bool b = refl

pub of_uuid : (n : ℕ) → args_of_expr (expr.Uuid n) ≡ []
unfolding args_of_expr
of_uuid n = refl

pub of_null : (t : SqlTy) → args_of_expr (expr.Null t) ≡ []
unfolding args_of_expr
of_null t = refl

pub of_column : (alias name : List ℕ) → args_of_expr (expr.Column alias name) ≡ []
unfolding args_of_expr
of_column alias name = refl

pub of_arg : (name : List ℕ) (t : SqlTy) → args_of_expr (expr.Arg name t) ≡ record { name = name; ty = t } ∷ []
unfolding args_of_expr
of_arg name t = refl

pub of_global : (name : List ℕ) → args_of_expr (expr.Global name) ≡ []
unfolding args_of_expr
of_global name = refl

pub of_part : (row : SqlExpr) (z : ℤ) → args_of_expr (expr.Part row z) ≡ args_of_expr row
unfolding args_of_expr block.hidden-the_row-SqlExpr-2 carrier.hidden
of_part row z = refl

pub of_case : (form : Case) → args_of_expr (expr.Case form) ≡ args_of_expr form.condition ++ (args_of_expr form.value ++ args_of_expr form.other)
unfolding args_of_expr block.hidden-the_row-SqlExpr-2 carrier.hidden
of_case form = refl

pub of_cast : (operand : SqlExpr) (t : SqlTy) → args_of_expr (expr.Cast operand t) ≡ args_of_expr operand
unfolding args_of_expr block.hidden-the_row-SqlExpr-2 carrier.hidden
of_cast operand t = refl

pub of_unary : (operator : UnaryOp) (operand : SqlExpr) → args_of_expr (expr.Unary operator operand) ≡ args_of_expr operand
unfolding args_of_expr block.hidden-the_row-SqlExpr-2 carrier.hidden
of_unary operator operand = refl

pub of_binary : (form : Binary) → args_of_expr (expr.Binary form) ≡ args_of_expr form.left ++ args_of_expr form.right
unfolding args_of_expr block.hidden-the_row-SqlExpr-2 carrier.hidden
of_binary form = refl

pub of_call : (called : Function) (operand : SqlExpr) → args_of_expr (expr.Call called operand) ≡ args_of_expr operand
unfolding args_of_expr block.hidden-the_row-SqlExpr-2 carrier.hidden
of_call called operand = refl

-- ---- cores, items and keys

body_hidden : (body : Body) → args_of_items (block.hidden-the_row-FromItem-4 body.from) ++ (args_of_option (block.back-Body-condition body.condition) ++ (args_of_keys (block.hidden-the_row-Key-5 body.keys) ++ (args_of_option (block.back-Body-condition body.offset) ++ args_of_option (block.back-Body-condition body.limit)))) ≡ args_in_body body
body_hidden body = λ i. items_hidden body.from i ++ (option_back body.condition i ++ (keys_hidden body.keys i ++ (option_back body.offset i ++ option_back body.limit i)))

pub of_all : (columns : List Column) (body : Body) → args_of_core (core.All columns body) ≡ args_in_columns columns ++ args_in_body body
unfolding args_of_expr
of_all columns body = λ i. columns_hidden columns i ++ body_hidden body i

pub of_distinct : (columns : List Column) (body : Body) → args_of_core (core.Distinct columns body) ≡ args_in_columns columns ++ args_in_body body
unfolding args_of_expr
of_distinct columns body = λ i. columns_hidden columns i ++ body_hidden body i

pub of_table : (name alias : List ℕ) → args_of_item (from.Table name alias) ≡ []
unfolding args_of_expr
of_table name alias = refl

pub of_lateral : (s : Select) (alias : List ℕ) → args_of_item (from.Lateral s alias) ≡ args_of_cores_list s.cores
unfolding args_of_expr
of_lateral s alias = cores_hidden s.cores

pub of_left : (s : Select) (alias : List ℕ) → args_of_item (from.LeftLateral s alias) ≡ args_of_cores_list s.cores
unfolding args_of_expr
of_left s alias = cores_hidden s.cores

pub of_unnest : (array : SqlExpr) (alias : List ℕ) → args_of_item (from.Unnest array alias) ≡ args_of_expr array
unfolding args_of_expr
of_unnest array alias = refl

pub of_ascending : (value : SqlExpr) (nulls : Absent) → args_of_key (key.Ascending value nulls) ≡ args_of_expr value
unfolding args_of_expr
of_ascending value nulls = refl

pub of_descending : (value : SqlExpr) (nulls : Absent) → args_of_key (key.Descending value nulls) ≡ args_of_expr value
unfolding args_of_expr
of_descending value nulls = refl

-- ---- what is added

pub no_args : (all xs : List Typed) → xs ≡ [] → all ≡ all ++ xs
no_args all xs h = sym (ap (λ l. all ++ l) h ∙ append_nil all)

pub core_args : {T E : Type 0} (r : Result T E) (all first new : List Typed) (cs bs xs : List Typed) → first ≡ all ++ cs → OnOk r (new ≡ first ++ bs) → xs ≡ cs ++ bs → OnOk r (new ≡ all ++ xs)
core_args r all first new cs bs xs e h x = subst (λ l. OnOk r (new ≡ l)) (ap (λ l. l ++ bs) e ∙ append_assoc all cs bs ∙ sym (ap (λ l. all ++ l) x)) h
