-- What is built of what was read, where it stands in the text, and how high it is.
use Rattle.std.specs.Prelude.{ℕ, ℤ, suc, Bool, false, max, ltb, List, [], ◌∷◌, ◌++◌, Some, None, if◌then◌else◌}
use Rattle.ev_value.specs.declared.value.ScalarTy.{ScalarTy}
use Rattle.ev_list.specs.declared.order.Direction.{Direction}
use Rattle.ev_list.specs.declared.order.Direction.TheVariants as direction
use Rattle.ev_list.specs.declared.order.Absent.{Absent}
use Rattle.sql_ast.specs.declared.ty.SqlTy as ty
use Rattle.sql_ast.specs.declared.expression.SqlExpr as e
use Rattle.sql_ast.specs.declared.expression.SqlExpr.{SqlExpr}
use Rattle.sql_ast.specs.declared.expression.BinaryOp.{BinaryOp}
use Rattle.sql_ast.specs.declared.expression.UnaryOp.{UnaryOp}
use Rattle.sql_ast.specs.declared.expression.UnaryOp.TheVariants as unary
use Rattle.sql_ast.specs.declared.select.Body.{Body}
use Rattle.sql_ast.specs.declared.select.Core as c
use Rattle.sql_ast.specs.declared.select.Core.{Core}
use Rattle.sql_ast.specs.declared.select.FromItem as f
use Rattle.sql_ast.specs.declared.select.Key as k
use Rattle.sql_grammar.specs.declared.limits.TheConstants.{MAX_HEIGHT}
use Rattle.sql_grammar.specs.declared.grown.Places as places
use Rattle.sql_grammar.specs.declared.grown.Places.{Places}
use Rattle.sql_grammar.specs.declared.grown.Name.{Name}
use Rattle.sql_grammar.specs.declared.grown.Called.{Called}
use Rattle.sql_grammar.specs.declared.grown.GrownTy.{GrownTy}
use Rattle.sql_grammar.specs.declared.grown.Types.{Types}
use Rattle.sql_grammar.specs.declared.grown.Grown.{Grown}
use Rattle.sql_grammar.specs.declared.grown.Bunch.{Bunch}
use Rattle.sql_grammar.specs.declared.grown.GrownColumn.{GrownColumn}
use Rattle.sql_grammar.specs.declared.grown.GrownItem.{GrownItem}
use Rattle.sql_grammar.specs.declared.grown.GrownKey.{GrownKey}
use Rattle.sql_grammar.specs.declared.grown.GrownCore.{GrownCore}
use Rattle.sql_grammar.specs.declared.grown.Cores.{Cores}
use Rattle.sql_grammar.specs.declared.grown.GrownSelect.{GrownSelect}

-- ---- heights

-- Whether a tree of this height is too high.
abbrev pub too_high : ℕ → Bool
too_high height = ltb MAX_HEIGHT height

-- No height is too high.
abbrev pub unlimited : ℕ → Bool
unlimited height = false

-- One more, as long as it counts.
abbrev pub above : ℕ → ℕ
above height = if ltb MAX_HEIGHT height then height else suc height

-- ---- types

abbrev pub scalar_ty : ScalarTy → GrownTy
scalar_ty s = record { ty = ty.Scalar s; height = 1 }

abbrev pub no_types : Types
no_types = record { items = []; height = 0 }

abbrev pub first_type : GrownTy → Types
first_type t = record { items = t.ty ∷ []; height = t.height }

abbrev pub added_type : Types → GrownTy → Types
added_type all t = record { items = all.items ++ t.ty ∷ []; height = max all.height t.height }

abbrev pub row_ty : Types → GrownTy
row_ty all = record { ty = ty.Row all.items; height = above all.height }

abbrev pub array_ty : GrownTy → GrownTy
array_ty t = record { ty = ty.Array t.ty; height = above t.height }

-- ---- expressions

-- an expression that begins with its own first token
abbrev pub node : ℕ → SqlExpr → List Places → ℕ → Grown
node start x inner height = record { expr = x; place = places.At start inner; start = start; height = height }

abbrev pub leaf : ℕ → SqlExpr → Grown
leaf start x = node start x [] 1

-- Parentheses are no node.
abbrev pub grouped : ℕ → Grown → Grown
grouped start x = record { expr = x.expr; place = x.place; start = start; height = x.height }

abbrev pub uuid : ℕ → ℕ → Grown
uuid start id = leaf start (e.Uuid id)

abbrev pub null_of : ℕ → GrownTy → Grown
null_of start t = node start (e.Null t.ty) [] (above t.height)

abbrev pub column : Name → Name → Grown
column alias name = leaf alias.start (e.Column alias.text name.text)

abbrev pub argument : ℕ → List ℕ → GrownTy → Grown
argument start name t = node start (e.Arg name t.ty) [] (above t.height)

abbrev pub global : ℕ → List ℕ → Grown
global start name = leaf start (e.Global name)

abbrev pub array : ℕ → GrownSelect → Grown
array start s = node start (e.Array s.select) (s.place ∷ []) (above s.height)

abbrev pub nothing_yet : Bunch
nothing_yet = record { items = []; places = []; height = 0 }

abbrev pub alone : Grown → Bunch
alone x = record { items = x.expr ∷ []; places = x.place ∷ []; height = x.height }

abbrev pub added : Bunch → Grown → Bunch
added all x = record { items = all.items ++ x.expr ∷ []; places = all.places ++ x.place ∷ []; height = max all.height x.height }

abbrev pub row : ℕ → Bunch → Grown
row start all = node start (e.Row all.items) all.places (above all.height)

abbrev pub part : ℕ → Grown → ℤ → Grown
part start x number = node start (e.Part x.expr number) (x.place ∷ []) (above x.height)

abbrev pub case_of : ℕ → Grown → Grown → Grown → Grown
case_of start condition value other =
    node start (e.Case (record { condition = condition.expr; value = value.expr; other = other.expr }))
    (condition.place ∷ value.place ∷ other.place ∷ []) (above (max condition.height (max value.height other.height)))

abbrev pub cast : ℕ → Grown → GrownTy → Grown
cast start x t = node start (e.Cast x.expr t.ty) (x.place ∷ []) (above (max x.height t.height))

abbrev pub call : Called → Grown → Grown
call found x = node found.start (e.Call found.function x.expr) (x.place ∷ []) (above x.height)

abbrev pub prefixed : UnaryOp → ℕ → Grown → Grown
prefixed operator start x = node start (e.Unary operator x.expr) (x.place ∷ []) (above x.height)

-- It begins where its operand's text does.
abbrev pub null_test : Grown → Bool → Grown
null_test x negated = node x.start (e.Unary (if negated then unary.IsNotNull else unary.IsNull) x.expr) (x.place ∷ []) (above x.height)

-- It begins where the left operand's text does.
abbrev pub operated : BinaryOp → Grown → Grown → Grown
operated operator left right =
    node left.start (e.Binary (record { operator = operator; left = left.expr; right = right.expr })) (left.place ∷ right.place ∷ []) (above (max left.height right.height))

-- ---- columns, items and keys

abbrev pub named_column : Grown → Name → GrownColumn
named_column x name = record { column = record { value = x.expr; name = name.text }; place = places.At name.start (x.place ∷ []); height = x.height }

abbrev pub table_item : Name → Name → GrownItem
table_item table alias = record { item = f.Table table.text alias.text; place = places.At alias.start (places.At table.start [] ∷ []); height = 0 }

abbrev pub lateral_item : GrownSelect → Name → GrownItem
lateral_item s alias = record { item = f.Lateral s.select alias.text; place = places.At alias.start (s.place ∷ []); height = s.height }

abbrev pub left_item : GrownSelect → Name → GrownItem
left_item s alias = record { item = f.LeftLateral s.select alias.text; place = places.At alias.start (s.place ∷ []); height = s.height }

abbrev pub unnest_item : Grown → Name → GrownItem
unnest_item x alias = record { item = f.Unnest x.expr alias.text; place = places.At alias.start (x.place ∷ []); height = x.height }

abbrev pub key_of : Grown → Direction → Absent → GrownKey
key_of x direction.Ascending nulls = record { key = k.Ascending x.expr nulls; place = x.place; height = x.height }
key_of x direction.Descending nulls = record { key = k.Descending x.expr nulls; place = x.place; height = x.height }

-- ---- cores

abbrev pub no_body : Body
no_body = record { from = []; condition = None; keys = []; offset = None; limit = None }

abbrev pub first_column : ℕ → Bool → GrownColumn → GrownCore
first_column start distinct x = record { start = start; distinct = distinct; columns = x.column ∷ []; body = no_body; places = x.place ∷ []; height = x.height }

abbrev pub added_column : GrownCore → GrownColumn → GrownCore
added_column g x = record {
  start = g.start;
  distinct = g.distinct;
  columns = g.columns ++ x.column ∷ [];
  body = g.body;
  places = g.places ++ x.place ∷ [];
  height = max g.height x.height;
}

-- with another body, one more place, and what it holds so high
abbrev pub with_body : GrownCore → Body → Places → ℕ → GrownCore
with_body g body at height = record {
  start = g.start;
  distinct = g.distinct;
  columns = g.columns;
  body = body;
  places = g.places ++ at ∷ [];
  height = max g.height height;
}

abbrev pub with_item : GrownCore → GrownItem → GrownCore
with_item g x = with_body g
    (record { from = g.body.from ++ x.item ∷ []; condition = g.body.condition; keys = g.body.keys; offset = g.body.offset; limit = g.body.limit }) x.place x.height

abbrev pub with_condition : GrownCore → Grown → GrownCore
with_condition g x = with_body g
    (record { from = g.body.from; condition = Some x.expr; keys = g.body.keys; offset = g.body.offset; limit = g.body.limit }) x.place x.height

abbrev pub with_key : GrownCore → GrownKey → GrownCore
with_key g x = with_body g
    (record { from = g.body.from; condition = g.body.condition; keys = g.body.keys ++ x.key ∷ []; offset = g.body.offset; limit = g.body.limit }) x.place x.height

abbrev pub with_offset : GrownCore → Grown → GrownCore
with_offset g x = with_body g
    (record { from = g.body.from; condition = g.body.condition; keys = g.body.keys; offset = Some x.expr; limit = g.body.limit }) x.place x.height

abbrev pub with_limit : GrownCore → Grown → GrownCore
with_limit g x = with_body g
    (record { from = g.body.from; condition = g.body.condition; keys = g.body.keys; offset = g.body.offset; limit = Some x.expr }) x.place x.height

abbrev pub core_of : GrownCore → Core
core_of g = if g.distinct then c.Distinct g.columns g.body else c.All g.columns g.body

abbrev pub first_core : GrownCore → Cores
first_core g = record { start = g.start; cores = core_of g ∷ []; places = places.At g.start g.places ∷ []; height = g.height }

abbrev pub added_core : Cores → GrownCore → Cores
added_core all g = record { start = all.start; cores = all.cores ++ core_of g ∷ []; places = all.places ++ places.At g.start g.places ∷ []; height = max all.height g.height }

abbrev pub select_of : Cores → GrownSelect
select_of all = record { select = record { cores = all.cores }; place = places.At all.start all.places; height = above all.height }
