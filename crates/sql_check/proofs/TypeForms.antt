-- What is said of each form, and what each gives, at the code's constructors.
use Rattle.std.proofs.Common.{◌≡◌, ◌∙◌, ℕ, ℤ, Bool, List, [], ◌∷◌, Result, IfOk, subst, refl, ap, sym}
use Rattle.sql_ast.specs.declared.catalog.Typed.{Typed}
use Rattle.sql_ast.specs.declared.catalog.Catalog.{Catalog}
use Rattle.sql_ast.specs.declared.expression.Binary.{Binary}
use Rattle.sql_ast.specs.declared.expression.Case.{Case}
use Rattle.sql_ast.specs.declared.expression.Function.{Function}
use Rattle.sql_ast.specs.declared.expression.SqlExpr.{SqlExpr}
use Rattle.sql_ast.specs.declared.expression.SqlExpr.TheBlock as block
use Rattle.sql_ast.specs.declared.expression.SqlExpr.TheVariants as expr
use Rattle.sql_ast.specs.declared.expression.UnaryOp.{UnaryOp}
use Rattle.sql_ast.specs.declared.select.Body.{Body}
use Rattle.sql_ast.specs.declared.select.Column.{Column}
use Rattle.sql_ast.specs.declared.select.Core.{Core}
use Rattle.sql_ast.specs.declared.select.Core.TheVariants as core
use Rattle.sql_ast.specs.declared.select.FromItem.{FromItem}
use Rattle.sql_ast.specs.declared.select.FromItem.TheVariants as from
use Rattle.sql_ast.specs.declared.select.Select.{Select}
use Rattle.sql_ast.specs.declared.ty.SqlTy.{SqlTy}
use Rattle.sql_ast.specs.Types.{INT, TEXT, BOOL, UUID}
use Rattle.sql_ast.specs.WellFormed.{Name, type_under, columns_under}
use Rattle.sql_check.specs.declared.sort.Known.{Known}
use Rattle.sql_check.specs.declared.sort.Sort.{Sort}
use Rattle.sql_check.specs.SortFrames.{with_known}
use Rattle.sql_check.specs.declared.verdict.Verdict.TheVariants.{Has}
use Rattle.sql_check.specs.Types.{Sorts, known, column_type, arg_verdict, array_verdict, row_verdict, with_first, type_in, table_sorts, element_sort, element_in, verdict, verdicts, select_sorts, core_sorts, column_sorts, within, item_sorts}
use Rattle.sql_check.specs.TypeLists.{of_unary, of_binary, of_cast, of_part, of_call, of_place, of_case, verdicts_of, sorts_of_cores, column_of, sorts_of_columns, known_of, within_items}
use denote.Hole.Carrier as carrier

module _ (catalog : Catalog) (params : List Typed) where
  cores_hidden : (cs : List Core) (d : Sorts) → select_sorts catalog params (block.hidden-the_row-Core-0 cs) d ≡ sorts_of_cores catalog params cs d
  unfolding verdict block.hidden-the_row-Core-0 carrier.hidden
  cores_hidden [] d = refl
  cores_hidden (c ∷ cs) d = refl

  exprs_hidden : (es : List SqlExpr) (d : Sorts) → verdicts catalog params (block.hidden-the_row-SqlExpr-1 es) d ≡ verdicts_of catalog params es d
  unfolding verdict block.hidden-the_row-SqlExpr-1 carrier.hidden
  exprs_hidden [] d = refl
  exprs_hidden (e ∷ es) d = ap (λ ts. with_first (type_in (verdict catalog params e d)) ts) (exprs_hidden es d)

  pub columns_hidden : (cs : List Column) (d : Sorts) → column_sorts catalog params (block.hidden-the_row-Column-3 cs) d ≡ sorts_of_columns catalog params cs d
  unfolding verdict block.hidden-the_row-Column-3 carrier.hidden
  columns_hidden [] d = refl
  columns_hidden (c ∷ cs) d = ap (λ l. column_of catalog params c d ∷ l) (columns_hidden cs d)

  pub within_hidden : (is : List FromItem) (d : Sorts) → within catalog params (block.hidden-the_row-FromItem-4 is) d ≡ within_items catalog params is d
  unfolding verdict block.hidden-the_row-FromItem-4 carrier.hidden
  within_hidden [] d = refl
  within_hidden (i ∷ is) d = within_hidden is (known_of catalog params i d ∷ d)

  pub sorts_all : (columns : List Column) (body : Body) (d : Sorts) → core_sorts catalog params (core.All columns body) d ≡ sorts_of_columns catalog params columns (within_items catalog params body.from d)
  unfolding verdict
  sorts_all columns body d = columns_hidden columns _ ∙ ap (λ w. sorts_of_columns catalog params columns w) (within_hidden body.from d)

  pub sorts_distinct : (columns : List Column) (body : Body) (d : Sorts) → core_sorts catalog params (core.Distinct columns body) d ≡ sorts_of_columns catalog params columns (within_items catalog params body.from d)
  unfolding verdict
  sorts_distinct columns body d = columns_hidden columns _ ∙ ap (λ w. sorts_of_columns catalog params columns w) (within_hidden body.from d)

  pub sorts_table : (name alias : Name) (d : Sorts) → item_sorts catalog params (from.Table name alias) d ≡ table_sorts (columns_under name catalog.tables)
  unfolding verdict
  sorts_table name alias d = refl

  pub sorts_lateral : (s : Select) (alias : Name) (d : Sorts) → item_sorts catalog params (from.Lateral s alias) d ≡ sorts_of_cores catalog params s.cores d
  unfolding verdict
  sorts_lateral s alias d = cores_hidden s.cores d

  pub sorts_left : (s : Select) (alias : Name) (d : Sorts) → item_sorts catalog params (from.LeftLateral s alias) d ≡ sorts_of_cores catalog params s.cores d
  unfolding verdict
  sorts_left s alias d = cores_hidden s.cores d

  pub sorts_unnest : (array : SqlExpr) (alias : Name) (d : Sorts) → item_sorts catalog params (from.Unnest array alias) d ≡ element_sort (element_in (type_in (verdict catalog params array d)))
  unfolding verdict
  sorts_unnest array alias d = refl

module _ (catalog : Catalog) (params : List Typed) (d : Sorts) where
  pub int_verdict : (z : ℤ) → verdict catalog params (expr.Int z) d ≡ Has INT
  unfolding verdict
  int_verdict z = refl

  pub text_verdict : (s : List ℕ) → verdict catalog params (expr.Text s) d ≡ Has TEXT
  unfolding verdict
  text_verdict s = refl

  pub bool_verdict : (b : Bool) → verdict catalog params (expr.Bool b) d ≡ Has BOOL
  unfolding verdict
  bool_verdict b = refl

  pub uuid_verdict : (n : ℕ) → verdict catalog params (expr.Uuid n) d ≡ Has UUID
  unfolding verdict
  uuid_verdict n = refl

  pub null_verdict : (t : SqlTy) → verdict catalog params (expr.Null t) d ≡ Has t
  unfolding verdict
  null_verdict t = refl

  pub column_verdict : (alias name : Name) → verdict catalog params (expr.Column alias name) d ≡ known (column_type alias name d)
  unfolding verdict
  column_verdict alias name = refl

  pub arg_is : (name : List ℕ) (t : SqlTy) → verdict catalog params (expr.Arg name t) d ≡ arg_verdict t (type_under name params)
  unfolding verdict
  arg_is name t = refl

  pub global_verdict : (name : Name) → verdict catalog params (expr.Global name) d ≡ known (type_under name catalog.globals)
  unfolding verdict
  global_verdict name = refl

  pub part_is : (row : SqlExpr) (z : ℤ) → verdict catalog params (expr.Part row z) d ≡ of_part (verdict catalog params row d) z
  unfolding verdict of_part block.hidden-the_row-SqlExpr-2 carrier.hidden
  part_is row z = refl

  pub case_is : (form : Case) → verdict catalog params (expr.Case form) d ≡ of_case (verdict catalog params form.condition d) (verdict catalog params form.value d) (verdict catalog params form.other d)
  unfolding verdict of_case of_place block.hidden-the_row-SqlExpr-2 carrier.hidden
  case_is form = refl

  pub cast_is : (operand : SqlExpr) (t : SqlTy) → verdict catalog params (expr.Cast operand t) d ≡ of_cast (verdict catalog params operand d) t
  unfolding verdict of_cast block.hidden-the_row-SqlExpr-2 carrier.hidden
  cast_is operand t = refl

  pub unary_is : (operator : UnaryOp) (operand : SqlExpr) → verdict catalog params (expr.Unary operator operand) d ≡ of_unary operator (verdict catalog params operand d)
  unfolding verdict of_unary block.hidden-the_row-SqlExpr-2 carrier.hidden
  unary_is operator operand = refl

  pub binary_is : (form : Binary) → verdict catalog params (expr.Binary form) d ≡ of_binary form.operator (verdict catalog params form.left d) (verdict catalog params form.right d)
  unfolding verdict of_binary block.hidden-the_row-SqlExpr-2 carrier.hidden
  binary_is form = refl

  pub call_is : (called : Function) (operand : SqlExpr) → verdict catalog params (expr.Call called operand) d ≡ of_call called (verdict catalog params operand d)
  unfolding verdict of_call block.hidden-the_row-SqlExpr-2 carrier.hidden
  call_is called operand = refl

  pub array_is : (s : Select) → verdict catalog params (expr.Array s) d ≡ array_verdict (sorts_of_cores catalog params s.cores d)
  unfolding verdict
  array_is s = ap (λ l. array_verdict l) (cores_hidden catalog params s.cores d)

  pub row_is : (es : List SqlExpr) → verdict catalog params (expr.Row es) d ≡ row_verdict (verdicts_of catalog params es d)
  unfolding verdict
  row_is es = ap (λ ts. row_verdict ts) (exprs_hidden catalog params es d)

-- ---- the columns of a core

pub core_given : {E : Type 0} (catalog : Catalog) (params : List Typed) (d : Sorts) (r : Result (List Sort) E) (cols columns : List Column) (ks known : List Known) (items : List FromItem) (body : Body) (core : Core)
    → IfOk r (λ s. s ≡ sorts_of_columns catalog params cols (with_known ks d)) → with_known known d ≡ within_items catalog params items d
    → core_sorts catalog params core d ≡ sorts_of_columns catalog params columns (within_items catalog params body.from d)
    → cols ≡ columns → ks ≡ known → items ≡ body.from → IfOk r (λ s. s ≡ core_sorts catalog params core d)
core_given catalog params d r cols columns ks known items body core h w x c k f =
    let inside : with_known ks d ≡ within_items catalog params body.from d = ap (λ l. with_known l d) k ∙ w ∙ ap (λ l. within_items catalog params l d) f in
    let same : sorts_of_columns catalog params cols (with_known ks d) ≡ core_sorts catalog params core d = (λ i. sorts_of_columns catalog params (c i) (inside i)) ∙ sym x in
    subst (λ (l : List Sort). IfOk r (λ s. s ≡ l)) same h
