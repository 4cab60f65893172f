-- The bytes of each form, at the code's constructors.
use Rattle.std.proofs.Common.{◌≡◌, ◌∙◌, ℕ, ℤ, Bool, List, [], ◌∷◌, ◌++◌, drop, length, Option, Some, None, Result, OnOk, append_assoc, subst, refl, ap, sym}
use Rattle.ev_value.proofs.Items.{append_nil}
use Rattle.ev_list.specs.declared.order.Absent.{Absent}
use Rattle.sql_ast.specs.declared.catalog.Typed.{Typed}
use Rattle.ev_value.specs.declared.value.ScalarTy.TheVariants as scalar
use Rattle.sql_ast.specs.declared.catalog.Catalog.{Catalog}
use Rattle.sql_ast.specs.declared.expression.Binary.{Binary}
use Rattle.sql_ast.specs.declared.expression.Case.{Case}
use Rattle.sql_ast.specs.declared.expression.Function.{Function}
use Rattle.sql_ast.specs.declared.expression.SqlExpr.{SqlExpr}
use Rattle.sql_ast.specs.declared.expression.SqlExpr.TheBlock as block
use Rattle.sql_ast.specs.declared.expression.SqlExpr.TheVariants as expr
use Rattle.sql_ast.specs.declared.expression.UnaryOp.{UnaryOp}
use Rattle.sql_ast.specs.declared.select.Body.{Body}
use Rattle.sql_ast.specs.declared.select.Column.{Column}
use Rattle.sql_ast.specs.declared.select.Core.{Core}
use Rattle.sql_ast.specs.declared.select.Core.TheVariants as core
use Rattle.sql_ast.specs.declared.select.FromItem.{FromItem}
use Rattle.sql_ast.specs.declared.select.FromItem.TheVariants as from
use Rattle.sql_ast.specs.declared.select.Key.{Key}
use Rattle.sql_ast.specs.declared.select.Key.TheVariants as key
use Rattle.sql_ast.specs.declared.select.Select.{Select}
use Rattle.sql_ast.specs.declared.ty.SqlTy.{SqlTy}
use Rattle.sql_ast.specs.WellFormed.{Name}
use Rattle.sql_grammar.specs.declared.grown.Places.{Places}
use Rattle.sql_check.specs.SortFrames.{with_known}
use Rattle.sql_check.specs.declared.sort.Known.{Known}
use Rattle.sql_check.specs.declared.sort.Sort.{Sort}
use Rattle.sql_check.specs.declared.judge.Place.TheVariants as place
use Rattle.sql_check.specs.TypeLists.{of_place, truth, number, known_of, within_items, sorts_of_cores, types_in_exprs, types_in_column_list, types_in_item_list, types_in_key_list, types_in_place, types_in_held, types_in_rows, types_in_parts, types_in_case}
use Rattle.sql_check.specs.Types.{Sorts, failing, is_of, alike, unless_alike, core_sorts, verdict, types_in, types_in_all, types_in_cores, types_in_further, types_in_core, types_in_columns, types_in_items, types_in_item, types_in_keys, types_in_key, types_in_option, types_in_further_list, types_in_list}
use Rattle.sql_check.specs.Walk.{start, inner, rest}
use Rattle.sql_check.proofs.PartPlaces.{items_at, condition_at, keys_at, offset_at, limit_at}
use Rattle.sql_check.proofs.ScopeForms.{known_next}
use Rattle.sql_check.proofs.TyForms.{like_itself}
use Rattle.sql_check.proofs.TypeForms.{within_hidden}
use denote.Hole.Carrier as carrier

-- ---- lists and optional forms

module _ (catalog : Catalog) (params : List Typed) where
  exprs_hidden : (es : List SqlExpr) (ps : List Places) (d : Sorts) → types_in_all catalog params (block.hidden-the_row-SqlExpr-1 es) ps d ≡ types_in_exprs catalog params es ps d
  unfolding types_in block.hidden-the_row-SqlExpr-1 carrier.hidden
  exprs_hidden [] ps d = refl
  exprs_hidden (e ∷ es) ps d = ap (λ l. types_in catalog params e ps d ++ l) (exprs_hidden es (rest ps) d)

  further_hidden : (cs : List Core) (first : List Sort) (ps : List Places) (d : Sorts) → types_in_further catalog params (block.hidden-the_row-Core-0 cs) first ps d ≡ types_in_further_list catalog params cs first ps d
  unfolding types_in block.hidden-the_row-Core-0 carrier.hidden
  further_hidden [] first ps d = refl
  further_hidden (c ∷ cs) first ps d =
      ap (λ l. types_in_core catalog params c ps d ++ (unless_alike (alike first (core_sorts catalog params c d)) (start ps) ++ l)) (further_hidden cs first (rest ps) d)

  cores_hidden : (cs : List Core) (ps : List Places) (d : Sorts) → types_in_cores catalog params (block.hidden-the_row-Core-0 cs) ps d ≡ types_in_list catalog params cs ps d
  unfolding types_in block.hidden-the_row-Core-0 carrier.hidden
  cores_hidden [] ps d = refl
  cores_hidden (c ∷ cs) ps d = ap (λ l. types_in_core catalog params c ps d ++ l) (further_hidden cs (core_sorts catalog params c d) (rest ps) d)

  columns_hidden : (cs : List Column) (ps : List Places) (d : Sorts) → types_in_columns catalog params (block.hidden-the_row-Column-3 cs) ps d ≡ types_in_column_list catalog params cs ps d
  unfolding types_in block.hidden-the_row-Column-3 carrier.hidden
  columns_hidden [] ps d = refl
  columns_hidden (c ∷ cs) ps d = ap (λ l. types_in catalog params c.value (inner ps) d ++ l) (columns_hidden cs (rest ps) d)

  items_hidden : (is : List FromItem) (ps : List Places) (d : Sorts) → types_in_items catalog params (block.hidden-the_row-FromItem-4 is) ps d ≡ types_in_item_list catalog params is ps d
  unfolding types_in block.hidden-the_row-FromItem-4 carrier.hidden
  items_hidden [] ps d = refl
  items_hidden (i ∷ is) ps d = ap (λ l. types_in_item catalog params i ps d ++ l) (items_hidden is (rest ps) (known_of catalog params i d ∷ d))

  keys_hidden : (ks : List Key) (ps : List Places) (d : Sorts) → types_in_keys catalog params (block.hidden-the_row-Key-5 ks) ps d ≡ types_in_key_list catalog params ks ps d
  unfolding types_in block.hidden-the_row-Key-5 carrier.hidden
  keys_hidden [] ps d = refl
  keys_hidden (k ∷ ks) ps d = ap (λ l. types_in_key catalog params k ps d ++ l) (keys_hidden ks (rest ps) d)

  truth_back : (o : Option SqlExpr) (ps : List Places) (d : Sorts) → types_in_option catalog params (block.back-Body-condition o) (is_of scalar.Bool) ps d ≡ types_in_held catalog params o truth ps d
  unfolding types_in of_place block.hidden-the_row-SqlExpr-2 carrier.hidden
  truth_back None ps d = refl
  truth_back (Some x) ps d = refl

  number_back : (o : Option SqlExpr) (ps : List Places) (d : Sorts) → types_in_option catalog params (block.back-Body-condition o) (is_of scalar.Int64) ps d ≡ types_in_held catalog params o number ps d
  unfolding types_in of_place block.hidden-the_row-SqlExpr-2 carrier.hidden
  number_back None ps d = refl
  number_back (Some x) ps d = refl

-- ---- the cores of a select, of which the first is like itself

module _ (catalog : Catalog) (params : List Typed) where
  pub list_is : (cs : List Core) (ps : List Places) (d : Sorts) → types_in_list catalog params cs ps d ≡ types_in_further_list catalog params cs (sorts_of_cores catalog params cs d) ps d
  list_is [] ps d = refl
  list_is (c ∷ cs) ps d =
      ap (λ b. types_in_core catalog params c ps d ++ (unless_alike b (start ps) ++ types_in_further_list catalog params cs (core_sorts catalog params c d) (rest ps) d)) (sym (like_itself (core_sorts catalog params c d)))

-- ---- expressions

module _ (catalog : Catalog) (params : List Typed) (ps : List Places) (d : Sorts) where
  pub of_int : (z : ℤ) → types_in catalog params (expr.Int z) ps d ≡ []
  unfolding types_in
  of_int z = refl

  pub of_text : (s : List ℕ) → types_in catalog params (expr.Text s) ps d ≡ []
  unfolding types_in
  of_text s = refl

  pub of_bool : (b : Bool) → types_in catalog params (expr.Bool b) ps d ≡ []
  unfolding types_in
  of_bool b = refl

  pub of_uuid : (n : ℕ) → types_in catalog params (expr.Uuid n) ps d ≡ []
  unfolding types_in
  of_uuid n = refl

  pub of_null : (t : SqlTy) → types_in catalog params (expr.Null t) ps d ≡ []
  unfolding types_in
  of_null t = refl

  pub of_column : (alias name : Name) → types_in catalog params (expr.Column alias name) ps d ≡ []
  unfolding types_in
  of_column alias name = refl

  pub of_global : (name : Name) → types_in catalog params (expr.Global name) ps d ≡ []
  unfolding types_in
  of_global name = refl

  pub of_arg : (name : List ℕ) (t : SqlTy) → types_in catalog params (expr.Arg name t) ps d ≡ failing (verdict catalog params (expr.Arg name t) d) (start ps)
  unfolding types_in verdict
  of_arg name t = refl

  pub of_array : (s : Select) → types_in catalog params (expr.Array s) ps d ≡ types_in_list catalog params s.cores (inner (inner ps)) d ++ failing (verdict catalog params (expr.Array s) d) (start ps)
  unfolding types_in verdict
  of_array s = ap (λ l. l ++ failing (verdict catalog params (expr.Array s) d) (start ps)) (cores_hidden catalog params s.cores (inner (inner ps)) d)

  pub of_row : (es : List SqlExpr) → types_in catalog params (expr.Row es) ps d ≡ types_in_exprs catalog params es (inner ps) d
  unfolding types_in
  of_row es = exprs_hidden catalog params es (inner ps) d

  pub of_part : (row : SqlExpr) (z : ℤ) → types_in catalog params (expr.Part row z) ps d ≡ types_in catalog params row (inner ps) d ++ failing (verdict catalog params (expr.Part row z) d) (start ps)
  unfolding types_in verdict block.hidden-the_row-SqlExpr-2 carrier.hidden
  of_part row z = refl

  pub of_case : (form : Case) → types_in catalog params (expr.Case form) ps d ≡ types_in_case catalog params form (expr.Case form) ps d
  unfolding types_in verdict of_place block.hidden-the_row-SqlExpr-2 carrier.hidden
  of_case form = refl

  pub of_cast : (operand : SqlExpr) (t : SqlTy) → types_in catalog params (expr.Cast operand t) ps d ≡ types_in catalog params operand (inner ps) d ++ failing (verdict catalog params (expr.Cast operand t) d) (start ps)
  unfolding types_in verdict block.hidden-the_row-SqlExpr-2 carrier.hidden
  of_cast operand t = refl

  pub of_unary : (operator : UnaryOp) (operand : SqlExpr) → types_in catalog params (expr.Unary operator operand) ps d ≡ types_in catalog params operand (inner ps) d ++ failing (verdict catalog params (expr.Unary operator operand) d) (start ps)
  unfolding types_in verdict block.hidden-the_row-SqlExpr-2 carrier.hidden
  of_unary operator operand = refl

  pub of_binary : (form : Binary) → types_in catalog params (expr.Binary form) ps d ≡ types_in catalog params form.left (inner ps) d ++ (types_in catalog params form.right (rest (inner ps)) d ++ failing (verdict catalog params (expr.Binary form) d) (start ps))
  unfolding types_in verdict block.hidden-the_row-SqlExpr-2 carrier.hidden
  of_binary form = refl

  pub of_call : (called : Function) (operand : SqlExpr) → types_in catalog params (expr.Call called operand) ps d ≡ types_in catalog params operand (inner ps) d ++ failing (verdict catalog params (expr.Call called operand) d) (start ps)
  unfolding types_in verdict block.hidden-the_row-SqlExpr-2 carrier.hidden
  of_call called operand = refl

  -- ---- cores, items and keys

  pub of_all : (columns : List Column) (body : Body) → types_in_core catalog params (core.All columns body) ps d ≡ types_in_parts catalog params columns body (inner ps) d
  unfolding types_in
  of_all columns body = λ i. items_hidden catalog params body.from (items_at ps columns body i) d i ++ (columns_hidden catalog params columns (inner ps) (within_hidden catalog params body.from d i) i ++ (truth_back catalog params body.condition (condition_at ps columns body i) (within_hidden catalog params body.from d i) i ++ (keys_hidden catalog params body.keys (keys_at ps columns body i) (within_hidden catalog params body.from d i) i ++ (number_back catalog params body.offset (offset_at ps columns body i) d i ++ number_back catalog params body.limit (limit_at ps columns body i) d i))))

  pub of_distinct : (columns : List Column) (body : Body) → types_in_core catalog params (core.Distinct columns body) ps d ≡ types_in_parts catalog params columns body (inner ps) d
  unfolding types_in
  of_distinct columns body = λ i. items_hidden catalog params body.from (items_at ps columns body i) d i ++ (columns_hidden catalog params columns (inner ps) (within_hidden catalog params body.from d i) i ++ (truth_back catalog params body.condition (condition_at ps columns body i) (within_hidden catalog params body.from d i) i ++ (keys_hidden catalog params body.keys (keys_at ps columns body i) (within_hidden catalog params body.from d i) i ++ (number_back catalog params body.offset (offset_at ps columns body i) d i ++ number_back catalog params body.limit (limit_at ps columns body i) d i))))

  pub of_table : (name alias : Name) → types_in_item catalog params (from.Table name alias) ps d ≡ []
  unfolding types_in
  of_table name alias = refl

  pub of_lateral : (s : Select) (alias : Name) → types_in_item catalog params (from.Lateral s alias) ps d ≡ types_in_list catalog params s.cores (inner (inner ps)) d
  unfolding types_in
  of_lateral s alias = cores_hidden catalog params s.cores (inner (inner ps)) d

  pub of_left : (s : Select) (alias : Name) → types_in_item catalog params (from.LeftLateral s alias) ps d ≡ types_in_list catalog params s.cores (inner (inner ps)) d
  unfolding types_in
  of_left s alias = cores_hidden catalog params s.cores (inner (inner ps)) d

  pub of_unnest : (array : SqlExpr) (alias : Name) → types_in_item catalog params (from.Unnest array alias) ps d ≡ types_in_place catalog params place.Array array (inner ps) d
  unfolding types_in of_place
  of_unnest array alias = refl

  pub of_ascending : (value : SqlExpr) (nulls : Absent) → types_in_key catalog params (key.Ascending value nulls) ps d ≡ types_in_place catalog params place.Scalar value ps d
  unfolding types_in of_place
  of_ascending value nulls = refl

  pub of_descending : (value : SqlExpr) (nulls : Absent) → types_in_key catalog params (key.Descending value nulls) ps d ≡ types_in_place catalog params place.Scalar value ps d
  unfolding types_in of_place
  of_descending value nulls = refl

-- ---- what is added

pub none_added : (all xs : List ℕ) → xs ≡ [] → all ≡ all ++ xs
none_added all xs h = sym (ap (λ l. all ++ l) h ∙ append_nil all)

-- three parts, one behind the other
pub all_added : {T E : Type 0} (r : Result T E) (all one two new is cs rs xs : List ℕ) → one ≡ all ++ is → two ≡ one ++ cs → OnOk r (new ≡ two ++ rs) → xs ≡ is ++ (cs ++ rs) → OnOk r (new ≡ all ++ xs)
all_added r all one two new is cs rs xs e f h x =
    subst (λ l. OnOk r (new ≡ l)) (ap (λ l. l ++ rs) (f ∙ ap (λ l. l ++ cs) e) ∙ append_assoc (all ++ is) cs rs ∙ append_assoc all is (cs ++ rs) ∙ sym (ap (λ l. all ++ l) x)) h

-- the parts of a core: its items, then its columns and what stands behind them, in the scope of the items
pub core_faults : {T E : Type 0} (catalog : Catalog) (params : List Typed) (d : Sorts) (ps : List Places) (r : Result T E) (all one two new : List ℕ)
    (core : Core) (columns cols : List Column) (body : Body) (items : List FromItem) (known ks ls : List Known) (inside behind after : List Places)
    → one ≡ all ++ types_in_item_list catalog params items behind d
    → with_known known d ≡ within_items catalog params items d
    → two ≡ one ++ types_in_column_list catalog params cols inside (with_known ks d)
    → OnOk r (new ≡ two ++ types_in_rows catalog params body after (with_known ls d) d)
    → types_in_core catalog params core ps d ≡ types_in_parts catalog params columns body (inner ps) d
    → items ≡ body.from → cols ≡ columns → ks ≡ known → ls ≡ known → inside ≡ inner ps
    → behind ≡ drop (length columns) (inner ps) → after ≡ drop (length body.from) (drop (length columns) (inner ps))
    → OnOk r (new ≡ all ++ types_in_core catalog params core ps d)
core_faults catalog params d ps r all one two new core columns cols body items known ks ls inside behind after f w g h x it co k l n b a =
    let scope : with_known known d ≡ within_items catalog params body.from d = w ∙ ap (λ z. within_items catalog params z d) it in
    let first : with_known ks d ≡ within_items catalog params body.from d = ap (λ z. with_known z d) k ∙ scope in
    let second : with_known ls d ≡ within_items catalog params body.from d = ap (λ z. with_known z d) l ∙ scope in
    all_added r all one two new _ _ _ _ f g h
    (x ∙ sym (λ i. types_in_item_list catalog params (it i) (b i) d ++ (types_in_column_list catalog params (co i) (n i) (first i) ++ types_in_rows catalog params body (a i) (second i) d)))

-- an item behind those before it
pub item_more : (catalog : Catalog) (params : List Typed) (item : FromItem) (known ks ls new : List Known) (entry : Known) (d : Sorts) (items more : List FromItem) (left next : List Places) (found one all : List ℕ)
    → items ≡ item ∷ more → found ++ types_in_item_list catalog params items left (with_known known d) ≡ all
    → one ≡ found ++ types_in_item catalog params item left (with_known ls d)
    → ls ≡ known → ks ≡ known → entry ≡ known_of catalog params item (with_known ks d) → new ≡ known ++ entry ∷ [] → next ≡ rest left
    → one ++ types_in_item_list catalog params more next (with_known new d) ≡ all
item_more catalog params item known ks ls new entry d items more left next found one all here h o l k e n r =
    let scope : with_known new d ≡ known_of catalog params item (with_known known d) ∷ with_known known d = known_next catalog params item known ks new entry d k e n in
    let first : one ≡ found ++ types_in_item catalog params item left (with_known known d) = o ∙ ap (λ x. found ++ types_in_item catalog params item left (with_known x d)) l in
    (λ i. first i ++ types_in_item_list catalog params more (r i) (scope i)) ∙ append_assoc found _ _ ∙ sym (ap (λ x. found ++ types_in_item_list catalog params x left (with_known known d)) here) ∙ h
