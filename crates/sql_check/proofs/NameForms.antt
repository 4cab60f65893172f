-- The unknown and repeated names of each form, at the code's constructors.
use Rattle.std.proofs.Common.{◌≡◌, ℕ, ℤ, Bool, true, false, List, [], ◌∷◌, ◌++◌, codes, length, drop, Option, Some, None, if◌then◌else◌, not, refl, ap, sym, ◌∙◌, append_assoc, subst, Result, OnOk}
use Rattle.std.specs.Str.{bytes_eq}
use Rattle.ev_value.proofs.Items.{append_nil}
use Rattle.sql_ast.specs.declared.catalog.Catalog.{Catalog}
use Rattle.sql_ast.specs.declared.expression.SqlExpr.{SqlExpr}
use Rattle.sql_ast.specs.declared.expression.SqlExpr.TheBlock as block
use Rattle.sql_ast.specs.declared.expression.SqlExpr.TheVariants as expr
use Rattle.sql_ast.specs.declared.expression.Binary.{Binary}
use Rattle.sql_ast.specs.declared.expression.Case.{Case}
use Rattle.sql_ast.specs.declared.expression.Function.{Function}
use Rattle.sql_ast.specs.declared.expression.UnaryOp.{UnaryOp}
use Rattle.sql_ast.specs.declared.ty.SqlTy.{SqlTy}
use Rattle.sql_ast.specs.declared.select.Key.{Key}
use Rattle.sql_ast.specs.declared.select.Key.TheVariants as key
use Rattle.ev_list.specs.declared.order.Absent.{Absent}
use Rattle.sql_grammar.specs.declared.grown.Places.{Places}
use Rattle.sql_check.specs.Walk.{start, inner, rest}
use Rattle.sql_ast.specs.declared.select.Body.{Body}
use Rattle.sql_ast.specs.declared.select.Column.{Column}
use Rattle.sql_ast.specs.declared.select.Core.{Core}
use Rattle.sql_ast.specs.declared.select.Core.TheVariants as core
use Rattle.sql_ast.specs.declared.select.FromItem.{FromItem}
use Rattle.sql_ast.specs.declared.select.FromItem.TheVariants as from
use Rattle.sql_ast.specs.declared.select.Select.{Select}
use Rattle.sql_ast.specs.WellFormed.{Name, alias_of, columns_under, type_under}
use Rattle.sql_check.specs.Names.{Scope, with_items, gives_column, core_gives, select_gives, has_column, is_column, is_among, is_listed, is_there, has_alias, unless, inside, names_in, names_in_all, names_in_cores, names_in_core, names_in_columns, names_in_items, names_in_item, names_in_keys, names_in_key, names_in_option, names_in_list}
use Rattle.sql_check.specs.NameLists.{column_names, first_gives, newest, is_column_of, names_in_exprs, names_in_column_list, names_in_item_list, names_in_key_list, names_in_held, names_in_body, names_in_parts}
use Rattle.sql_check.specs.declared.scope.Frames.{Frames}
use Rattle.sql_check.specs.declared.scope.Frames.TheVariants as frames
use Rattle.sql_check.specs.Frames.{entries}
use Rattle.sql_check.proofs.PartPlaces.{items_at, condition_at, keys_at, offset_at, limit_at}
use denote.Ref.{Bor}
use denote.Hole.Carrier as carrier

-- ---- the names of columns

given_hidden : (name : Name) (cs : List Column) → gives_column name (block.hidden-the_row-Column-3 cs) ≡ is_among name (column_names cs)
unfolding gives_column block.hidden-the_row-Column-3 carrier.hidden
given_hidden name [] = refl
given_hidden name (c ∷ cs) = ap (λ b. if bytes_eq c.name name then true else b) (given_hidden name cs)

pub gives_all : (name : Name) (columns : List Column) (body : Body) → core_gives name (core.All columns body) ≡ is_among name (column_names columns)
unfolding core_gives
gives_all name columns body = given_hidden name columns

pub gives_distinct : (name : Name) (columns : List Column) (body : Body) → core_gives name (core.Distinct columns body) ≡ is_among name (column_names columns)
unfolding core_gives
gives_distinct name columns body = given_hidden name columns

gives_hidden : (name : Name) (cs : List Core) → select_gives name (block.hidden-the_row-Core-0 cs) ≡ first_gives name cs
unfolding select_gives block.hidden-the_row-Core-0 carrier.hidden
gives_hidden name [] = refl
gives_hidden name (c ∷ cs) = refl

module _ (catalog : Catalog) (name : Name) where
  pub table_column : (table alias : Name) → has_column catalog name (from.Table table alias) ≡ is_listed name (columns_under table catalog.tables)
  unfolding has_column
  table_column table alias = refl

  pub lateral_column : (s : Select) (alias : Name) → has_column catalog name (from.Lateral s alias) ≡ first_gives name s.cores
  unfolding has_column
  lateral_column s alias = gives_hidden name s.cores

  pub left_column : (s : Select) (alias : Name) → has_column catalog name (from.LeftLateral s alias) ≡ first_gives name s.cores
  unfolding has_column
  left_column s alias = gives_hidden name s.cores

  pub element_column : (array : SqlExpr) (alias : Name) → has_column catalog name (from.Unnest array alias) ≡ bytes_eq (codes "c1") name
  unfolding has_column
  element_column array alias = refl

-- ---- what is in scope

module _ (catalog : Catalog) (alias name : Name) where
  with_newer : (b : Bool) (i : FromItem) (found : Option FromItem) (d : Scope) → is_column_of catalog alias name (if b then Some i else found) d ≡ (if b then has_column catalog name i else is_column_of catalog alias name found d)
  with_newer true i found d = refl
  with_newer false i found d = refl

  in_items : (items : List FromItem) (found : Option FromItem) (d outer : Scope) → is_column catalog alias name d ≡ is_column_of catalog alias name found outer
      → is_column catalog alias name (with_items items d) ≡ is_column_of catalog alias name (newest alias items found) outer
  in_items [] found d outer h = h
  in_items (i ∷ more) found d outer h =
      in_items more _ (i ∷ d) outer (ap (λ b. if bytes_eq (alias_of i) alias then has_column catalog name i else b) h ∙ sym (with_newer (bytes_eq (alias_of i) alias) i found outer))

  in_frame : (items : List FromItem) (d : Scope) → is_column catalog alias name (with_items items d) ≡ is_column_of catalog alias name (newest alias items None) d
  in_frame items d = in_items items None d d refl

  pub in_top : is_column catalog alias name (entries frames.Top) ≡ false
  unfolding entries
  in_top = refl

  pub in_found : (outer : Bor Frames) (items : Bor (List FromItem)) → is_column catalog alias name (entries (frames.Items outer items)) ≡ is_column_of catalog alias name (newest alias items.now None) (entries outer.now)
  unfolding entries carrier.hidden
  in_found outer items = in_frame items.now (entries outer.now)

-- ---- lists and optional forms

inside_is : (is : List FromItem) (d : Scope) → inside (block.hidden-the_row-FromItem-4 is) d ≡ with_items is d
unfolding inside block.hidden-the_row-FromItem-4 carrier.hidden
inside_is [] d = refl
inside_is (i ∷ is) d = inside_is is (i ∷ d)

module _ (catalog : Catalog) where
  exprs_hidden : (es : List SqlExpr) (ps : List Places) (d : Scope) → names_in_all catalog (block.hidden-the_row-SqlExpr-1 es) ps d ≡ names_in_exprs catalog es ps d
  unfolding names_in block.hidden-the_row-SqlExpr-1 carrier.hidden
  exprs_hidden [] ps d = refl
  exprs_hidden (e ∷ es) ps d = ap (λ l. names_in catalog e ps d ++ l) (exprs_hidden es (rest ps) d)

  cores_hidden : (cs : List Core) (ps : List Places) (d : Scope) → names_in_cores catalog (block.hidden-the_row-Core-0 cs) ps d ≡ names_in_list catalog cs ps d
  unfolding names_in block.hidden-the_row-Core-0 carrier.hidden
  cores_hidden [] ps d = refl
  cores_hidden (c ∷ cs) ps d = ap (λ l. names_in_core catalog c ps d ++ l) (cores_hidden cs (rest ps) d)

  columns_hidden : (cs : List Column) (before : List Name) (ps : List Places) (d : Scope) → names_in_columns catalog (block.hidden-the_row-Column-3 cs) before ps d ≡ names_in_column_list catalog cs before ps d
  unfolding names_in block.hidden-the_row-Column-3 carrier.hidden
  columns_hidden [] before ps d = refl
  columns_hidden (c ∷ cs) before ps d =
      ap (λ l. names_in catalog c.value (inner ps) d ++ (unless (not (is_among c.name before)) (start ps) ++ l)) (columns_hidden cs (before ++ c.name ∷ []) (rest ps) d)
      ∙ sym (append_assoc (names_in catalog c.value (inner ps) d) _ _)

  items_hidden : (is before : List FromItem) (ps : List Places) (d : Scope) → names_in_items catalog (block.hidden-the_row-FromItem-4 is) before ps d ≡ names_in_item_list catalog is before ps d
  unfolding names_in block.hidden-the_row-FromItem-4 carrier.hidden
  items_hidden [] before ps d = refl
  items_hidden (i ∷ is) before ps d =
      ap (λ l. names_in_item catalog i ps (with_items before d) ++ (unless (not (has_alias (alias_of i) before)) (start ps) ++ l)) (items_hidden is (before ++ i ∷ []) (rest ps) d)
      ∙ sym (append_assoc (names_in_item catalog i ps (with_items before d)) _ _)

  keys_hidden : (ks : List Key) (ps : List Places) (d : Scope) → names_in_keys catalog (block.hidden-the_row-Key-5 ks) ps d ≡ names_in_key_list catalog ks ps d
  unfolding names_in block.hidden-the_row-Key-5 carrier.hidden
  keys_hidden [] ps d = refl
  keys_hidden (k ∷ ks) ps d = ap (λ l. names_in_key catalog k ps d ++ l) (keys_hidden ks (rest ps) d)

  option_back : (o : Option SqlExpr) (ps : List Places) (d : Scope) → names_in_option catalog (block.back-Body-condition o) ps d ≡ names_in_held catalog o ps d
  unfolding names_in block.hidden-the_row-SqlExpr-2 carrier.hidden
  option_back None ps d = refl
  option_back (Some x) ps d = refl

-- ---- expressions

module _ (catalog : Catalog) (ps : List Places) (d : Scope) where
  pub of_array : (s : Select) → names_in catalog (expr.Array s) ps d ≡ names_in_list catalog s.cores (inner (inner ps)) d
  unfolding names_in
  of_array s = cores_hidden catalog s.cores (inner (inner ps)) d

  pub of_row : (es : List SqlExpr) → names_in catalog (expr.Row es) ps d ≡ names_in_exprs catalog es (inner ps) d
  unfolding names_in
  of_row es = exprs_hidden catalog es (inner ps) d

  pub of_int : (z : ℤ) → names_in catalog (expr.Int z) ps d ≡ []
  unfolding names_in
  of_int z = refl

  pub of_text : (s : List ℕ) → names_in catalog (expr.Text s) ps d ≡ []
  unfolding names_in
  of_text s = refl

  pub of_bool : (b : Bool) → names_in catalog (expr.Bool b) ps d ≡ []
  unfolding names_in
  of_bool b = refl

  pub of_uuid : (n : ℕ) → names_in catalog (expr.Uuid n) ps d ≡ []
  unfolding names_in
  of_uuid n = refl

  pub of_null : (t : SqlTy) → names_in catalog (expr.Null t) ps d ≡ []
  unfolding names_in
  of_null t = refl

  pub of_column : (alias name : Name) → names_in catalog (expr.Column alias name) ps d ≡ unless (is_column catalog alias name d) (start ps)
  unfolding names_in
  of_column alias name = refl

  pub of_arg : (name : List ℕ) (t : SqlTy) → names_in catalog (expr.Arg name t) ps d ≡ []
  unfolding names_in
  of_arg name t = refl

  pub of_global : (name : Name) → names_in catalog (expr.Global name) ps d ≡ unless (is_there (type_under name catalog.globals)) (start ps)
  unfolding names_in
  of_global name = refl

  pub of_part : (row : SqlExpr) (z : ℤ) → names_in catalog (expr.Part row z) ps d ≡ names_in catalog row (inner ps) d
  unfolding names_in block.hidden-the_row-SqlExpr-2 carrier.hidden
  of_part row z = refl

  pub of_case : (form : Case) → names_in catalog (expr.Case form) ps d ≡ names_in catalog form.condition (inner ps) d ++ (names_in catalog form.value (rest (inner ps)) d ++ names_in catalog form.other (rest (rest (inner ps))) d)
  unfolding names_in block.hidden-the_row-SqlExpr-2 carrier.hidden
  of_case form = refl

  pub of_cast : (operand : SqlExpr) (t : SqlTy) → names_in catalog (expr.Cast operand t) ps d ≡ names_in catalog operand (inner ps) d
  unfolding names_in block.hidden-the_row-SqlExpr-2 carrier.hidden
  of_cast operand t = refl

  pub of_unary : (operator : UnaryOp) (operand : SqlExpr) → names_in catalog (expr.Unary operator operand) ps d ≡ names_in catalog operand (inner ps) d
  unfolding names_in block.hidden-the_row-SqlExpr-2 carrier.hidden
  of_unary operator operand = refl

  pub of_binary : (form : Binary) → names_in catalog (expr.Binary form) ps d ≡ names_in catalog form.left (inner ps) d ++ names_in catalog form.right (rest (inner ps)) d
  unfolding names_in block.hidden-the_row-SqlExpr-2 carrier.hidden
  of_binary form = refl

  pub of_call : (called : Function) (operand : SqlExpr) → names_in catalog (expr.Call called operand) ps d ≡ names_in catalog operand (inner ps) d
  unfolding names_in block.hidden-the_row-SqlExpr-2 carrier.hidden
  of_call called operand = refl

  -- ---- cores, items and keys

  module _ (columns : List Column) (body : Body) where
    pub of_all : names_in_core catalog (core.All columns body) ps d ≡ names_in_parts catalog columns body ps d
    unfolding names_in
    of_all = λ i. columns_hidden catalog columns [] (inner ps) (inside_is body.from d i) i ++ (items_hidden catalog body.from [] (items_at ps columns body i) d i ++ (option_back catalog body.condition (condition_at ps columns body i) (inside_is body.from d i) i ++ (keys_hidden catalog body.keys (keys_at ps columns body i) (inside_is body.from d i) i ++ (option_back catalog body.offset (offset_at ps columns body i) d i ++ option_back catalog body.limit (limit_at ps columns body i) d i))))

    pub of_distinct : names_in_core catalog (core.Distinct columns body) ps d ≡ names_in_parts catalog columns body ps d
    unfolding names_in
    of_distinct = λ i. columns_hidden catalog columns [] (inner ps) (inside_is body.from d i) i ++ (items_hidden catalog body.from [] (items_at ps columns body i) d i ++ (option_back catalog body.condition (condition_at ps columns body i) (inside_is body.from d i) i ++ (keys_hidden catalog body.keys (keys_at ps columns body i) (inside_is body.from d i) i ++ (option_back catalog body.offset (offset_at ps columns body i) d i ++ option_back catalog body.limit (limit_at ps columns body i) d i))))

  pub of_table : (name alias : Name) → names_in_item catalog (from.Table name alias) ps d ≡ unless (is_there (columns_under name catalog.tables)) (start (inner ps))
  unfolding names_in
  of_table name alias = refl

  pub of_lateral : (s : Select) (alias : Name) → names_in_item catalog (from.Lateral s alias) ps d ≡ names_in_list catalog s.cores (inner (inner ps)) d
  unfolding names_in
  of_lateral s alias = cores_hidden catalog s.cores (inner (inner ps)) d

  pub of_left : (s : Select) (alias : Name) → names_in_item catalog (from.LeftLateral s alias) ps d ≡ names_in_list catalog s.cores (inner (inner ps)) d
  unfolding names_in
  of_left s alias = cores_hidden catalog s.cores (inner (inner ps)) d

  pub of_unnest : (array : SqlExpr) (alias : Name) → names_in_item catalog (from.Unnest array alias) ps d ≡ names_in catalog array (inner ps) d
  unfolding names_in
  of_unnest array alias = refl

  pub of_ascending : (value : SqlExpr) (nulls : Absent) → names_in_key catalog (key.Ascending value nulls) ps d ≡ names_in catalog value ps d
  unfolding names_in
  of_ascending value nulls = refl

  pub of_descending : (value : SqlExpr) (nulls : Absent) → names_in_key catalog (key.Descending value nulls) ps d ≡ names_in catalog value ps d
  unfolding names_in
  of_descending value nulls = refl

-- ---- what is added

pub no_names : (all xs : List ℕ) → xs ≡ [] → all ≡ all ++ xs
no_names all xs h = sym (ap (λ l. all ++ l) h ∙ append_nil all)

-- ---- frames

pub top_is : entries frames.Top ≡ []
unfolding entries
top_is = refl

pub frame_items : (outer : Bor Frames) (items : Bor (List FromItem)) → entries (frames.Items outer items) ≡ with_items items.now (entries outer.now)
unfolding entries carrier.hidden
frame_items outer items = refl

-- the parts of a core: its columns, in the scope of the items, and what stands behind them
pub core_names : {T E : Type 0} (catalog : Catalog) (d : Scope) (ps : List Places) (r : Result T E) (all one new : List ℕ)
    (core : Core) (columns cols : List Column) (body : Body) (inside behind : List Places)
    → one ≡ all ++ names_in_column_list catalog cols [] inside (with_items body.from d)
    → OnOk r (new ≡ one ++ names_in_body catalog body behind d)
    → names_in_core catalog core ps d ≡ names_in_parts catalog columns body ps d
    → cols ≡ columns → inside ≡ inner ps → behind ≡ drop (length columns) (inner ps)
    → OnOk r (new ≡ all ++ names_in_core catalog core ps d)
core_names catalog d ps r all one new core columns cols body inside behind e h x c n b =
    let parts : names_in_column_list catalog cols [] inside (with_items body.from d) ++ names_in_body catalog body behind d ≡ names_in_core catalog core ps d =
    (λ i. names_in_column_list catalog (c i) [] (n i) (with_items body.from d) ++ names_in_body catalog body (b i) d) ∙ sym x in
    subst (λ l. OnOk r (new ≡ l)) (ap (λ l. l ++ names_in_body catalog body behind d) e ∙ append_assoc all _ _ ∙ ap (λ l. all ++ l) parts) h
