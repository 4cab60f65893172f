-- The names of a statement that are unknown, or stand twice where they may stand once, each with its byte.
use Rattle.std.specs.Prelude.{ℕ, suc, Bool, true, false, not, List, [], ◌∷◌, ◌++◌, codes, drop, Option, Some, None, if◌then◌else◌}
use denote.Ref.{Bor}
use Rattle.std.specs.Str.{bytes_eq}
use Rattle.sql_ast.specs.declared.catalog.Catalog.{Catalog}
use Rattle.sql_ast.specs.declared.catalog.Typed.{Typed}
use Rattle.sql_ast.specs.declared.expression.SqlExpr as e
use Rattle.sql_ast.specs.declared.expression.SqlExpr.{SqlExpr, Row_of-SqlExpr, end_of-SqlExpr, more_of-SqlExpr, Row_of-Core, end_of-Core, more_of-Core}
use Rattle.sql_ast.specs.declared.select.Core as c
use Rattle.sql_ast.specs.declared.select.Core.{Core, Row_of-Column, end_of-Column, more_of-Column, Row_of-FromItem, end_of-FromItem, more_of-FromItem, Row_of-Key, end_of-Key, more_of-Key, Held-Body-condition, None', Some'}
use Rattle.sql_ast.specs.declared.select.FromItem as f
use Rattle.sql_ast.specs.declared.select.FromItem.{FromItem}
use Rattle.sql_ast.specs.declared.select.Key as k
use Rattle.sql_ast.specs.declared.select.Key.{Key}
use Rattle.sql_ast.specs.declared.select.Stmt.{Stmt}
use Rattle.sql_ast.specs.WellFormed.{Name, alias_of, columns_under, type_under}
use Rattle.sql_grammar.specs.declared.grown.Places.{Places}
use Rattle.sql_check.specs.Walk.{start, inner, rest, parts_of}

-- ---- what is in scope

-- the items of FROM whose aliases are in scope, the newest first
abbrev pub Scope : Type 0
Scope = List FromItem

-- a scope with the items of one FROM, of which each later one is newer
abbrev pub with_items : List FromItem → Scope → Scope
with_items [] d = d
with_items (i ∷ more) d = with_items more (i ∷ d)

abbrev pub is_there : {A : Type 0} → Option A → Bool
is_there None = false
is_there (Some a) = true

-- whether a name is that of a column of a list
abbrev pub is_listed : Name → Option (List Typed) → Bool
is_listed name None = false
is_listed name (Some columns) = is_there (type_under name columns)

-- whether a core gives a column of this name
unfoldable pub gives_column : {m : _} → Name → Row_of-Column m → Bool
gives_column name end_of-Column = false
gives_column name (more_of-Column _ other more) = if bytes_eq other name then true else gives_column name more

unfoldable pub core_gives : Name → Core → Bool
core_gives name (c.All' _ columns _ _ _ _ _ _ _) = gives_column name columns
core_gives name (c.Distinct' _ columns _ _ _ _ _ _ _) = gives_column name columns

-- the columns of a select have the names that its first core gives
unfoldable pub select_gives : {m : _} → Name → Row_of-Core m → Bool
select_gives name end_of-Core = false
select_gives name (more_of-Core core more) = core_gives name core

-- whether an item has a column of this name; a table that is unknown has none
unfoldable pub has_column : Catalog → Name → FromItem → Bool
has_column catalog name (f.Table table _) = is_listed name (columns_under table catalog.tables)
has_column catalog name (f.Lateral' _ cores _) = select_gives name cores
has_column catalog name (f.LeftLateral' _ cores _) = select_gives name cores
has_column catalog name (f.Unnest _ _) = bytes_eq (codes "c1") name

-- whether the newest item under an alias has the column
abbrev pub is_column : Catalog → Name → Name → Scope → Bool
is_column catalog alias name [] = false
is_column catalog alias name (i ∷ more) = if bytes_eq (alias_of i) alias then has_column catalog name i else is_column catalog alias name more

-- whether one of the items has this alias
abbrev pub has_alias : Name → List FromItem → Bool
has_alias alias [] = false
has_alias alias (i ∷ more) = if bytes_eq (alias_of i) alias then true else has_alias alias more

-- whether one of the names is this one
abbrev pub is_among : Name → List Name → Bool
is_among name [] = false
is_among name (other ∷ more) = if bytes_eq other name then true else is_among name more

-- ---- what is wrong

-- a byte is wrong where something does not hold
abbrev pub unless : Bool → ℕ → List ℕ
unless true byte = []
unless false byte = byte ∷ []

-- how many columns, items and keys there are: the places of what stands behind them come so far later
unfoldable pub column_count : {m : _} → Row_of-Column m → ℕ
column_count end_of-Column = 0
column_count (more_of-Column _ _ more) = suc (column_count more)

unfoldable pub item_count : {m : _} → Row_of-FromItem m → ℕ
item_count end_of-FromItem = 0
item_count (more_of-FromItem _ more) = suc (item_count more)

unfoldable pub key_count : {m : _} → Row_of-Key m → ℕ
key_count end_of-Key = 0
key_count (more_of-Key _ more) = suc (key_count more)

-- the places behind that of a form that need not be there
unfoldable pub behind : Held-Body-condition → List Places → List Places
behind None' ps = ps
behind (Some' _ _) ps = rest ps

-- where the places of a core's parts begin, in the order of the text
abbrev pub at_items : {l : _} → Row_of-Column l → List Places → List Places
at_items columns ps = drop (column_count columns) (inner ps)

abbrev pub at_condition : {l m : _} → Row_of-Column l → Row_of-FromItem m → List Places → List Places
at_condition columns items ps = drop (item_count items) (at_items columns ps)

abbrev pub at_keys : {l m : _} → Row_of-Column l → Row_of-FromItem m → Held-Body-condition → List Places → List Places
at_keys columns items condition ps = behind condition (at_condition columns items ps)

abbrev pub at_offset : {l m n : _} → Row_of-Column l → Row_of-FromItem m → Held-Body-condition → Row_of-Key n → List Places → List Places
at_offset columns items condition keys ps = drop (key_count keys) (at_keys columns items condition ps)

abbrev pub at_limit : {l m n : _} → Row_of-Column l → Row_of-FromItem m → Held-Body-condition → Row_of-Key n → Held-Body-condition → List Places → List Places
at_limit columns items condition keys offset ps = behind offset (at_offset columns items condition keys ps)

-- the scope inside a core
unfoldable pub inside : {m : _} → Row_of-FromItem m → Scope → Scope
inside end_of-FromItem d = d
inside (more_of-FromItem first more) d = inside more (first ∷ d)

module _ (catalog : Catalog) where
  unfoldable mutual
    -- In each, the places are those of what is looked at, and the scope is the one that it stands in.
    pub names_in : SqlExpr → List Places → Scope → List ℕ
    names_in (e.Int _) ps d = []
    names_in (e.Text _) ps d = []
    names_in (e.Bool _) ps d = []
    names_in (e.Uuid _) ps d = []
    names_in (e.Null _) ps d = []
    names_in (e.Column alias name) ps d = unless (is_column catalog alias name d) (start ps)
    names_in (e.Arg _ _) ps d = []
    names_in (e.Global name) ps d = unless (is_there (type_under name catalog.globals)) (start ps)
    names_in (e.Array' _ cores) ps d = names_in_cores cores (inner (inner ps)) d
    names_in (e.Row' _ parts) ps d = names_in_all parts (inner ps) d
    names_in (e.Part' _ (more_of-SqlExpr row end_of-SqlExpr) _) ps d = names_in row (inner ps) d
    names_in (e.Case' _ (more_of-SqlExpr condition end_of-SqlExpr) _ (more_of-SqlExpr value end_of-SqlExpr) _ (more_of-SqlExpr other end_of-SqlExpr)) ps d =
        names_in condition (inner ps) d ++ (names_in value (rest (inner ps)) d ++ names_in other (rest (rest (inner ps))) d)
    names_in (e.Cast' _ (more_of-SqlExpr operand end_of-SqlExpr) _) ps d = names_in operand (inner ps) d
    names_in (e.Unary' _ _ (more_of-SqlExpr operand end_of-SqlExpr)) ps d = names_in operand (inner ps) d
    names_in (e.Binary' _ _ (more_of-SqlExpr left end_of-SqlExpr) _ (more_of-SqlExpr right end_of-SqlExpr)) ps d =
        names_in left (inner ps) d ++ names_in right (rest (inner ps)) d
    names_in (e.Call' _ _ (more_of-SqlExpr operand end_of-SqlExpr)) ps d = names_in operand (inner ps) d

    pub names_in_all : {m : _} → Row_of-SqlExpr m → List Places → Scope → List ℕ
    names_in_all end_of-SqlExpr ps d = []
    names_in_all (more_of-SqlExpr first more) ps d = names_in first ps d ++ names_in_all more (rest ps) d

    pub names_in_cores : {m : _} → Row_of-Core m → List Places → Scope → List ℕ
    names_in_cores end_of-Core ps d = []
    names_in_cores (more_of-Core core more) ps d = names_in_core core ps d ++ names_in_cores more (rest ps) d

    -- the columns, the condition and the keys see the aliases of the items; OFFSET and LIMIT do not
    pub names_in_core : Core → List Places → Scope → List ℕ
    names_in_core (c.All' _ columns _ items condition _ keys offset limit) ps d =
        names_in_columns columns [] (inner ps) (inside items d) ++
        (names_in_items items [] (at_items columns ps) d ++
        (names_in_option condition (at_condition columns items ps) (inside items d) ++
        (names_in_keys keys (at_keys columns items condition ps) (inside items d) ++
        (names_in_option offset (at_offset columns items condition keys ps) d ++
        names_in_option limit (at_limit columns items condition keys offset ps) d))))
    names_in_core (c.Distinct' _ columns _ items condition _ keys offset limit) ps d =
        names_in_columns columns [] (inner ps) (inside items d) ++
        (names_in_items items [] (at_items columns ps) d ++
        (names_in_option condition (at_condition columns items ps) (inside items d) ++
        (names_in_keys keys (at_keys columns items condition ps) (inside items d) ++
        (names_in_option offset (at_offset columns items condition keys ps) d ++
        names_in_option limit (at_limit columns items condition keys offset ps) d))))

    -- no name stands twice among the columns of a core
    pub names_in_columns : {m : _} → Row_of-Column m → List Name → List Places → Scope → List ℕ
    names_in_columns end_of-Column before ps d = []
    names_in_columns (more_of-Column value name more) before ps d =
        names_in value (inner ps) d ++ (unless (not (is_among name before)) (start ps) ++ names_in_columns more (before ++ name ∷ []) (rest ps) d)

    -- each item sees the aliases of those before it, and no alias stands twice in a core
    pub names_in_items : {m : _} → Row_of-FromItem m → List FromItem → List Places → Scope → List ℕ
    names_in_items end_of-FromItem before ps d = []
    names_in_items (more_of-FromItem first more) before ps d =
        names_in_item first ps (with_items before d) ++ (unless (not (has_alias (alias_of first) before)) (start ps) ++ names_in_items more (before ++ first ∷ []) (rest ps) d)

    pub names_in_item : FromItem → List Places → Scope → List ℕ
    names_in_item (f.Table name _) ps d = unless (is_there (columns_under name catalog.tables)) (start (inner ps))
    names_in_item (f.Lateral' _ cores _) ps d = names_in_cores cores (inner (inner ps)) d
    names_in_item (f.LeftLateral' _ cores _) ps d = names_in_cores cores (inner (inner ps)) d
    names_in_item (f.Unnest array _) ps d = names_in array (inner ps) d

    pub names_in_keys : {m : _} → Row_of-Key m → List Places → Scope → List ℕ
    names_in_keys end_of-Key ps d = []
    names_in_keys (more_of-Key first more) ps d = names_in_key first ps d ++ names_in_keys more (rest ps) d

    pub names_in_key : Key → List Places → Scope → List ℕ
    names_in_key (k.Ascending value _) ps d = names_in value ps d
    names_in_key (k.Descending value _) ps d = names_in value ps d

    pub names_in_option : Held-Body-condition → List Places → Scope → List ℕ
    names_in_option None' ps d = []
    names_in_option (Some' _ (more_of-SqlExpr x end_of-SqlExpr)) ps d = names_in x ps d

  abbrev pub names_in_list : List Core → List Places → Scope → List ℕ
  names_in_list [] ps d = []
  names_in_list (core ∷ more) ps d = names_in_core core ps d ++ names_in_list more (rest ps) d

-- the bytes of the names of a statement that are unknown or stand twice
abbrev pub name_faults : Catalog → Stmt → Places → List ℕ
name_faults catalog s place = names_in_list catalog s.select.cores (parts_of place) []

-- what a borrowed one holds
abbrev pub now_of : Option (Bor FromItem) → Option FromItem
now_of None = None
now_of (Some item) = Some item.now
