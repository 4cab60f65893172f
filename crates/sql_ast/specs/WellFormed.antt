-- When a statement is well formed over a catalog: its form is one of the grammar, its names are known and stand once
-- where they must, and its types suit.
use Rattle.std.specs.Prelude.{◌≡◌, ◌≢◌, ◌≤◌, ℕ, suc, List, [], ◌∷◌, map, codes, pos, ◌≤ℤ◌, Option, Some, None, slice_get, Contains, if◌then◌else◌}
use Rattle.std.specs.Str.{bytes_eq}
use Rattle.ev_value.specs.declared.value.ScalarTy.{ScalarTy}
use Rattle.sql_ast.specs.declared.catalog.Catalog.{Catalog}
use Rattle.sql_ast.specs.declared.catalog.TableShape.{TableShape}
use Rattle.sql_ast.specs.declared.catalog.Typed.{Typed}
use Rattle.sql_ast.specs.declared.expression.SqlExpr as e
use Rattle.sql_ast.specs.declared.expression.SqlExpr.{SqlExpr, Row_of-SqlExpr, end_of-SqlExpr, more_of-SqlExpr, Row_of-Core, end_of-Core, more_of-Core}
use Rattle.sql_ast.specs.declared.select.Core as c
use Rattle.sql_ast.specs.declared.select.Core.{Core, Row_of-Column, end_of-Column, more_of-Column, Row_of-FromItem, end_of-FromItem, more_of-FromItem, Row_of-Key, end_of-Key, more_of-Key, Held-Body-condition, None', Some'}
use Rattle.sql_ast.specs.declared.select.FromItem as f
use Rattle.sql_ast.specs.declared.select.FromItem.{FromItem}
use Rattle.sql_ast.specs.declared.select.Key as k
use Rattle.sql_ast.specs.declared.select.Key.{Key}
use Rattle.sql_ast.specs.declared.select.Stmt.{Stmt}
use Rattle.sql_ast.specs.declared.select.TheConstants.{MAX_NESTING}
use Rattle.sql_ast.specs.declared.ty.SqlTy.{SqlTy}
use Rattle.sql_ast.specs.declared.ty.SqlTy.TheVariants as ty
use Rattle.sql_ast.specs.Nesting.{nesting}
use Rattle.sql_ast.specs.Params.{args_of}
use Rattle.sql_ast.specs.Types.{INT, TEXT, BOOL, UUID, IsScalar, UnaryType, BinaryType, FunctionType, Casts}

-- ---- names

abbrev pub Name : Type 0
Name = List ℕ

-- what can stand between quotes: a name is not empty and has no quote in it
abbrev pub IsName : Name → Type 0
IsName name = (name ≢ []) × (Contains name 34 → ⊥)

-- the aliases in scope with the columns under each, the newest first
abbrev pub Scope : Type 0
Scope = List TableShape

-- the columns under a name: of a table, or of the newest alias; an inner alias hides an outer one
abbrev pub columns_under : Name → Scope → Option (List Typed)
columns_under name [] = None
columns_under name (t ∷ more) = if bytes_eq t.name name then Some t.columns else columns_under name more

-- the type of the first entry with a name
abbrev pub type_under : Name → List Typed → Option SqlTy
type_under name [] = None
type_under name (x ∷ more) = if bytes_eq x.name name then Some x.ty else type_under name more

-- the names of columns, and their types
abbrev pub names_of : List Typed → List Name
names_of columns = map (λ x. x.name) columns

abbrev pub types_of : List Typed → List SqlTy
types_of columns = map (λ x. x.ty) columns

-- no name stands twice
abbrev pub AreApart : List Name → Type 0
AreApart [] = Unit {0}
AreApart (name ∷ more) = (Contains more name → ⊥) × AreApart more

abbrev pub IsNotEmpty : {A : Type 0} → List A → Type 0
IsNotEmpty [] = ⊥
IsNotEmpty (x ∷ more) = Unit {0}

-- the one column of an array's elements
abbrev pub element_column : SqlTy → List Typed
element_column t = record { name = codes "c1"; ty = t } ∷ []

abbrev pub alias_of : FromItem → Name
alias_of (f.Table _ alias) = alias
alias_of (f.Lateral' _ _ alias) = alias
alias_of (f.LeftLateral' _ _ alias) = alias
alias_of (f.Unnest _ alias) = alias

-- ---- types and forms

-- the statement's ARGs are given in the order of the text: the first with a name says its type
module _ (catalog : Catalog) (params : List Typed) where
  unfoldable mutual
    -- an expression has a type in a scope
    pub HasType : SqlExpr → Scope → SqlTy → Type 0
    HasType (e.Int z) d t = (pos 0 ≤ℤ z) × (t ≡ INT)
    HasType (e.Text _) d t = t ≡ TEXT
    HasType (e.Bool _) d t = t ≡ BOOL
    HasType (e.Uuid _) d t = t ≡ UUID
    HasType (e.Null u) d t = t ≡ u
    HasType (e.Column alias name) d t = IsName alias × IsName name × (cs : List Typed) × (columns_under alias d ≡ Some cs) × (type_under name cs ≡ Some t)
    HasType (e.Arg name u) d t = (s : ScalarTy) × (u ≡ ty.Scalar s) × (t ≡ u) × (type_under name params ≡ Some u)
    HasType (e.Global name) d t = type_under name catalog.globals ≡ Some t
    HasType (e.Array' _ cores) d t = (x : Typed) × HasColumns cores d (x ∷ []) × (t ≡ ty.Array x.ty)
    HasType (e.Row' _ parts) d t = (ts : List SqlTy) × HaveTypes parts d ts × (t ≡ ty.Row ts)
    HasType (e.Part' _ (more_of-SqlExpr row end_of-SqlExpr) z) d t = (ts : List SqlTy) × (n : ℕ) × HasType row d (ty.Row ts) × (z ≡ pos (suc n)) × (slice_get ts n ≡ Some t)
    HasType (e.Case' _ (more_of-SqlExpr condition end_of-SqlExpr) _ (more_of-SqlExpr value end_of-SqlExpr) _ (more_of-SqlExpr other end_of-SqlExpr)) d t =
        HasType condition d BOOL × HasType value d t × HasType other d t
    HasType (e.Cast' _ (more_of-SqlExpr operand end_of-SqlExpr) u) d t = (from to : ScalarTy) × HasType operand d (ty.Scalar from) × (u ≡ ty.Scalar to) × Casts from to × (t ≡ u)
    HasType (e.Unary' operator _ (more_of-SqlExpr operand end_of-SqlExpr)) d t = (a : SqlTy) × HasType operand d a × UnaryType operator a t
    HasType (e.Binary' operator _ (more_of-SqlExpr left end_of-SqlExpr) _ (more_of-SqlExpr right end_of-SqlExpr)) d t =
        (a b : SqlTy) × HasType left d a × HasType right d b × BinaryType operator a b t
    HasType (e.Call' called _ (more_of-SqlExpr operand end_of-SqlExpr)) d t = (a : SqlTy) × HasType operand d a × FunctionType called a t

    -- expressions have types, one after the other
    pub HaveTypes : {m : _} → Row_of-SqlExpr m → Scope → List SqlTy → Type 0
    HaveTypes end_of-SqlExpr d ts = ts ≡ []
    HaveTypes (more_of-SqlExpr first more) d ts = (t : SqlTy) × (rest : List SqlTy) × (ts ≡ t ∷ rest) × HasType first d t × HaveTypes more d rest

    -- a select has columns: those of its first core, and the other cores have columns of the same types
    pub HasColumns : {m : _} → Row_of-Core m → Scope → List Typed → Type 0
    HasColumns end_of-Core d cs = ⊥
    HasColumns (more_of-Core first more) d cs = CoreHas first d cs × AreLike more d (types_of cs)

    pub AreLike : {m : _} → Row_of-Core m → Scope → List SqlTy → Type 0
    AreLike end_of-Core d ts = Unit {0}
    AreLike (more_of-Core core more) d ts = (cs : List Typed) × CoreHas core d cs × (types_of cs ≡ ts) × AreLike more d ts

    -- A core has columns: its items stand in the outer scope, its columns, condition and keys see the items' aliases,
    -- and OFFSET and LIMIT see the outer scope only. It has a column, and no name twice among its columns.
    pub CoreHas : Core → Scope → List Typed → Type 0
    CoreHas (c.All' _ columns _ items condition _ keys offset limit) d cs =
        (inner : Scope) × HaveAliases items [] d inner × ColumnsHave columns inner cs × IsNotEmpty cs × AreApart (names_of cs) × IsCondition condition inner × AreKeys keys inner × IsBound offset d × IsBound limit d
    CoreHas (c.Distinct' _ columns _ items condition _ keys offset limit) d cs =
        (inner : Scope) × HaveAliases items [] d inner × ColumnsHave columns inner cs × IsNotEmpty cs × AreApart (names_of cs) × IsCondition condition inner × AreKeys keys inner × IsBound offset d × IsBound limit d

    -- items give the scope inside: each sees the aliases of those before it, and no alias stands twice in a core
    pub HaveAliases : {m : _} → Row_of-FromItem m → List Name → Scope → Scope → Type 0
    HaveAliases end_of-FromItem before d inner = inner ≡ d
    HaveAliases (more_of-FromItem first more) before d inner =
        (cs : List Typed) × ItemHas first before d cs × IsName (alias_of first) × (Contains before (alias_of first) → ⊥) ×
        HaveAliases more (alias_of first ∷ before) (record { name = alias_of first; columns = cs } ∷ d) inner

    -- an item has columns; a left join does not stand first
    pub ItemHas : FromItem → List Name → Scope → List Typed → Type 0
    ItemHas (f.Table name _) before d cs = IsName name × (columns_under name catalog.tables ≡ Some cs)
    ItemHas (f.Lateral' _ cores _) before d cs = HasColumns cores d cs
    ItemHas (f.LeftLateral' _ cores _) before d cs = IsNotEmpty before × HasColumns cores d cs
    ItemHas (f.Unnest array _) before d cs = (t : SqlTy) × HasType array d (ty.Array t) × (cs ≡ element_column t)

    pub ColumnsHave : {m : _} → Row_of-Column m → Scope → List Typed → Type 0
    ColumnsHave end_of-Column d cs = cs ≡ []
    ColumnsHave (more_of-Column value name more) d cs =
        (t : SqlTy) × (rest : List Typed) × (cs ≡ record { name = name; ty = t } ∷ rest) × IsName name × HasType value d t × ColumnsHave more d rest

    -- a key is a scalar
    pub AreKeys : {m : _} → Row_of-Key m → Scope → Type 0
    AreKeys end_of-Key d = Unit {0}
    AreKeys (more_of-Key first more) d = IsKey first d × AreKeys more d

    pub IsKey : Key → Scope → Type 0
    IsKey (k.Ascending value _) d = (t : SqlTy) × IsScalar t × HasType value d t
    IsKey (k.Descending value _) d = (t : SqlTy) × IsScalar t × HasType value d t

    -- a condition is a truth, and a bound a number
    pub IsCondition : Held-Body-condition → Scope → Type 0
    IsCondition None' d = Unit {0}
    IsCondition (Some' _ (more_of-SqlExpr condition end_of-SqlExpr)) d = HasType condition d BOOL

    pub IsBound : Held-Body-condition → Scope → Type 0
    IsBound None' d = Unit {0}
    IsBound (Some' _ (more_of-SqlExpr bound end_of-SqlExpr)) d = HasType bound d INT

  -- the cores of a list: the first has columns, and the others are like it
  abbrev pub AreAllLike : List Core → Scope → List SqlTy → Type 0
  AreAllLike [] d ts = Unit {0}
  AreAllLike (core ∷ more) d ts = (cs : List Typed) × CoreHas core d cs × (types_of cs ≡ ts) × AreAllLike more d ts

  abbrev pub SelectHas : List Core → Scope → List Typed → Type 0
  SelectHas [] d cs = ⊥
  SelectHas (core ∷ more) d cs = CoreHas core d cs × AreAllLike more d (types_of cs)

-- a statement is well formed over a catalog: it has columns, and its tree is not too high
pub record IsWellFormed (catalog : Catalog) (s : Stmt) : Type 0 where
  pub columns : List Typed
  pub typed : SelectHas catalog (args_of s) s.select.cores [] columns
  pub low : nesting s ≤ MAX_NESTING
