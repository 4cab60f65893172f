-- A well-formed statement is one as reading gives it.
use Rattle.std.proofs.Common.{List, [], ◌∷◌, subst}
use Rattle.sql_ast.specs.declared.catalog.Catalog.{Catalog}
use Rattle.sql_ast.specs.declared.catalog.Typed.{Typed}
use Rattle.sql_ast.specs.declared.expression.SqlExpr as e
use Rattle.sql_ast.specs.declared.expression.SqlExpr.{SqlExpr, Row_of-SqlExpr, end_of-SqlExpr, more_of-SqlExpr, Row_of-Core, end_of-Core, more_of-Core}
use Rattle.sql_ast.specs.declared.select.Core as c
use Rattle.sql_ast.specs.declared.select.Core.{Core, Row_of-Column, end_of-Column, more_of-Column, Row_of-FromItem, end_of-FromItem, more_of-FromItem, Row_of-Key, end_of-Key, more_of-Key, Held-Body-condition, None', Some'}
use Rattle.sql_ast.specs.declared.select.FromItem as f
use Rattle.sql_ast.specs.declared.select.FromItem.{FromItem}
use Rattle.sql_ast.specs.declared.select.Key as k
use Rattle.sql_ast.specs.declared.select.Key.{Key}
use Rattle.sql_ast.specs.declared.select.Stmt.{Stmt}
use Rattle.sql_ast.specs.declared.ty.SqlTy.{SqlTy}
use Rattle.sql_ast.specs.Params.{args_of}
use Rattle.sql_ast.specs.WellFormed.{Name, IsNotEmpty, IsWellFormed, HasType, HaveTypes, HasColumns, AreLike, CoreHas, HaveAliases, ItemHas, ColumnsHave, AreKeys, IsKey, IsCondition, IsBound, AreAllLike, SelectHas, types_of}
use Rattle.sql_ast.specs.WellFormed as formed
use Rattle.sql_check.specs.Spelled.{MayBegin, IsSpelled, AreSpelled, CoresAreSpelled, FurtherAreSpelled, CoreIsSpelled, ColumnsAreSpelled, FurtherColumnsAreSpelled, FromIsSpelled, ItemsAreSpelled, ItemIsSpelled, KeysAreSpelled, KeyIsSpelled, HeldIsSpelled, FurtherCoresAreSpelled, SelectIsSpelled, StatementIsSpelled}

first_begins : (catalog : Catalog) (params : List Typed) (x : FromItem) (d : formed.Scope) (cs : List Typed) → ItemHas catalog params x [] d cs → MayBegin x
unfolding HasType
first_begins catalog params (f.Table name alias) d cs h = tt
first_begins catalog params (f.Lateral' _ cores alias) d cs h = tt
first_begins catalog params (f.LeftLateral' _ cores alias) d cs h = absurd h.0
first_begins catalog params (f.Unnest array alias) d cs h = tt

module _ (catalog : Catalog) (params : List Typed) where
  mutual
    unfolding HasType IsSpelled

    expr_spelled : (x : SqlExpr) (d : formed.Scope) (t : SqlTy) → HasType catalog params x d t → IsSpelled x
    expr_spelled (e.Int z) d t h = h.0
    expr_spelled (e.Text text) d t h = tt
    expr_spelled (e.Bool b) d t h = tt
    expr_spelled (e.Uuid u) d t h = tt
    expr_spelled (e.Null u) d t h = tt
    expr_spelled (e.Column alias name) d t h = (h.0, h.1)
    expr_spelled (e.Arg name u) d t h = tt
    expr_spelled (e.Global name) d t h = tt
    expr_spelled (e.Array' _ cores) d t h = cores_spelled cores d (h.0 ∷ []) h.1
    expr_spelled (e.Row' _ parts) d t h = exprs_spelled parts d h.0 h.1
    expr_spelled (e.Part' _ (more_of-SqlExpr x end_of-SqlExpr) z) d t h = expr_spelled x d _ h.2
    expr_spelled (e.Case' _ (more_of-SqlExpr x end_of-SqlExpr) _ (more_of-SqlExpr y end_of-SqlExpr) _ (more_of-SqlExpr z end_of-SqlExpr)) d t h = (expr_spelled x d _ h.0, expr_spelled y d t h.1, expr_spelled z d t h.2)
    expr_spelled (e.Cast' _ (more_of-SqlExpr x end_of-SqlExpr) u) d t h = expr_spelled x d _ h.2
    expr_spelled (e.Unary' operator _ (more_of-SqlExpr x end_of-SqlExpr)) d t h = expr_spelled x d h.0 h.1
    expr_spelled (e.Binary' operator _ (more_of-SqlExpr x end_of-SqlExpr) _ (more_of-SqlExpr y end_of-SqlExpr)) d t h = (expr_spelled x d h.0 h.2, expr_spelled y d h.1 h.3)
    expr_spelled (e.Call' called _ (more_of-SqlExpr x end_of-SqlExpr)) d t h = expr_spelled x d h.0 h.1

    exprs_spelled : {m : _} → (xs : Row_of-SqlExpr m) (d : formed.Scope) (ts : List SqlTy) → HaveTypes catalog params xs d ts → AreSpelled xs
    exprs_spelled end_of-SqlExpr d ts h = tt
    exprs_spelled (more_of-SqlExpr first more) d ts h = (expr_spelled first d h.0 h.3, exprs_spelled more d h.1 h.4)

    cores_spelled : {m : _} → (xs : Row_of-Core m) (d : formed.Scope) (cs : List Typed) → HasColumns catalog params xs d cs → CoresAreSpelled xs
    cores_spelled end_of-Core d cs h = absurd h
    cores_spelled (more_of-Core core more) d cs h = (core_spelled core d cs h.0, like_spelled more d (types_of cs) h.1)

    like_spelled : {m : _} → (xs : Row_of-Core m) (d : formed.Scope) (ts : List SqlTy) → AreLike catalog params xs d ts → FurtherAreSpelled xs
    like_spelled end_of-Core d ts h = tt
    like_spelled (more_of-Core core more) d ts h = (core_spelled core d h.0 h.1, like_spelled more d ts h.3)

    core_spelled : (x : Core) (d : formed.Scope) (cs : List Typed) → CoreHas catalog params x d cs → CoreIsSpelled x
    core_spelled (c.All' s1 columns s2 items condition s3 keys offset limit) d cs h =
        (columns_spelled columns h.0 cs h.3 h.2, from_spelled items d h.0 h.1, condition_spelled condition h.0 h.5, keys_spelled keys h.0 h.6, bound_spelled offset d h.7, bound_spelled limit d h.8)
    core_spelled (c.Distinct' s1 columns s2 items condition s3 keys offset limit) d cs h =
        (columns_spelled columns h.0 cs h.3 h.2, from_spelled items d h.0 h.1, condition_spelled condition h.0 h.5, keys_spelled keys h.0 h.6, bound_spelled offset d h.7, bound_spelled limit d h.8)

    columns_spelled : {m : _} → (xs : Row_of-Column m) (d : formed.Scope) (cs : List Typed) → IsNotEmpty cs → ColumnsHave catalog params xs d cs → ColumnsAreSpelled xs
    columns_spelled end_of-Column d cs some h = absurd (subst (λ (l : List Typed). IsNotEmpty l) h some)
    columns_spelled (more_of-Column value name more) d cs some h = (expr_spelled value d h.0 h.4, h.3, further_spelled more d h.1 h.5)

    further_spelled : {m : _} → (xs : Row_of-Column m) (d : formed.Scope) (cs : List Typed) → ColumnsHave catalog params xs d cs → FurtherColumnsAreSpelled xs
    further_spelled end_of-Column d cs h = tt
    further_spelled (more_of-Column value name more) d cs h = (expr_spelled value d h.0 h.4, h.3, further_spelled more d h.1 h.5)

    from_spelled : {m : _} → (xs : Row_of-FromItem m) (d into : formed.Scope) → HaveAliases catalog params xs [] d into → FromIsSpelled xs
    from_spelled end_of-FromItem d into h = tt
    from_spelled (more_of-FromItem first more) d into h = (first_begins catalog params first d h.0 h.1, item_spelled first [] d h.0 h.1, h.2, items_spelled more _ _ into h.4)

    items_spelled : {m : _} → (xs : Row_of-FromItem m) (names : List Name) (d into : formed.Scope) → HaveAliases catalog params xs names d into → ItemsAreSpelled xs
    items_spelled end_of-FromItem names d into h = tt
    items_spelled (more_of-FromItem first more) names d into h = (item_spelled first names d h.0 h.1, h.2, items_spelled more _ _ into h.4)

    item_spelled : (x : FromItem) (names : List Name) (d : formed.Scope) (cs : List Typed) → ItemHas catalog params x names d cs → ItemIsSpelled x
    item_spelled (f.Table name alias) names d cs h = h.0
    item_spelled (f.Lateral' _ cores alias) names d cs h = cores_spelled cores d cs h
    item_spelled (f.LeftLateral' _ cores alias) names d cs h = cores_spelled cores d cs h.1
    item_spelled (f.Unnest array alias) names d cs h = expr_spelled array d _ h.1

    keys_spelled : {m : _} → (xs : Row_of-Key m) (d : formed.Scope) → AreKeys catalog params xs d → KeysAreSpelled xs
    keys_spelled end_of-Key d h = tt
    keys_spelled (more_of-Key first more) d h = (key_spelled first d h.0, keys_spelled more d h.1)

    key_spelled : (x : Key) (d : formed.Scope) → IsKey catalog params x d → KeyIsSpelled x
    key_spelled (k.Ascending value nulls) d h = expr_spelled value d h.0 h.2
    key_spelled (k.Descending value nulls) d h = expr_spelled value d h.0 h.2

    condition_spelled : (x : Held-Body-condition) (d : formed.Scope) → IsCondition catalog params x d → HeldIsSpelled x
    condition_spelled None' d h = tt
    condition_spelled (Some' _ (more_of-SqlExpr x end_of-SqlExpr)) d h = expr_spelled x d _ h

    bound_spelled : (x : Held-Body-condition) (d : formed.Scope) → IsBound catalog params x d → HeldIsSpelled x
    bound_spelled None' d h = tt
    bound_spelled (Some' _ (more_of-SqlExpr x end_of-SqlExpr)) d h = expr_spelled x d _ h

  all_spelled : (xs : List Core) (ts : List SqlTy) → AreAllLike catalog params xs [] ts → FurtherCoresAreSpelled xs
  all_spelled [] ts h = tt
  all_spelled (core ∷ more) ts h = (core_spelled core [] h.0 h.1, all_spelled more ts h.3)

  select_spelled : (xs : List Core) (cs : List Typed) → SelectHas catalog params xs [] cs → SelectIsSpelled xs
  select_spelled [] cs h = absurd h
  select_spelled (core ∷ more) cs h = (core_spelled core [] cs h.0, all_spelled more (types_of cs) h.1)

pub spelled : (catalog : Catalog) (s : Stmt) → IsWellFormed catalog s → StatementIsSpelled s
spelled catalog s h = record { spelled = select_spelled catalog (args_of s) s.select.cores h.columns h.typed; low = h.low }
