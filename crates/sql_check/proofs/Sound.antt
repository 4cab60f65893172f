-- A statement as reading gives it, of which no name and no type fails, is well formed.
use Rattle.std.proofs.Common.{◌≡◌, ◌⊎◌, inl, inr, ℕ, true, false, List, [], ◌∷◌, ◌++◌, Option, Some, refl, ap, sym, ◌∙◌, subst}
use Rattle.ev_value.specs.declared.value.ScalarTy.{ScalarTy}
use Rattle.ev_value.specs.declared.value.ScalarTy.TheVariants as scalar
use Rattle.sql_ast.specs.declared.catalog.Catalog.{Catalog}
use Rattle.sql_ast.specs.declared.catalog.TableShape.{TableShape}
use Rattle.sql_ast.specs.declared.catalog.Typed.{Typed}
use Rattle.sql_ast.specs.declared.expression.SqlExpr as e
use Rattle.sql_ast.specs.declared.expression.SqlExpr.{SqlExpr, Row_of-SqlExpr, end_of-SqlExpr, more_of-SqlExpr, Row_of-Core, end_of-Core, more_of-Core}
use Rattle.sql_ast.specs.declared.select.Core as c
use Rattle.sql_ast.specs.declared.select.Core.{Core, Row_of-Column, end_of-Column, more_of-Column, Row_of-FromItem, end_of-FromItem, more_of-FromItem, Row_of-Key, end_of-Key, more_of-Key, Held-Body-condition, None', Some'}
use Rattle.sql_ast.specs.declared.select.FromItem as f
use Rattle.sql_ast.specs.declared.select.FromItem.{FromItem}
use Rattle.sql_ast.specs.declared.select.Key as k
use Rattle.sql_ast.specs.declared.select.Key.{Key}
use Rattle.sql_ast.specs.declared.select.Stmt.{Stmt}
use Rattle.sql_ast.specs.declared.ty.SqlTy.{SqlTy}
use Rattle.sql_ast.specs.declared.ty.SqlTy.TheVariants as ty
use Rattle.sql_ast.specs.Params.{args_of}
use Rattle.sql_ast.specs.Types.{INT, TEXT, BOOL, UUID, UnaryType, BinaryType, FunctionType}
use Rattle.sql_ast.specs.WellFormed.{Name, IsNotEmpty, IsWellFormed, AreApart, HasType, HaveTypes, HasColumns, AreLike, CoreHas, HaveAliases, ItemHas, ColumnsHave, AreKeys, IsKey, IsCondition, IsBound, AreAllLike, SelectHas, alias_of, columns_under, element_column, names_of, type_under, types_of}
use Rattle.sql_ast.specs.WellFormed as formed
use Rattle.sql_grammar.specs.declared.grown.Places.{Places}
use Rattle.sql_check.specs.declared.sort.Sort.{Sort}
use Rattle.sql_check.specs.declared.verdict.Verdict.{Verdict}
use Rattle.sql_check.specs.declared.verdict.Verdict.TheVariants.{Has}
use Rattle.sql_check.specs.Laws.{HasNoFault}
use Rattle.sql_check.specs.Names.{Scope, at_items, at_condition, at_keys, at_offset, at_limit, with_items, inside, gives_column, core_gives, select_gives, has_alias, has_column, is_among, is_listed, names_in, names_in_all, names_in_cores, names_in_core, names_in_columns, names_in_items, names_in_item, names_in_keys, names_in_key, names_in_option, names_in_list}
use Rattle.sql_check.specs.Spelled.{MayBegin, IsSpelled, AreSpelled, CoresAreSpelled, FurtherAreSpelled, CoreIsSpelled, ColumnsAreSpelled, FurtherColumnsAreSpelled, FromIsSpelled, ItemsAreSpelled, ItemIsSpelled, KeysAreSpelled, KeyIsSpelled, HeldIsSpelled, FurtherCoresAreSpelled, SelectIsSpelled, StatementIsSpelled}
use Rattle.sql_check.specs.Types.{Sorts, known, over, failing, is_of, is_scalar, is_array, unary_verdict, binary_verdict, function_verdict, cast_verdict, part_verdict, case_verdict, arg_verdict, array_verdict, row_verdict, alike, choice_verdict, type_in, with_first, sorts_of, table_sorts, element_sort, element_in, verdict, verdicts, select_sorts, core_sorts, column_sorts, within, item_sorts, types_in, types_in_all, types_in_cores, types_in_further, types_in_core, types_in_columns, types_in_items, types_in_item, types_in_keys, types_in_key, types_in_option, types_in_further_list, types_in_list}
use Rattle.sql_check.specs.Walk.{start, inner, rest, parts_of}
use Rattle.sql_check.proofs.Emptiness.{Six, six, no_first, no_more, holds, holds_not, are_alike}
use Rattle.sql_check.proofs.Scopes.{AreNew, AreAliases, IsGivenBy, Gives, sorted, type_listed, none_new, no_aliases, new_first, apart_first, one_alias, new_alias, with_more, column_is, type_is, column_gives, element_gives, there_sound, listed_sound}
use Rattle.sql_check.proofs.TyForms.{element_array}
use Rattle.sql_check.proofs.Verdicts.{IsJudged, IsPart, IsCast, placed, like_types, scalar_it_is, scalar_sound, array_sound, unary_sound, binary_sound, function_sound, cast_sound, part_sound, case_sound, arg_sound}

-- ---- what is said of a form, by what is said of its parts

-- the array of a select with one column
one_of_columns : (cs : List Typed) (byte : ℕ) → failing (array_verdict (sorts_of cs)) byte ≡ [] → IsJudged (array_verdict (sorts_of cs)) (λ t. (x : Typed) × (cs ≡ x ∷ []) × (t ≡ ty.Array x.ty))
one_of_columns [] byte h = absurd (cc h)
one_of_columns (x ∷ []) byte h = (ty.Array x.ty, refl, (x, refl, refl))
one_of_columns (x ∷ y ∷ more) byte h = absurd (cc h)

abbrev IsArrayOf : List Typed → List Sort → ℕ → Type 0
IsArrayOf cs sorts byte = failing (array_verdict sorts) byte ≡ [] → IsJudged (array_verdict sorts) (λ t. (x : Typed) × (cs ≡ x ∷ []) × (t ≡ ty.Array x.ty))

one_column : (sorts : List Sort) (cs : List Typed) (byte : ℕ) → sorts ≡ sorts_of cs → IsArrayOf cs sorts byte
one_column sorts cs byte e = subst (λ (l : List Sort). IsArrayOf cs l byte) (sym e) (one_of_columns cs byte)

-- a choice by a truth
chosen : (v w u : Verdict) (a b c : SqlTy) → v ≡ Has a → w ≡ Has b → u ≡ Has c → is_of scalar.Bool a ≡ true
    → choice_verdict v w u ≡ case_verdict b c
chosen v w u a b c e f g h = rw (e, f, g, h) refl

-- ---- columns and items

-- the first of these may stand first
abbrev Begins : {m : _} → Row_of-FromItem m → Type 0
Begins end_of-FromItem = Unit {0}
Begins (more_of-FromItem first more) = MayBegin first

further_columns : {m : _} (columns : Row_of-Column m) → ColumnsAreSpelled columns → FurtherColumnsAreSpelled columns
unfolding IsSpelled
further_columns end_of-Column s = absurd s
further_columns (more_of-Column value name more) s = s

further_items : {m : _} (items : Row_of-FromItem m) → FromIsSpelled items → ItemsAreSpelled items × Begins items
unfolding IsSpelled
further_items end_of-FromItem s = (tt, tt)
further_items (more_of-FromItem first more) s = ((s.1, s.2, s.3), s.0)

some_columns : (catalog : Catalog) (given : List Typed) {m : _} (columns : Row_of-Column m) (d : formed.Scope) (cs : List Typed) → ColumnsAreSpelled columns → ColumnsHave catalog given columns d cs → IsNotEmpty cs
unfolding IsSpelled HasType
some_columns catalog given end_of-Column d cs s h = absurd s
some_columns catalog given (more_of-Column value name more) d cs s h = subst (λ (xs : List Typed). IsNotEmpty xs) (sym h.2) tt

join_is_further : (names : List Name) → IsNotEmpty names ⊎ ⊥ → IsNotEmpty names
join_is_further names (inl some) = some
join_is_further names (inr none) = absurd none

-- ---- the walk of the tree

module _ (catalog : Catalog) (given : List Typed) where
  -- it has the type that is said of it
  abbrev IsTyped : SqlExpr → formed.Scope → Type 0
  IsTyped x d = IsJudged (verdict catalog given x (sorted d)) (λ t. HasType catalog given x d t)

  abbrev AreTyped : {m : _} → Row_of-SqlExpr m → formed.Scope → Type 0
  AreTyped xs d = (ts : List SqlTy) × HaveTypes catalog given xs d ts × (verdicts catalog given xs (sorted d) ≡ Some ts)

  -- it has the columns that are said of it
  abbrev SelectGives : {m : _} → Row_of-Core m → formed.Scope → Type 0
  SelectGives xs d = (cs : List Typed) × HasColumns catalog given xs d cs × (select_sorts catalog given xs (sorted d) ≡ sorts_of cs) × IsGivenBy (λ name. select_gives name xs) cs

  abbrev CoreGives : Core → formed.Scope → Type 0
  CoreGives x d = (cs : List Typed) × CoreHas catalog given x d cs × (core_sorts catalog given x (sorted d) ≡ sorts_of cs) × IsGivenBy (λ name. core_gives name x) cs

  abbrev ColumnsGive : {m : _} → Row_of-Column m → List Name → formed.Scope → Type 0
  ColumnsGive xs before d =
      (cs : List Typed) × ColumnsHave catalog given xs d cs × (column_sorts catalog given xs (sorted d) ≡ sorts_of cs) × IsGivenBy (λ name. gives_column name xs) cs × AreNew before (names_of cs) × AreApart (names_of cs)

  abbrev ItemsGive : {m : _} → Row_of-FromItem m → List Name → Scope → formed.Scope → Type 0
  ItemsGive xs names n d = (into : formed.Scope) × HaveAliases catalog given xs names d into × Gives catalog (inside xs n) into × (within catalog given xs (sorted d) ≡ sorted into)

  abbrev ItemGives : FromItem → List Name → formed.Scope → Type 0
  ItemGives x names d = (cs : List Typed) × ItemHas catalog given x names d cs × (item_sorts catalog given x (sorted d) ≡ sorts_of cs) × IsGivenBy (λ name. has_column catalog name x) cs

  -- no name fails in the parts of a core, and no type
  abbrev NoNames : {l m n : _} → Row_of-Column l → Row_of-FromItem m → Held-Body-condition → Row_of-Key n → Held-Body-condition → Held-Body-condition → List Places → Scope → Type 0
  NoNames columns items condition keys offset limit ps d =
      Six (names_in_columns catalog columns [] (inner ps) (inside items d)) (names_in_items catalog items [] (at_items columns ps) d) (names_in_option catalog condition (at_condition columns items ps) (inside items d))
      (names_in_keys catalog keys (at_keys columns items condition ps) (inside items d)) (names_in_option catalog offset (at_offset columns items condition keys ps) d) (names_in_option catalog limit (at_limit columns items condition keys offset ps) d)

  abbrev NoTypes : {l m n : _} → Row_of-Column l → Row_of-FromItem m → Held-Body-condition → Row_of-Key n → Held-Body-condition → Held-Body-condition → List Places → Sorts → Type 0
  NoTypes columns items condition keys offset limit ps d =
      Six (types_in_items catalog given items (at_items columns ps) d) (types_in_columns catalog given columns (inner ps) (within catalog given items d)) (types_in_option catalog given condition (is_of scalar.Bool) (at_condition columns items ps) (within catalog given items d))
      (types_in_keys catalog given keys (at_keys columns items condition ps) (within catalog given items d)) (types_in_option catalog given offset (is_of scalar.Int64) (at_offset columns items condition keys ps) d) (types_in_option catalog given limit (is_of scalar.Int64) (at_limit columns items condition keys offset ps) d)

  mutual
    unfolding names_in types_in verdict HasType IsSpelled gives_column core_gives select_gives has_column inside

    expr_sound : (x : SqlExpr) (ps qs : List Places) (n : Scope) (d : formed.Scope) → Gives catalog n d → IsSpelled x → names_in catalog x ps n ≡ [] → types_in catalog given x qs (sorted d) ≡ [] → IsTyped x d
    expr_sound (e.Int z) ps qs n d g s h k = (INT, refl, (s, refl))
    expr_sound (e.Text text) ps qs n d g s h k = (TEXT, refl, refl)
    expr_sound (e.Bool b) ps qs n d g s h k = (BOOL, refl, refl)
    expr_sound (e.Uuid u) ps qs n d g s h k = (UUID, refl, refl)
    expr_sound (e.Null u) ps qs n d g s h k = (u, refl, refl)
    expr_sound (e.Column alias name) ps qs n d g s h k =
        let listed : is_listed name (columns_under alias d) ≡ true = sym (column_is catalog alias name n d g) ∙ holds _ _ h in
        let found : (cs : List Typed) × (t : SqlTy) × (columns_under alias d ≡ Some cs) × (type_under name cs ≡ Some t) = listed_sound name _ listed in
        (found.1, ap known (type_is alias name d ∙ ap (λ (o : Option (List Typed)). type_listed name o) found.2 ∙ found.3), (s.0, s.1, found.0, found.2, found.3))
    expr_sound (e.Arg name u) ps qs n d g s h k =
        let j : IsJudged (arg_verdict u (type_under name given)) (λ t. (r : ScalarTy) × (u ≡ ty.Scalar r) × (t ≡ u) × (type_under name given ≡ Some u)) = arg_sound u _ _ k in
        j
    expr_sound (e.Global name) ps qs n d g s h k =
        let found : (t : SqlTy) × (type_under name catalog.globals ≡ Some t) = there_sound _ (holds _ _ h) in
        (found.0, ap known found.1, found.1)
    expr_sound (e.Array' _ cores) ps qs n d g s h k =
        let a : SelectGives cores d = cores_sound cores (inner (inner ps)) (inner (inner qs)) n d g s h (no_first _ _ k) in
        let j : IsJudged (array_verdict (select_sorts catalog given cores (sorted d))) (λ t. (x : Typed) × (a.0 ≡ x ∷ []) × (t ≡ ty.Array x.ty)) = one_column _ a.0 _ a.2 (no_more _ _ k) in
        (j.0, j.1, (j.2.0, subst (λ (cs : List Typed). HasColumns catalog given cores d cs) j.2.1 a.1, j.2.2))
    expr_sound (e.Row' _ parts) ps qs n d g s h k =
        let a : AreTyped parts d = exprs_sound parts (inner ps) (inner qs) n d g s h k in
        (ty.Row a.0, ap row_verdict a.2, (a.0, a.1, refl))
    expr_sound (e.Part' _ (more_of-SqlExpr x end_of-SqlExpr) z) ps qs n d g s h k =
        let a : IsTyped x d = expr_sound x (inner ps) (inner qs) n d g s h (no_first _ _ k) in
        let j : IsJudged (part_verdict a.0 z) (λ t. IsPart a.0 z t) = part_sound a.0 z _ (subst (λ (v : Verdict). failing (over v (λ b. part_verdict b z)) (start qs) ≡ []) a.1 (no_more _ _ k)) in
        (j.0, ap (λ (v : Verdict). over v (λ b. part_verdict b z)) a.1 ∙ j.1, (j.2.0, j.2.1, subst (λ (t : SqlTy). HasType catalog given x d t) j.2.2 a.2, j.2.3, j.2.4))
    expr_sound (e.Case' _ (more_of-SqlExpr x end_of-SqlExpr) _ (more_of-SqlExpr y end_of-SqlExpr) _ (more_of-SqlExpr z end_of-SqlExpr)) ps qs n d g s h k =
        let a : IsTyped x d = expr_sound x (inner ps) (inner qs) n d g s.0 (no_first _ _ h) (no_first _ _ (no_first _ _ k)) in
        let b : IsTyped y d = expr_sound y (rest (inner ps)) (rest (inner qs)) n d g s.1 (no_first _ _ (no_more _ _ h)) (no_first _ _ (no_more _ _ k)) in
        let c : IsTyped z d = expr_sound z (rest (rest (inner ps))) (rest (rest (inner qs))) n d g s.2 (no_more _ _ (no_more _ _ h)) (no_first _ _ (no_more _ _ (no_more _ _ k))) in
        let truth : is_of scalar.Bool a.0 ≡ true = placed (is_of scalar.Bool) _ a.0 _ a.1 (no_more _ _ (no_first _ _ k)) in
        let whole : choice_verdict (verdict catalog given x (sorted d)) (verdict catalog given y (sorted d)) (verdict catalog given z (sorted d)) ≡ case_verdict b.0 c.0 = chosen _ _ _ a.0 b.0 c.0 a.1 b.1 c.1 truth in
        let more : types_in catalog given z (rest (rest (inner qs))) (sorted d) ++ failing (choice_verdict (verdict catalog given x (sorted d)) (verdict catalog given y (sorted d)) (verdict catalog given z (sorted d))) (start qs) ≡ [] = no_more _ _ (no_more _ _ k) in
        let j : IsJudged (case_verdict b.0 c.0) (λ t. (t ≡ b.0) × (c.0 ≡ b.0)) = case_sound b.0 c.0 (start qs) (subst (λ (v : Verdict). failing v (start qs) ≡ []) whole (no_more _ _ more)) in (
          j.0,
          whole ∙ j.1,
          (
            subst (λ (t : SqlTy). HasType catalog given x d t) (scalar_it_is scalar.Bool a.0 truth) a.2,
            subst (λ (t : SqlTy). HasType catalog given y d t) (sym j.2.0) b.2,
            subst (λ (t : SqlTy). HasType catalog given z d t) (j.2.1 ∙ sym j.2.0) c.2,
          ),
        )
    expr_sound (e.Cast' _ (more_of-SqlExpr x end_of-SqlExpr) u) ps qs n d g s h k =
        let a : IsTyped x d = expr_sound x (inner ps) (inner qs) n d g s h (no_first _ _ k) in
        let j : IsJudged (cast_verdict a.0 u) (λ t. IsCast a.0 u t) = cast_sound a.0 u _ (subst (λ (v : Verdict). failing (over v (λ b. cast_verdict b u)) (start qs) ≡ []) a.1 (no_more _ _ k)) in
        (j.0, ap (λ (v : Verdict). over v (λ b. cast_verdict b u)) a.1 ∙ j.1, (j.2.0, j.2.1, subst (λ (t : SqlTy). HasType catalog given x d t) j.2.2 a.2, j.2.3, j.2.4, j.2.5))
    expr_sound (e.Unary' operator _ (more_of-SqlExpr x end_of-SqlExpr)) ps qs n d g s h k =
        let a : IsTyped x d = expr_sound x (inner ps) (inner qs) n d g s h (no_first _ _ k) in
        let j : IsJudged (unary_verdict operator a.0) (λ t. UnaryType operator a.0 t) = unary_sound operator a.0 _ (subst (λ (v : Verdict). failing (over v (λ b. unary_verdict operator b)) (start qs) ≡ []) a.1 (no_more _ _ k)) in
        (j.0, ap (λ (v : Verdict). over v (λ b. unary_verdict operator b)) a.1 ∙ j.1, (a.0, a.2, j.2))
    expr_sound (e.Binary' operator _ (more_of-SqlExpr x end_of-SqlExpr) _ (more_of-SqlExpr y end_of-SqlExpr)) ps qs n d g s h k =
        let a : IsTyped x d = expr_sound x (inner ps) (inner qs) n d g s.0 (no_first _ _ h) (no_first _ _ k) in
        let b : IsTyped y d = expr_sound y (rest (inner ps)) (rest (inner qs)) n d g s.1 (no_more _ _ h) (no_first _ _ (no_more _ _ k)) in
        let whole : over (verdict catalog given x (sorted d)) (λ l. over (verdict catalog given y (sorted d)) (λ r. binary_verdict operator l r)) ≡ binary_verdict operator a.0 b.0 =
        λ i. over (a.1 i) (λ l. over (b.1 i) (λ r. binary_verdict operator l r)) in
        let j : IsJudged (binary_verdict operator a.0 b.0) (λ t. BinaryType operator a.0 b.0 t) = binary_sound operator a.0 b.0 (start qs) (subst (λ (v : Verdict). failing v (start qs) ≡ []) whole (no_more _ _ (no_more _ _ k))) in
        (j.0, whole ∙ j.1, (a.0, b.0, a.2, b.2, j.2))
    expr_sound (e.Call' called _ (more_of-SqlExpr x end_of-SqlExpr)) ps qs n d g s h k =
        let a : IsTyped x d = expr_sound x (inner ps) (inner qs) n d g s h (no_first _ _ k) in
        let j : IsJudged (function_verdict called a.0) (λ t. FunctionType called a.0 t) = function_sound called a.0 _ (subst (λ (v : Verdict). failing (over v (λ b. function_verdict called b)) (start qs) ≡ []) a.1 (no_more _ _ k)) in
        (j.0, ap (λ (v : Verdict). over v (λ b. function_verdict called b)) a.1 ∙ j.1, (a.0, a.2, j.2))

    exprs_sound : {m : _} → (xs : Row_of-SqlExpr m) (ps qs : List Places) (n : Scope) (d : formed.Scope) → Gives catalog n d → AreSpelled xs → names_in_all catalog xs ps n ≡ [] → types_in_all catalog given xs qs (sorted d) ≡ [] → AreTyped xs d
    exprs_sound end_of-SqlExpr ps qs n d g s h k = ([], refl, refl)
    exprs_sound (more_of-SqlExpr first more) ps qs n d g s h k =
        let a : IsTyped first d = expr_sound first ps qs n d g s.0 (no_first _ _ h) (no_first _ _ k) in
        let b : AreTyped more d = exprs_sound more (rest ps) (rest qs) n d g s.1 (no_more _ _ h) (no_more _ _ k) in
        (a.0 ∷ b.0, (a.0, b.0, refl, a.2, b.1), λ i. with_first (type_in (a.1 i)) (b.2 i))

    cores_sound : {m : _} → (xs : Row_of-Core m) (ps qs : List Places) (n : Scope) (d : formed.Scope) → Gives catalog n d → CoresAreSpelled xs → names_in_cores catalog xs ps n ≡ [] → types_in_cores catalog given xs qs (sorted d) ≡ [] → SelectGives xs d
    cores_sound end_of-Core ps qs n d g s h k = absurd s
    cores_sound (more_of-Core core more) ps qs n d g s h k =
        let a : CoreGives core d = core_sound core ps qs n d g s.0 (no_first _ _ h) (no_first _ _ k) in
        let b : AreLike catalog given more d (types_of a.0) = like_sound more a.0 (rest ps) (rest qs) n d g s.1 (no_more _ _ h) (subst (λ (l : List Sort). types_in_further catalog given more l (rest qs) (sorted d) ≡ []) a.2 (no_more _ _ k)) in
        (a.0, (a.1, b), a.2, a.3)

    like_sound : {m : _} → (xs : Row_of-Core m) (fs : List Typed) (ps qs : List Places) (n : Scope) (d : formed.Scope) → Gives catalog n d → FurtherAreSpelled xs → names_in_cores catalog xs ps n ≡ [] → types_in_further catalog given xs (sorts_of fs) qs (sorted d) ≡ [] → AreLike catalog given xs d (types_of fs)
    like_sound end_of-Core fs ps qs n d g s h k = tt
    like_sound (more_of-Core core more) fs ps qs n d g s h k =
        let a : CoreGives core d = core_sound core ps qs n d g s.0 (no_first _ _ h) (no_first _ _ k) in
        let equal : types_of a.0 ≡ types_of fs = like_types fs a.0 (subst (λ (l : List Sort). alike (sorts_of fs) l ≡ true) a.2 (are_alike _ _ (no_first _ _ (no_more _ _ k)))) in
        (a.0, a.1, equal, like_sound more fs (rest ps) (rest qs) n d g s.1 (no_more _ _ h) (no_more _ _ (no_more _ _ k)))

    core_sound : (x : Core) (ps qs : List Places) (n : Scope) (d : formed.Scope) → Gives catalog n d → CoreIsSpelled x → names_in_core catalog x ps n ≡ [] → types_in_core catalog given x qs (sorted d) ≡ [] → CoreGives x d
    core_sound (c.All' s1 columns s2 items condition s3 keys offset limit) ps qs n d g s h k =
        let none : NoNames columns items condition keys offset limit ps n = six _ _ _ _ _ _ h in
        let suits : NoTypes columns items condition keys offset limit qs (sorted d) = six _ _ _ _ _ _ k in
        let begin : ItemsAreSpelled items × Begins items = further_items items s.1 in
        let from : ItemsGive items [] n d = items_sound items [] [] (at_items columns ps) (at_items columns qs) n n d refl no_aliases (inr begin.1) g begin.0 none.1 suits.0 in
        let a : ColumnsGive columns [] from.0 = columns_sound columns [] (inner ps) (inner qs) (inside items n) from.0 from.2 (further_columns columns s.0) none.0 (subst (λ (z : Sorts). types_in_columns catalog given columns (inner qs) z ≡ []) from.3 suits.1) in
        let b : IsCondition catalog given condition from.0 = condition_sound condition (at_condition columns items ps) (at_condition columns items qs) (inside items n) from.0 from.2 s.2 none.2 (subst (λ (z : Sorts). types_in_option catalog given condition (is_of scalar.Bool) (at_condition columns items qs) z ≡ []) from.3 suits.2) in
        let order : AreKeys catalog given keys from.0 = keys_sound keys (at_keys columns items condition ps) (at_keys columns items condition qs) (inside items n) from.0 from.2 s.3 none.3 (subst (λ (z : Sorts). types_in_keys catalog given keys (at_keys columns items condition qs) z ≡ []) from.3 suits.3) in
        let low : IsBound catalog given offset d = bound_sound offset (at_offset columns items condition keys ps) (at_offset columns items condition keys qs) n d g s.4 none.4 suits.4 in
        let high : IsBound catalog given limit d = bound_sound limit (at_limit columns items condition keys offset ps) (at_limit columns items condition keys offset qs) n d g s.5 none.5 suits.5 in
        (a.0, (from.0, from.1, a.1, some_columns catalog given columns from.0 a.0 s.0 a.1, a.5, b, order, low, high), ap (λ (z : Sorts). column_sorts catalog given columns z) from.3 ∙ a.2, a.3)
    core_sound (c.Distinct' s1 columns s2 items condition s3 keys offset limit) ps qs n d g s h k =
        let none : NoNames columns items condition keys offset limit ps n = six _ _ _ _ _ _ h in
        let suits : NoTypes columns items condition keys offset limit qs (sorted d) = six _ _ _ _ _ _ k in
        let begin : ItemsAreSpelled items × Begins items = further_items items s.1 in
        let from : ItemsGive items [] n d = items_sound items [] [] (at_items columns ps) (at_items columns qs) n n d refl no_aliases (inr begin.1) g begin.0 none.1 suits.0 in
        let a : ColumnsGive columns [] from.0 = columns_sound columns [] (inner ps) (inner qs) (inside items n) from.0 from.2 (further_columns columns s.0) none.0 (subst (λ (z : Sorts). types_in_columns catalog given columns (inner qs) z ≡ []) from.3 suits.1) in
        let b : IsCondition catalog given condition from.0 = condition_sound condition (at_condition columns items ps) (at_condition columns items qs) (inside items n) from.0 from.2 s.2 none.2 (subst (λ (z : Sorts). types_in_option catalog given condition (is_of scalar.Bool) (at_condition columns items qs) z ≡ []) from.3 suits.2) in
        let order : AreKeys catalog given keys from.0 = keys_sound keys (at_keys columns items condition ps) (at_keys columns items condition qs) (inside items n) from.0 from.2 s.3 none.3 (subst (λ (z : Sorts). types_in_keys catalog given keys (at_keys columns items condition qs) z ≡ []) from.3 suits.3) in
        let low : IsBound catalog given offset d = bound_sound offset (at_offset columns items condition keys ps) (at_offset columns items condition keys qs) n d g s.4 none.4 suits.4 in
        let high : IsBound catalog given limit d = bound_sound limit (at_limit columns items condition keys offset ps) (at_limit columns items condition keys offset qs) n d g s.5 none.5 suits.5 in
        (a.0, (from.0, from.1, a.1, some_columns catalog given columns from.0 a.0 s.0 a.1, a.5, b, order, low, high), ap (λ (z : Sorts). column_sorts catalog given columns z) from.3 ∙ a.2, a.3)

    columns_sound : {m : _} → (xs : Row_of-Column m) (before : List Name) (ps qs : List Places) (n : Scope) (d : formed.Scope) → Gives catalog n d → FurtherColumnsAreSpelled xs → names_in_columns catalog xs before ps n ≡ [] → types_in_columns catalog given xs qs (sorted d) ≡ [] → ColumnsGive xs before d
    columns_sound end_of-Column before ps qs n d g s h k = ([], refl, refl, λ name. refl, none_new before, tt)
    columns_sound (more_of-Column value name more) before ps qs n d g s h k =
        let a : IsTyped value d = expr_sound value (inner ps) (inner qs) n d g s.0 (no_first _ _ h) (no_first _ _ k) in
        let new : is_among name before ≡ false = holds_not _ _ (no_first _ _ (no_more _ _ h)) in
        let b : ColumnsGive more (before ++ name ∷ []) d = columns_sound more (before ++ name ∷ []) (rest ps) (rest qs) n d g s.2 (no_more _ _ (no_more _ _ h)) (no_more _ _ k) in
        let first : Typed = record { name = name; ty = a.0 } in (
          first ∷ b.0,
          (a.0, b.0, refl, s.1, a.2, b.1),
          λ i. record { name = name; ty = type_in (a.1 i) } ∷ b.2 i,
          λ other. column_gives name other a.0 (gives_column other more) b.0 (b.3 other),
          new_first before name (names_of b.0) new b.4,
          (apart_first before name (names_of b.0) b.4, b.5),
        )

    items_sound : {m : _} → (xs : Row_of-FromItem m) (names : List Name) (before : List FromItem) (ps qs : List Places) (outer n : Scope) (d : formed.Scope) → with_items before outer ≡ n → AreAliases names before → IsNotEmpty names ⊎ Begins xs → Gives catalog n d
        → ItemsAreSpelled xs → names_in_items catalog xs before ps outer ≡ [] → types_in_items catalog given xs qs (sorted d) ≡ [] → ItemsGive xs names n d
    items_sound end_of-FromItem names before ps qs outer n d w are begins g s h k = (d, refl, g, refl)
    items_sound (more_of-FromItem first more) names before ps qs outer n d w are begins g s h k =
        let a : ItemGives first names d = item_sound first names ps qs n d begins g s.0 (subst (λ (z : Scope). names_in_item catalog first ps z ≡ []) w (no_first _ _ h)) (no_first _ _ k) in
        let entry : TableShape = record { name = alias_of first; columns = a.0 } in
        let new : has_alias (alias_of first) before ≡ false = holds_not _ _ (no_first _ _ (no_more _ _ h)) in
        let scope : ◌≡◌ {A = Sorts} (record { alias = alias_of first; columns = item_sorts catalog given first (sorted d) } ∷ sorted d) (sorted (entry ∷ d)) = λ i. record { alias = alias_of first; columns = a.2 i } ∷ sorted d in
        let b : ItemsGive more (alias_of first ∷ names) (first ∷ n) (entry ∷ d) =
        items_sound more (alias_of first ∷ names) (before ++ first ∷ []) (rest ps) (rest qs) outer (first ∷ n) (entry ∷ d) (with_more before first outer ∙ ap (λ (z : Scope). first ∷ z) w) (one_alias names before first are) (inl tt) (refl, a.3, g)
        s.2 (no_more _ _ (no_more _ _ h)) (subst (λ (z : Sorts). types_in_items catalog given more (rest qs) z ≡ []) scope (no_more _ _ k)) in
        (b.0, (a.0, a.1, s.1, new_alias names before (alias_of first) are new, b.1), b.2, ap (λ (z : Sorts). within catalog given more z) scope ∙ b.3)

    item_sound : (x : FromItem) (names : List Name) (ps qs : List Places) (n : Scope) (d : formed.Scope) → IsNotEmpty names ⊎ MayBegin x → Gives catalog n d → ItemIsSpelled x → names_in_item catalog x ps n ≡ [] → types_in_item catalog given x qs (sorted d) ≡ [] → ItemGives x names d
    item_sound (f.Table name alias) names ps qs n d begins g s h k =
        let found : (cs : List Typed) × (columns_under name catalog.tables ≡ Some cs) = there_sound _ (holds _ _ h) in
        (found.0, (s, found.1), ap table_sorts found.1, λ column. ap (λ (o : Option (List Typed)). is_listed column o) found.1)
    item_sound (f.Lateral' _ cores alias) names ps qs n d begins g s h k =
        let a : SelectGives cores d = cores_sound cores (inner (inner ps)) (inner (inner qs)) n d g s h k in
        a
    item_sound (f.LeftLateral' _ cores alias) names ps qs n d begins g s h k =
        let a : SelectGives cores d = cores_sound cores (inner (inner ps)) (inner (inner qs)) n d g s h k in
        (a.0, (join_is_further names begins, a.1), a.2, a.3)
    item_sound (f.Unnest array alias) names ps qs n d begins g s h k =
        let a : IsTyped array d = expr_sound array (inner ps) (inner qs) n d g s h (no_first _ _ k) in
        let el : (u : SqlTy) × (a.0 ≡ ty.Array u) = array_sound a.0 (placed is_array _ a.0 _ a.1 (no_more _ _ k)) in (
          element_column el.0,
          (el.0, subst (λ (t : SqlTy). HasType catalog given array d t) el.1 a.2, refl),
          ap (λ (v : Verdict). element_sort (element_in (type_in v))) (a.1 ∙ ap Has el.1) ∙ ap element_sort (element_array el.0),
          λ name. element_gives name el.0,
        )

    keys_sound : {m : _} → (xs : Row_of-Key m) (ps qs : List Places) (n : Scope) (d : formed.Scope) → Gives catalog n d → KeysAreSpelled xs → names_in_keys catalog xs ps n ≡ [] → types_in_keys catalog given xs qs (sorted d) ≡ [] → AreKeys catalog given xs d
    keys_sound end_of-Key ps qs n d g s h k = tt
    keys_sound (more_of-Key first more) ps qs n d g s h k =
        (key_sound first ps qs n d g s.0 (no_first _ _ h) (no_first _ _ k), keys_sound more (rest ps) (rest qs) n d g s.1 (no_more _ _ h) (no_more _ _ k))

    key_sound : (x : Key) (ps qs : List Places) (n : Scope) (d : formed.Scope) → Gives catalog n d → KeyIsSpelled x → names_in_key catalog x ps n ≡ [] → types_in_key catalog given x qs (sorted d) ≡ [] → IsKey catalog given x d
    key_sound (k.Ascending value nulls) ps qs n d g s h k =
        let a : IsTyped value d = expr_sound value ps qs n d g s h (no_first _ _ k) in
        (a.0, scalar_sound a.0 (placed is_scalar _ a.0 _ a.1 (no_more _ _ k)), a.2)
    key_sound (k.Descending value nulls) ps qs n d g s h k =
        let a : IsTyped value d = expr_sound value ps qs n d g s h (no_first _ _ k) in
        (a.0, scalar_sound a.0 (placed is_scalar _ a.0 _ a.1 (no_more _ _ k)), a.2)

    condition_sound : (x : Held-Body-condition) (ps qs : List Places) (n : Scope) (d : formed.Scope) → Gives catalog n d → HeldIsSpelled x → names_in_option catalog x ps n ≡ [] → types_in_option catalog given x (is_of scalar.Bool) qs (sorted d) ≡ [] → IsCondition catalog given x d
    condition_sound None' ps qs n d g s h k = tt
    condition_sound (Some' _ (more_of-SqlExpr x end_of-SqlExpr)) ps qs n d g s h k =
        let a : IsTyped x d = expr_sound x ps qs n d g s h (no_first _ _ k) in
        subst (λ (t : SqlTy). HasType catalog given x d t) (scalar_it_is scalar.Bool a.0 (placed (is_of scalar.Bool) _ a.0 _ a.1 (no_more _ _ k))) a.2

    bound_sound : (x : Held-Body-condition) (ps qs : List Places) (n : Scope) (d : formed.Scope) → Gives catalog n d → HeldIsSpelled x → names_in_option catalog x ps n ≡ [] → types_in_option catalog given x (is_of scalar.Int64) qs (sorted d) ≡ [] → IsBound catalog given x d
    bound_sound None' ps qs n d g s h k = tt
    bound_sound (Some' _ (more_of-SqlExpr x end_of-SqlExpr)) ps qs n d g s h k =
        let a : IsTyped x d = expr_sound x ps qs n d g s h (no_first _ _ k) in
        subst (λ (t : SqlTy). HasType catalog given x d t) (scalar_it_is scalar.Int64 a.0 (placed (is_of scalar.Int64) _ a.0 _ a.1 (no_more _ _ k))) a.2

  -- ---- the cores of a statement

  all_sound : (xs : List Core) (fs : List Typed) (ps qs : List Places) → FurtherCoresAreSpelled xs → names_in_list catalog xs ps [] ≡ [] → types_in_further_list catalog given xs (sorts_of fs) qs [] ≡ [] → AreAllLike catalog given xs [] (types_of fs)
  all_sound [] fs ps qs s h k = tt
  all_sound (core ∷ more) fs ps qs s h k =
      let a : CoreGives core [] = core_sound core ps qs [] [] tt s.0 (no_first _ _ h) (no_first _ _ k) in
      let equal : types_of a.0 ≡ types_of fs = like_types fs a.0 (subst (λ (l : List Sort). alike (sorts_of fs) l ≡ true) a.2 (are_alike _ _ (no_first _ _ (no_more _ _ k)))) in
      (a.0, a.1, equal, all_sound more fs (rest ps) (rest qs) s.1 (no_more _ _ h) (no_more _ _ (no_more _ _ k)))

  select_sound : (xs : List Core) (ps qs : List Places) → SelectIsSpelled xs → names_in_list catalog xs ps [] ≡ [] → types_in_list catalog given xs qs [] ≡ [] → (cs : List Typed) × SelectHas catalog given xs [] cs
  select_sound [] ps qs s h k = absurd s
  select_sound (core ∷ more) ps qs s h k =
      let a : CoreGives core [] = core_sound core ps qs [] [] tt s.0 (no_first _ _ h) (no_first _ _ k) in
      let b : AreAllLike catalog given more [] (types_of a.0) = all_sound more a.0 (rest ps) (rest qs) s.1 (no_more _ _ h) (subst (λ (l : List Sort). types_in_further_list catalog given more l (rest qs) [] ≡ []) a.2 (no_more _ _ k)) in
      (a.0, (a.1, b))

pub sound : (catalog : Catalog) (s : Stmt) (place : Places) → StatementIsSpelled s → HasNoFault catalog s place → IsWellFormed catalog s
sound catalog s place spelled h =
    let found : (cs : List Typed) × SelectHas catalog (args_of s) s.select.cores [] cs =
    select_sound catalog (args_of s) s.select.cores (parts_of place) (parts_of place) spelled.spelled h.names h.types in
    record { columns = found.0; typed = found.1; low = spelled.low }
