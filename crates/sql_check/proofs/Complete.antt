-- No name and no type of a well-formed statement fails.
use Rattle.std.proofs.Common.{◌≡◌, ℕ, Bool, true, not, List, [], ◌∷◌, ◌++◌, Option, Some, refl, ap, sym, ◌∙◌, subst}
use Rattle.ev_value.specs.declared.value.ScalarTy.TheVariants as scalar
use Rattle.sql_ast.specs.declared.catalog.Catalog.{Catalog}
use Rattle.sql_ast.specs.declared.catalog.TableShape.{TableShape}
use Rattle.sql_ast.specs.declared.catalog.Typed.{Typed}
use Rattle.sql_ast.specs.declared.expression.SqlExpr as e
use Rattle.sql_ast.specs.declared.expression.SqlExpr.{SqlExpr, Row_of-SqlExpr, end_of-SqlExpr, more_of-SqlExpr, Row_of-Core, end_of-Core, more_of-Core}
use Rattle.sql_ast.specs.declared.select.Core as c
use Rattle.sql_ast.specs.declared.select.Core.{Core, Row_of-Column, end_of-Column, more_of-Column, Row_of-FromItem, end_of-FromItem, more_of-FromItem, Row_of-Key, end_of-Key, more_of-Key, Held-Body-condition, None', Some'}
use Rattle.sql_ast.specs.declared.select.FromItem as f
use Rattle.sql_ast.specs.declared.select.FromItem.{FromItem}
use Rattle.sql_ast.specs.declared.select.Key as k
use Rattle.sql_ast.specs.declared.select.Key.{Key}
use Rattle.sql_ast.specs.declared.select.Stmt.{Stmt}
use Rattle.sql_ast.specs.declared.ty.SqlTy.{SqlTy}
use Rattle.sql_ast.specs.declared.ty.SqlTy.TheVariants as ty
use Rattle.sql_ast.specs.Params.{args_of}
use Rattle.sql_ast.specs.Types.{INT, BOOL}
use Rattle.sql_ast.specs.WellFormed.{Name, IsNotEmpty, IsWellFormed, AreApart, HasType, HaveTypes, HasColumns, AreLike, CoreHas, HaveAliases, ItemHas, ColumnsHave, AreKeys, IsKey, IsCondition, IsBound, AreAllLike, SelectHas, alias_of, columns_under, element_column, names_of, type_under, types_of}
use Rattle.sql_ast.specs.WellFormed as formed
use Rattle.sql_grammar.specs.declared.grown.Places.{Places}
use Rattle.sql_check.specs.declared.sort.Sort.{Sort}
use Rattle.sql_check.specs.declared.verdict.Verdict.{Verdict}
use Rattle.sql_check.specs.declared.verdict.Verdict.TheVariants.{Has}
use Rattle.sql_check.specs.Laws.{HasNoFault}
use Rattle.sql_check.specs.Names.{Scope, at_items, at_condition, at_keys, at_offset, at_limit, with_items, inside, gives_column, core_gives, select_gives, has_alias, has_column, is_among, is_listed, is_there, unless, names_in, names_in_all, names_in_cores, names_in_core, names_in_columns, names_in_items, names_in_item, names_in_keys, names_in_key, names_in_option, names_in_list}
use Rattle.sql_check.specs.Types.{Sorts, known, over, failing, wanted, is_of, is_scalar, is_array, unary_verdict, binary_verdict, function_verdict, cast_verdict, part_verdict, arg_verdict, array_verdict, row_verdict, alike, unless_alike, choice_verdict, type_in, with_first, sorts_of, table_sorts, element_sort, element_in, verdict, verdicts, select_sorts, core_sorts, column_sorts, within, item_sorts, types_in, types_in_all, types_in_cores, types_in_further, types_in_core, types_in_columns, types_in_items, types_in_item, types_in_keys, types_in_key, types_in_option, types_in_further_list, types_in_list}
use Rattle.sql_check.specs.Walk.{start, inner, rest, parts_of}
use Rattle.sql_check.proofs.Emptiness.{none_of_both, six_none}
use Rattle.sql_check.proofs.Judged.{unary_complete, binary_complete, function_complete, cast_complete, part_complete, case_complete, arg_complete, scalar_suits}
use Rattle.sql_check.proofs.Scopes.{AreNew, AreAliases, IsGivenBy, Gives, sorted, type_listed, no_aliases, is_first, new_rest, one_alias, alias_is_new, with_more, column_is, type_is, column_gives, element_gives}
use Rattle.sql_check.proofs.TyForms.{element_array}
use Rattle.sql_check.proofs.Verdicts.{types_like}

-- ---- what is said of a form, by what is said of its parts

none_fails : (v : Verdict) (t : SqlTy) (byte : ℕ) → v ≡ Has t → failing v byte ≡ []
none_fails v t byte e = ap (λ (w : Verdict). failing w byte) e

column_listed : (name : Name) (o : Option (List Typed)) (cs : List Typed) (t : SqlTy) → o ≡ Some cs → type_under name cs ≡ Some t → is_listed name o ≡ true
column_listed name o cs t e h = ap (λ (x : Option (List Typed)). is_listed name x) e ∙ ap (λ (x : Option SqlTy). is_there x) h

-- ---- the walk of the tree

module _ (catalog : Catalog) (given : List Typed) where
  -- no name and no type fails, and the type is the one that is said
  abbrev Suits : SqlExpr → List Places → List Places → Scope → formed.Scope → SqlTy → Type 0
  Suits x ps qs n d t = (names_in catalog x ps n ≡ []) × (types_in catalog given x qs (sorted d) ≡ []) × (verdict catalog given x (sorted d) ≡ Has t)

  abbrev AllSuit : {m : _} → Row_of-SqlExpr m → List Places → List Places → Scope → formed.Scope → List SqlTy → Type 0
  AllSuit xs ps qs n d ts = (names_in_all catalog xs ps n ≡ []) × (types_in_all catalog given xs qs (sorted d) ≡ []) × (verdicts catalog given xs (sorted d) ≡ Some ts)

  -- and the columns are those that are said
  abbrev SelectSuits : {m : _} → Row_of-Core m → List Places → List Places → Scope → formed.Scope → List Typed → Type 0
  SelectSuits xs ps qs n d cs = (names_in_cores catalog xs ps n ≡ []) × (types_in_cores catalog given xs qs (sorted d) ≡ []) × (select_sorts catalog given xs (sorted d) ≡ sorts_of cs) × IsGivenBy (λ name. select_gives name xs) cs

  -- the further cores are like the first
  abbrev LikeSuits : {m : _} → Row_of-Core m → List Typed → List Places → List Places → Scope → formed.Scope → Type 0
  LikeSuits xs fs ps qs n d = (names_in_cores catalog xs ps n ≡ []) × (types_in_further catalog given xs (sorts_of fs) qs (sorted d) ≡ [])

  abbrev CoreSuits : Core → List Places → List Places → Scope → formed.Scope → List Typed → Type 0
  CoreSuits x ps qs n d cs = (names_in_core catalog x ps n ≡ []) × (types_in_core catalog given x qs (sorted d) ≡ []) × (core_sorts catalog given x (sorted d) ≡ sorts_of cs) × IsGivenBy (λ name. core_gives name x) cs

  abbrev ColumnsSuit : {m : _} → Row_of-Column m → List Name → List Places → List Places → Scope → formed.Scope → List Typed → Type 0
  ColumnsSuit xs before ps qs n d cs =
      (names_in_columns catalog xs before ps n ≡ []) × (types_in_columns catalog given xs qs (sorted d) ≡ []) × (column_sorts catalog given xs (sorted d) ≡ sorts_of cs) × IsGivenBy (λ name. gives_column name xs) cs

  abbrev ItemsSuit : {m : _} → Row_of-FromItem m → List FromItem → List Places → List Places → Scope → Scope → formed.Scope → formed.Scope → Type 0
  ItemsSuit xs before ps qs outer n d into =
      (names_in_items catalog xs before ps outer ≡ []) × (types_in_items catalog given xs qs (sorted d) ≡ []) × Gives catalog (inside xs n) into × (within catalog given xs (sorted d) ≡ sorted into)

  abbrev ItemSuits : FromItem → List Places → List Places → Scope → formed.Scope → List Typed → Type 0
  ItemSuits x ps qs n d cs = (names_in_item catalog x ps n ≡ []) × (types_in_item catalog given x qs (sorted d) ≡ []) × (item_sorts catalog given x (sorted d) ≡ sorts_of cs) × IsGivenBy (λ name. has_column catalog name x) cs

  abbrev KeysSuit : {m : _} → Row_of-Key m → List Places → List Places → Scope → formed.Scope → Type 0
  KeysSuit xs ps qs n d = (names_in_keys catalog xs ps n ≡ []) × (types_in_keys catalog given xs qs (sorted d) ≡ [])

  abbrev KeySuits : Key → List Places → List Places → Scope → formed.Scope → Type 0
  KeySuits x ps qs n d = (names_in_key catalog x ps n ≡ []) × (types_in_key catalog given x qs (sorted d) ≡ [])

  abbrev HeldSuits : Held-Body-condition → (SqlTy → Bool) → List Places → List Places → Scope → formed.Scope → Type 0
  HeldSuits x suits ps qs n d = (names_in_option catalog x ps n ≡ []) × (types_in_option catalog given x suits qs (sorted d) ≡ [])

  mutual
    unfolding names_in types_in verdict HasType gives_column core_gives select_gives has_column inside

    expr_complete : (x : SqlExpr) (ps qs : List Places) (n : Scope) (d : formed.Scope) (t : SqlTy) → Gives catalog n d → HasType catalog given x d t → Suits x ps qs n d t
    expr_complete (e.Int z) ps qs n d t g h = (refl, refl, ap Has (sym h.1))
    expr_complete (e.Text text) ps qs n d t g h = (refl, refl, ap Has (sym h))
    expr_complete (e.Bool b) ps qs n d t g h = (refl, refl, ap Has (sym h))
    expr_complete (e.Uuid u) ps qs n d t g h = (refl, refl, ap Has (sym h))
    expr_complete (e.Null u) ps qs n d t g h = (refl, refl, ap Has (sym h))
    expr_complete (e.Column alias name) ps qs n d t g h =
        (ap (λ (b : Bool). unless b (start ps)) (column_is catalog alias name n d g ∙ column_listed name _ h.2 t h.3 h.4), refl, ap known (type_is alias name d ∙ ap (λ (o : Option (List Typed)). type_listed name o) h.3 ∙ h.4))
    expr_complete (e.Arg name u) ps qs n d t g h =
        let is : arg_verdict u (type_under name given) ≡ Has t = (λ i. arg_verdict (h.1 i) ((h.3 ∙ ap (λ (z : SqlTy). Some z) h.1) i)) ∙ arg_complete h.0 ∙ ap Has (sym h.1) ∙ ap Has (sym h.2) in
        (refl, none_fails _ t (start qs) is, is)
    expr_complete (e.Global name) ps qs n d t g h = (ap (λ (o : Option SqlTy). unless (is_there o) (start ps)) h, refl, ap known h)
    expr_complete (e.Array' _ cores) ps qs n d t g h =
        let a : SelectSuits cores (inner (inner ps)) (inner (inner qs)) n d (h.0 ∷ []) = cores_complete cores (inner (inner ps)) (inner (inner qs)) n d (h.0 ∷ []) g h.1 in
        let is : array_verdict (select_sorts catalog given cores (sorted d)) ≡ Has t = ap (λ (l : List Sort). array_verdict l) a.2 ∙ ap Has (sym h.2) in
        (a.0, none_of_both _ _ a.1 (none_fails _ t (start qs) is), is)
    expr_complete (e.Row' _ parts) ps qs n d t g h =
        let a : AllSuit parts (inner ps) (inner qs) n d h.0 = exprs_complete parts (inner ps) (inner qs) n d h.0 g h.1 in
        (a.0, a.1, ap row_verdict a.2 ∙ ap Has (sym h.2))
    expr_complete (e.Part' _ (more_of-SqlExpr x end_of-SqlExpr) z) ps qs n d t g h =
        let a : Suits x (inner ps) (inner qs) n d (ty.Row h.0) = expr_complete x (inner ps) (inner qs) n d _ g h.2 in
        let is : over (verdict catalog given x (sorted d)) (λ b. part_verdict b z) ≡ Has t = (λ i. over (a.2 i) (λ b. part_verdict b (h.3 i))) ∙ part_complete h.0 h.1 t h.4 in
        (a.0, none_of_both _ _ a.1 (none_fails _ t (start qs) is), is)
    expr_complete (e.Case' _ (more_of-SqlExpr x end_of-SqlExpr) _ (more_of-SqlExpr y end_of-SqlExpr) _ (more_of-SqlExpr z end_of-SqlExpr)) ps qs n d t g h =
        let a : Suits x (inner ps) (inner qs) n d BOOL = expr_complete x (inner ps) (inner qs) n d BOOL g h.0 in
        let b : Suits y (rest (inner ps)) (rest (inner qs)) n d t = expr_complete y (rest (inner ps)) (rest (inner qs)) n d t g h.1 in
        let c : Suits z (rest (rest (inner ps))) (rest (rest (inner qs))) n d t = expr_complete z (rest (rest (inner ps))) (rest (rest (inner qs))) n d t g h.2 in
        let truth : wanted (is_of scalar.Bool) (verdict catalog given x (sorted d)) ≡ Has BOOL = ap (λ (v : Verdict). wanted (is_of scalar.Bool) v) a.2 in
        let is : choice_verdict (verdict catalog given x (sorted d)) (verdict catalog given y (sorted d)) (verdict catalog given z (sorted d)) ≡ Has t = (λ i. choice_verdict (a.2 i) (b.2 i) (c.2 i)) ∙ case_complete t in (
          none_of_both _ _ a.0 (none_of_both _ _ b.0 c.0),
          none_of_both _ _ (none_of_both _ _ a.1 (none_fails _ BOOL (start (inner qs)) truth)) (none_of_both _ _ b.1 (none_of_both _ _ c.1 (none_fails _ t (start qs) is))),
          is,
        )
    expr_complete (e.Cast' _ (more_of-SqlExpr x end_of-SqlExpr) u) ps qs n d t g h =
        let a : Suits x (inner ps) (inner qs) n d (ty.Scalar h.0) = expr_complete x (inner ps) (inner qs) n d _ g h.2 in
        let is : over (verdict catalog given x (sorted d)) (λ b. cast_verdict b u) ≡ Has t = ap (λ (v : Verdict). over v (λ b. cast_verdict b u)) a.2 ∙ cast_complete (ty.Scalar h.0) u t (h.0, h.1, refl, h.3, h.4, h.5) in
        (a.0, none_of_both _ _ a.1 (none_fails _ t (start qs) is), is)
    expr_complete (e.Unary' operator _ (more_of-SqlExpr x end_of-SqlExpr)) ps qs n d t g h =
        let a : Suits x (inner ps) (inner qs) n d h.0 = expr_complete x (inner ps) (inner qs) n d h.0 g h.1 in
        let is : over (verdict catalog given x (sorted d)) (λ b. unary_verdict operator b) ≡ Has t = ap (λ (v : Verdict). over v (λ b. unary_verdict operator b)) a.2 ∙ unary_complete operator h.0 t h.2 in
        (a.0, none_of_both _ _ a.1 (none_fails _ t (start qs) is), is)
    expr_complete (e.Binary' operator _ (more_of-SqlExpr x end_of-SqlExpr) _ (more_of-SqlExpr y end_of-SqlExpr)) ps qs n d t g h =
        let a : Suits x (inner ps) (inner qs) n d h.0 = expr_complete x (inner ps) (inner qs) n d h.0 g h.2 in
        let b : Suits y (rest (inner ps)) (rest (inner qs)) n d h.1 = expr_complete y (rest (inner ps)) (rest (inner qs)) n d h.1 g h.3 in
        let is : over (verdict catalog given x (sorted d)) (λ l. over (verdict catalog given y (sorted d)) (λ r. binary_verdict operator l r)) ≡ Has t =
        (λ i. over (a.2 i) (λ l. over (b.2 i) (λ r. binary_verdict operator l r))) ∙ binary_complete operator h.0 h.1 t h.4 in
        (none_of_both _ _ a.0 b.0, none_of_both _ _ a.1 (none_of_both _ _ b.1 (none_fails _ t (start qs) is)), is)
    expr_complete (e.Call' called _ (more_of-SqlExpr x end_of-SqlExpr)) ps qs n d t g h =
        let a : Suits x (inner ps) (inner qs) n d h.0 = expr_complete x (inner ps) (inner qs) n d h.0 g h.1 in
        let is : over (verdict catalog given x (sorted d)) (λ b. function_verdict called b) ≡ Has t = ap (λ (v : Verdict). over v (λ b. function_verdict called b)) a.2 ∙ function_complete called h.0 t h.2 in
        (a.0, none_of_both _ _ a.1 (none_fails _ t (start qs) is), is)

    exprs_complete : {m : _} → (xs : Row_of-SqlExpr m) (ps qs : List Places) (n : Scope) (d : formed.Scope) (ts : List SqlTy) → Gives catalog n d → HaveTypes catalog given xs d ts → AllSuit xs ps qs n d ts
    exprs_complete end_of-SqlExpr ps qs n d ts g h = (refl, refl, ap (λ (l : List SqlTy). Some l) (sym h))
    exprs_complete (more_of-SqlExpr first more) ps qs n d ts g h =
        let a : Suits first ps qs n d h.0 = expr_complete first ps qs n d h.0 g h.3 in
        let b : AllSuit more (rest ps) (rest qs) n d h.1 = exprs_complete more (rest ps) (rest qs) n d h.1 g h.4 in
        (none_of_both _ _ a.0 b.0, none_of_both _ _ a.1 b.1, (λ i. with_first (type_in (a.2 i)) (b.2 i)) ∙ ap (λ (l : List SqlTy). Some l) (sym h.2))

    cores_complete : {m : _} → (xs : Row_of-Core m) (ps qs : List Places) (n : Scope) (d : formed.Scope) (cs : List Typed) → Gives catalog n d → HasColumns catalog given xs d cs → SelectSuits xs ps qs n d cs
    cores_complete end_of-Core ps qs n d cs g h = absurd h
    cores_complete (more_of-Core core more) ps qs n d cs g h =
        let a : CoreSuits core ps qs n d cs = core_complete core ps qs n d cs g h.0 in
        let b : LikeSuits more cs (rest ps) (rest qs) n d = like_complete more (rest ps) (rest qs) n d cs g h.1 in
        (none_of_both _ _ a.0 b.0, none_of_both _ _ a.1 (subst (λ (l : List Sort). types_in_further catalog given more l (rest qs) (sorted d) ≡ []) (sym a.2) b.1), a.2, a.3)

    like_complete : {m : _} → (xs : Row_of-Core m) (ps qs : List Places) (n : Scope) (d : formed.Scope) (fs : List Typed) → Gives catalog n d → AreLike catalog given xs d (types_of fs) → LikeSuits xs fs ps qs n d
    like_complete end_of-Core ps qs n d fs g h = (refl, refl)
    like_complete (more_of-Core core more) ps qs n d fs g h =
        let a : CoreSuits core ps qs n d h.0 = core_complete core ps qs n d h.0 g h.1 in
        let equal : unless_alike (alike (sorts_of fs) (core_sorts catalog given core (sorted d))) (start qs) ≡ [] = ap (λ (l : List Sort). unless_alike (alike (sorts_of fs) l) (start qs)) a.2 ∙ ap (λ (b : Bool). unless_alike b (start qs)) (types_like fs h.0 h.2) in
        let b : LikeSuits more fs (rest ps) (rest qs) n d = like_complete more (rest ps) (rest qs) n d fs g h.3 in
        (none_of_both _ _ a.0 b.0, none_of_both _ _ a.1 (none_of_both _ _ equal b.1))

    core_complete : (x : Core) (ps qs : List Places) (n : Scope) (d : formed.Scope) (cs : List Typed) → Gives catalog n d → CoreHas catalog given x d cs → CoreSuits x ps qs n d cs
    core_complete (c.All' s1 columns s2 items condition s3 keys offset limit) ps qs n d cs g h =
        let from : ItemsSuit items [] (at_items columns ps) (at_items columns qs) n n d h.0 = items_complete items [] [] (at_items columns ps) (at_items columns qs) n n d h.0 refl no_aliases g h.1 in
        let a : ColumnsSuit columns [] (inner ps) (inner qs) (inside items n) h.0 cs = columns_complete columns [] (inner ps) (inner qs) (inside items n) h.0 cs from.2 (λ name there. refl) h.4 h.2 in
        let b : HeldSuits condition (is_of scalar.Bool) (at_condition columns items ps) (at_condition columns items qs) (inside items n) h.0 = condition_complete condition (at_condition columns items ps) (at_condition columns items qs) (inside items n) h.0 from.2 h.5 in
        let order : KeysSuit keys (at_keys columns items condition ps) (at_keys columns items condition qs) (inside items n) h.0 = keys_complete keys (at_keys columns items condition ps) (at_keys columns items condition qs) (inside items n) h.0 from.2 h.6 in
        let low : HeldSuits offset (is_of scalar.Int64) (at_offset columns items condition keys ps) (at_offset columns items condition keys qs) n d = bound_complete offset (at_offset columns items condition keys ps) (at_offset columns items condition keys qs) n d g h.7 in
        let high : HeldSuits limit (is_of scalar.Int64) (at_limit columns items condition keys offset ps) (at_limit columns items condition keys offset qs) n d = bound_complete limit (at_limit columns items condition keys offset ps) (at_limit columns items condition keys offset qs) n d g h.8 in (
          six_none _ _ _ _ _ _ (a.0, from.0, b.0, order.0, low.0, high.0),
          six_none _ _ _ _ _ _ (
            from.1,
            subst (λ (z : Sorts). types_in_columns catalog given columns (inner qs) z ≡ []) (sym from.3) a.1,
            subst (λ (z : Sorts). types_in_option catalog given condition (is_of scalar.Bool) (at_condition columns items qs) z ≡ []) (sym from.3) b.1,
            subst (λ (z : Sorts). types_in_keys catalog given keys (at_keys columns items condition qs) z ≡ []) (sym from.3) order.1,
            low.1,
            high.1,
          ),
          ap (λ (z : Sorts). column_sorts catalog given columns z) from.3 ∙ a.2,
          a.3,
        )
    core_complete (c.Distinct' s1 columns s2 items condition s3 keys offset limit) ps qs n d cs g h =
        let from : ItemsSuit items [] (at_items columns ps) (at_items columns qs) n n d h.0 = items_complete items [] [] (at_items columns ps) (at_items columns qs) n n d h.0 refl no_aliases g h.1 in
        let a : ColumnsSuit columns [] (inner ps) (inner qs) (inside items n) h.0 cs = columns_complete columns [] (inner ps) (inner qs) (inside items n) h.0 cs from.2 (λ name there. refl) h.4 h.2 in
        let b : HeldSuits condition (is_of scalar.Bool) (at_condition columns items ps) (at_condition columns items qs) (inside items n) h.0 = condition_complete condition (at_condition columns items ps) (at_condition columns items qs) (inside items n) h.0 from.2 h.5 in
        let order : KeysSuit keys (at_keys columns items condition ps) (at_keys columns items condition qs) (inside items n) h.0 = keys_complete keys (at_keys columns items condition ps) (at_keys columns items condition qs) (inside items n) h.0 from.2 h.6 in
        let low : HeldSuits offset (is_of scalar.Int64) (at_offset columns items condition keys ps) (at_offset columns items condition keys qs) n d = bound_complete offset (at_offset columns items condition keys ps) (at_offset columns items condition keys qs) n d g h.7 in
        let high : HeldSuits limit (is_of scalar.Int64) (at_limit columns items condition keys offset ps) (at_limit columns items condition keys offset qs) n d = bound_complete limit (at_limit columns items condition keys offset ps) (at_limit columns items condition keys offset qs) n d g h.8 in (
          six_none _ _ _ _ _ _ (a.0, from.0, b.0, order.0, low.0, high.0),
          six_none _ _ _ _ _ _ (
            from.1,
            subst (λ (z : Sorts). types_in_columns catalog given columns (inner qs) z ≡ []) (sym from.3) a.1,
            subst (λ (z : Sorts). types_in_option catalog given condition (is_of scalar.Bool) (at_condition columns items qs) z ≡ []) (sym from.3) b.1,
            subst (λ (z : Sorts). types_in_keys catalog given keys (at_keys columns items condition qs) z ≡ []) (sym from.3) order.1,
            low.1,
            high.1,
          ),
          ap (λ (z : Sorts). column_sorts catalog given columns z) from.3 ∙ a.2,
          a.3,
        )

    columns_complete : {m : _} → (xs : Row_of-Column m) (before : List Name) (ps qs : List Places) (n : Scope) (d : formed.Scope) (cs : List Typed) → Gives catalog n d → AreNew before (names_of cs) → AreApart (names_of cs) → ColumnsHave catalog given xs d cs → ColumnsSuit xs before ps qs n d cs
    columns_complete end_of-Column before ps qs n d cs g new apart h = (refl, refl, ap sorts_of (sym h), λ name. ap (λ (l : List Typed). is_there (type_under name l)) (sym h))
    columns_complete (more_of-Column value name more) before ps qs n d cs g new apart h =
        let first : Typed = record { name = name; ty = h.0 } in
        let all : AreNew before (name ∷ names_of h.1) = subst (λ (l : List Typed). AreNew before (names_of l)) h.2 new in
        let others : AreApart (name ∷ names_of h.1) = subst (λ (l : List Typed). AreApart (names_of l)) h.2 apart in
        let a : Suits value (inner ps) (inner qs) n d h.0 = expr_complete value (inner ps) (inner qs) n d h.0 g h.4 in
        let b : ColumnsSuit more (before ++ name ∷ []) (rest ps) (rest qs) n d h.1 = columns_complete more (before ++ name ∷ []) (rest ps) (rest qs) n d h.1 g (new_rest before name (names_of h.1) all others.0) others.1 h.5 in
        let fresh : unless (not (is_among name before)) (start ps) ≡ [] = ap (λ (x : Bool). unless (not x) (start ps)) (all name (is_first name (names_of h.1))) in (
          none_of_both _ _ a.0 (none_of_both _ _ fresh b.0),
          none_of_both _ _ a.1 b.1,
          (λ i. record { name = name; ty = type_in (a.2 i) } ∷ b.2 i) ∙ ap sorts_of (sym h.2),
          λ other. column_gives name other h.0 (gives_column other more) h.1 (b.3 other) ∙ ap (λ (l : List Typed). is_there (type_under other l)) (sym h.2),
        )

    items_complete : {m : _} → (xs : Row_of-FromItem m) (names : List Name) (before : List FromItem) (ps qs : List Places) (outer n : Scope) (d into : formed.Scope) → with_items before outer ≡ n → AreAliases names before → Gives catalog n d
        → HaveAliases catalog given xs names d into → ItemsSuit xs before ps qs outer n d into
    items_complete end_of-FromItem names before ps qs outer n d into w are g h = (refl, refl, subst (λ (z : formed.Scope). Gives catalog n z) (sym h) g, ap sorted (sym h))
    items_complete (more_of-FromItem first more) names before ps qs outer n d into w are g h =
        let a : ItemSuits first ps qs n d h.0 = item_complete first names ps qs n d h.0 g h.1 in
        let entry : TableShape = record { name = alias_of first; columns = h.0 } in
        let fresh : unless (not (has_alias (alias_of first) before)) (start ps) ≡ [] = ap (λ (x : Bool). unless (not x) (start ps)) (alias_is_new names before (alias_of first) are h.3) in
        let scope : ◌≡◌ {A = Sorts} (record { alias = alias_of first; columns = item_sorts catalog given first (sorted d) } ∷ sorted d) (sorted (entry ∷ d)) = λ i. record { alias = alias_of first; columns = a.2 i } ∷ sorted d in
        let b : ItemsSuit more (before ++ first ∷ []) (rest ps) (rest qs) outer (first ∷ n) (entry ∷ d) into =
        items_complete more (alias_of first ∷ names) (before ++ first ∷ []) (rest ps) (rest qs) outer (first ∷ n) (entry ∷ d) into (with_more before first outer ∙ ap (λ (z : Scope). first ∷ z) w) (one_alias names before first are) (refl, a.3, g) h.4 in (
          none_of_both _ _ (subst (λ (z : Scope). names_in_item catalog first ps z ≡ []) (sym w) a.0) (none_of_both _ _ fresh b.0),
          none_of_both _ _ a.1 (subst (λ (z : Sorts). types_in_items catalog given more (rest qs) z ≡ []) (sym scope) b.1),
          b.2,
          ap (λ (z : Sorts). within catalog given more z) scope ∙ b.3,
        )

    item_complete : (x : FromItem) (names : List Name) (ps qs : List Places) (n : Scope) (d : formed.Scope) (cs : List Typed) → Gives catalog n d → ItemHas catalog given x names d cs → ItemSuits x ps qs n d cs
    item_complete (f.Table name alias) names ps qs n d cs g h =
        (ap (λ (o : Option (List Typed)). unless (is_there o) (start (inner ps))) h.1, refl, ap table_sorts h.1, λ column. ap (λ (o : Option (List Typed)). is_listed column o) h.1)
    item_complete (f.Lateral' _ cores alias) names ps qs n d cs g h =
        let a : SelectSuits cores (inner (inner ps)) (inner (inner qs)) n d cs = cores_complete cores (inner (inner ps)) (inner (inner qs)) n d cs g h in
        a
    item_complete (f.LeftLateral' _ cores alias) names ps qs n d cs g h =
        let a : SelectSuits cores (inner (inner ps)) (inner (inner qs)) n d cs = cores_complete cores (inner (inner ps)) (inner (inner qs)) n d cs g h.1 in
        a
    item_complete (f.Unnest array alias) names ps qs n d cs g h =
        let a : Suits array (inner ps) (inner qs) n d (ty.Array h.0) = expr_complete array (inner ps) (inner qs) n d _ g h.1 in (
          a.0,
          none_of_both _ _ a.1 (ap (λ (v : Verdict). failing (wanted is_array v) (start (inner qs))) a.2),
          ap (λ (v : Verdict). element_sort (element_in (type_in v))) a.2 ∙ ap element_sort (element_array h.0) ∙ ap sorts_of (sym h.2),
          λ name. element_gives name h.0 ∙ ap (λ (l : List Typed). is_there (type_under name l)) (sym h.2),
        )

    keys_complete : {m : _} → (xs : Row_of-Key m) (ps qs : List Places) (n : Scope) (d : formed.Scope) → Gives catalog n d → AreKeys catalog given xs d → KeysSuit xs ps qs n d
    keys_complete end_of-Key ps qs n d g h = (refl, refl)
    keys_complete (more_of-Key first more) ps qs n d g h =
        let a : KeySuits first ps qs n d = key_complete first ps qs n d g h.0 in
        let b : KeysSuit more (rest ps) (rest qs) n d = keys_complete more (rest ps) (rest qs) n d g h.1 in
        (none_of_both _ _ a.0 b.0, none_of_both _ _ a.1 b.1)

    key_complete : (x : Key) (ps qs : List Places) (n : Scope) (d : formed.Scope) → Gives catalog n d → IsKey catalog given x d → KeySuits x ps qs n d
    key_complete (k.Ascending value nulls) ps qs n d g h =
        let a : Suits value ps qs n d h.0 = expr_complete value ps qs n d h.0 g h.2 in
        (a.0, none_of_both _ _ a.1 (ap (λ (v : Verdict). failing (wanted is_scalar v) (start qs)) a.2 ∙ scalar_suits h.0 (start qs) h.1))
    key_complete (k.Descending value nulls) ps qs n d g h =
        let a : Suits value ps qs n d h.0 = expr_complete value ps qs n d h.0 g h.2 in
        (a.0, none_of_both _ _ a.1 (ap (λ (v : Verdict). failing (wanted is_scalar v) (start qs)) a.2 ∙ scalar_suits h.0 (start qs) h.1))

    condition_complete : (x : Held-Body-condition) (ps qs : List Places) (n : Scope) (d : formed.Scope) → Gives catalog n d → IsCondition catalog given x d → HeldSuits x (is_of scalar.Bool) ps qs n d
    condition_complete None' ps qs n d g h = (refl, refl)
    condition_complete (Some' _ (more_of-SqlExpr x end_of-SqlExpr)) ps qs n d g h =
        let a : Suits x ps qs n d BOOL = expr_complete x ps qs n d BOOL g h in
        (a.0, none_of_both _ _ a.1 (ap (λ (v : Verdict). failing (wanted (is_of scalar.Bool) v) (start qs)) a.2))

    bound_complete : (x : Held-Body-condition) (ps qs : List Places) (n : Scope) (d : formed.Scope) → Gives catalog n d → IsBound catalog given x d → HeldSuits x (is_of scalar.Int64) ps qs n d
    bound_complete None' ps qs n d g h = (refl, refl)
    bound_complete (Some' _ (more_of-SqlExpr x end_of-SqlExpr)) ps qs n d g h =
        let a : Suits x ps qs n d INT = expr_complete x ps qs n d INT g h in
        (a.0, none_of_both _ _ a.1 (ap (λ (v : Verdict). failing (wanted (is_of scalar.Int64) v) (start qs)) a.2))

  -- ---- the cores of a statement

  all_complete : (xs : List Core) (fs : List Typed) (ps qs : List Places) → AreAllLike catalog given xs [] (types_of fs) → (names_in_list catalog xs ps [] ≡ []) × (types_in_further_list catalog given xs (sorts_of fs) qs [] ≡ [])
  all_complete [] fs ps qs h = (refl, refl)
  all_complete (core ∷ more) fs ps qs h =
      let a : CoreSuits core ps qs [] [] h.0 = core_complete core ps qs [] [] h.0 tt h.1 in
      let equal : unless_alike (alike (sorts_of fs) (core_sorts catalog given core [])) (start qs) ≡ [] = ap (λ (l : List Sort). unless_alike (alike (sorts_of fs) l) (start qs)) a.2 ∙ ap (λ (b : Bool). unless_alike b (start qs)) (types_like fs h.0 h.2) in
      let b : (names_in_list catalog more (rest ps) [] ≡ []) × (types_in_further_list catalog given more (sorts_of fs) (rest qs) [] ≡ []) = all_complete more fs (rest ps) (rest qs) h.3 in
      (none_of_both _ _ a.0 b.0, none_of_both _ _ a.1 (none_of_both _ _ equal b.1))

  select_complete : (xs : List Core) (cs : List Typed) (ps qs : List Places) → SelectHas catalog given xs [] cs → (names_in_list catalog xs ps [] ≡ []) × (types_in_list catalog given xs qs [] ≡ [])
  select_complete [] cs ps qs h = absurd h
  select_complete (core ∷ more) cs ps qs h =
      let a : CoreSuits core ps qs [] [] cs = core_complete core ps qs [] [] cs tt h.0 in
      let b : (names_in_list catalog more (rest ps) [] ≡ []) × (types_in_further_list catalog given more (sorts_of cs) (rest qs) [] ≡ []) = all_complete more cs (rest ps) (rest qs) h.1 in
      (none_of_both _ _ a.0 b.0, none_of_both _ _ a.1 (subst (λ (l : List Sort). types_in_further_list catalog given more l (rest qs) [] ≡ []) (sym a.2) b.1))

pub complete : (catalog : Catalog) (s : Stmt) (place : Places) → IsWellFormed catalog s → HasNoFault catalog s place
complete catalog s place h =
    let none : (names_in_list catalog s.select.cores (parts_of place) [] ≡ []) × (types_in_list catalog (args_of s) s.select.cores (parts_of place) [] ≡ []) =
    select_complete catalog (args_of s) s.select.cores h.columns (parts_of place) (parts_of place) h.typed in
    record { names = none.0; types = none.1 }
