-- A well-formed statement has a form of the grammar, and all of its tokens can be written.
use Rattle.std.proofs.Common.{◌≡◌, ◌==◌, ℕ, ℤ, pos, negsuc, suc, ◌≤ℤ◌, Bool, true, false, not, ◌&&◌, List, [], ◌∷◌, ◌++◌, refl, ap, ◌∙◌, subst, arith, inl}
use Rattle.std.specs.List.{Contains, list_all}
use Rattle.std.specs.Str.{IsUtf8}
use Rattle.std.proofs.lemmas.Bool.{eqb-true}
use Rattle.std.proofs.lemmas.List.Elements.{Contains-append_right}
use Rattle.std.proofs.lemmas.Str.{IsUtf8-from_ascii}
use Rattle.std.proofs.lemmas.Int.{ints}
use Rattle.std.specs.Int.{w128, to_be_bytes}
use Rattle.uuid.specs.Text.{lower}
use Rattle.uuid.proofs.TextLemmas.{hyphenated_ascii}
use Rattle.ev_value.specs.JsonText.{id_text}
use Rattle.sql_lex.specs.Byte.{is_in_name}
use Rattle.sql_lex.specs.Token.{IsName as CanBeQuoted}
use Rattle.sql_lex.specs.declared.token.TokenKind.TheVariants as kind
use Rattle.sql_ast.specs.declared.ty.SqlTy as t
use Rattle.sql_ast.specs.declared.ty.SqlTy.{SqlTy, Row_of-SqlTy, end_of-SqlTy, more_of-SqlTy}
use Rattle.sql_print.specs.Promise.{IsWritable, AreWritable}
use Rattle.sql_lex.specs.declared.keyword.Keyword.TheVariants as keyword
use Rattle.sql_lex.specs.declared.token.Sign.TheVariants as sign
use Rattle.sql_ast.specs.declared.catalog.Catalog.{Catalog}
use Rattle.sql_ast.specs.declared.catalog.Typed.{Typed}
use Rattle.sql_ast.specs.declared.expression.UnaryOp.{UnaryOp}
use Rattle.sql_ast.specs.declared.expression.UnaryOp.TheVariants as unary
use Rattle.sql_ast.specs.declared.expression.BinaryOp.{BinaryOp}
use Rattle.sql_ast.specs.declared.expression.BinaryOp.TheVariants as op
use Rattle.sql_ast.specs.declared.expression.SqlExpr as e
use Rattle.sql_ast.specs.declared.expression.SqlExpr.{SqlExpr, Row_of-SqlExpr, end_of-SqlExpr, more_of-SqlExpr, Row_of-Core, end_of-Core, more_of-Core}
use Rattle.sql_ast.specs.declared.select.Core as c
use Rattle.sql_ast.specs.declared.select.Core.{Core, Row_of-Column, end_of-Column, more_of-Column, Row_of-FromItem, end_of-FromItem, more_of-FromItem, Row_of-Key, end_of-Key, more_of-Key, Held-Body-condition, None', Some'}
use Rattle.sql_ast.specs.declared.select.FromItem as f
use Rattle.sql_ast.specs.declared.select.FromItem.{FromItem}
use Rattle.sql_ast.specs.declared.select.Key as k
use Rattle.sql_ast.specs.declared.select.Key.{Key}
use Rattle.sql_ast.specs.declared.select.Stmt.{Stmt}
use Rattle.sql_ast.specs.Params.{args_of}
use Rattle.sql_ast.specs.WellFormed.{IsName, Scope, Name, IsNotEmpty, IsWellFormed, HasType, HaveTypes, HasColumns, AreLike, CoreHas, HaveAliases, ItemHas, ColumnsHave, AreKeys, IsKey, IsCondition, IsBound, AreAllLike, SelectHas, alias_of}
use Rattle.sql_print.specs.Marks.{Tokens, held, is_loose, left_level, operand_level, before, behind, mark_of}
use Rattle.sql_print.specs.Lists.{listed_cores, tokens_of}
use Rattle.sql_print.specs.Printed.{tokens_of_ty, tokens_of_types, further_types, tokens_of_expr, tokens_of_exprs, further_exprs, tokens_of_cores, further_cores, tokens_of_core, tokens_of_columns, further_columns, tokens_of_from, tokens_of_item, further_items, comma_before, tokens_of_condition, tokens_of_keys, further_keys, tokens_of_key, tokens_of_offset, tokens_of_limit}
use Rattle.sql_spell.specs.Form.{BeginsFrom, HasForm, HaveForm, CoresHaveForm, FurtherHaveForm, CoreHasForm, ColumnsHaveForm, FurtherColumnsHaveForm, FromHasForm, ItemsHaveForm, ItemHasForm, KeysHaveForm, KeyHasForm, HeldHasForm, AllHaveForm, StatementHasForm}
use Rattle.sql_spell.specs.Machine.{FitsInt, Fits, ExprsFit, CoresFit, CoreFits, ColumnsFit, ItemsFit, ItemFits, KeysFit, KeyFits, HeldFits, AllFit, StatementFits}

pub both : (ks js : Tokens) → AreWritable ks → AreWritable js → AreWritable (ks ++ js)
both [] js a b = b
both (k ∷ ks) js a b = (a.0, both ks js a.1 b)

pick : {A : Type 0} (b : Bool) → (b ≡ true → A) → (b ≡ false → A) → A
pick true yes_case no_case = yes_case refl
pick false yes_case no_case = no_case refl

quoteless : (name : List ℕ) → (Contains name 34 → ⊥) → list_all is_in_name name ≡ true
quoteless [] none = refl
quoteless (b ∷ more) none =
    pick (b == 34) (λ same. absurd (none (0, omega arith, eqb-true b 34 same)))
    (λ other. ap (λ (x : Bool). not x && list_all is_in_name more) other ∙ quoteless more (λ found. none (Contains-append_right (b ∷ []) more 34 found)))

pub name_good : (name : List ℕ) → IsName name → IsUtf8 name → CanBeQuoted name
name_good name is text = (is.0, quoteless name is.1, text)

pub int_good : (z : ℤ) → pos 0 ≤ℤ z → FitsInt z → IsWritable (kind.Int z)
int_good (pos n) low high = (n, refl, high n refl)
int_good (negsuc n) low high = absurd (omega (arith, ints))

pub id_good : (n : ℕ) → IsUtf8 (id_text n)
id_good n = IsUtf8-from_ascii _ (hyphenated_ascii lower (to_be_bytes w128 n) (inl refl))

pub held_good : (b : Bool) (ks : Tokens) → AreWritable ks → AreWritable (held b ks)
held_good true ks a = (tt, both ks _ a (tt, tt))
held_good false ks a = both ks [] a tt

mutual
  unfolding tokens_of_ty

  pub type_good : (t : SqlTy) → AreWritable (tokens_of_ty t)
  type_good (t.Scalar s) = (tt, tt)
  type_good (t.Row' s parts) = (tt, (tt, both (tokens_of_types parts) _ (types_good parts) (tt, tt)))
  type_good (t.Array' s (more_of-SqlTy element end_of-SqlTy)) = (tt, (tt, both (tokens_of_ty element) _ (type_good element) (tt, tt)))

  types_good : {m : _} → (parts : Row_of-SqlTy m) → AreWritable (tokens_of_types parts)
  types_good end_of-SqlTy = tt
  types_good (more_of-SqlTy first more) = both (tokens_of_ty first) (further_types more) (type_good first) (further_good more)

  further_good : {m : _} → (more : Row_of-SqlTy m) → AreWritable (further_types more)
  further_good end_of-SqlTy = tt
  further_good (more_of-SqlTy first more) = (tt, both (tokens_of_ty first) (further_types more) (type_good first) (further_good more))

before_good : (o : UnaryOp) → AreWritable (before o)
before_good unary.Neg = (tt, tt)
before_good unary.Not = (tt, tt)
before_good unary.IsNull = tt
before_good unary.IsNotNull = tt

behind_good : (o : UnaryOp) → AreWritable (behind o)
behind_good unary.Neg = tt
behind_good unary.Not = tt
behind_good unary.IsNull = (tt, (tt, tt))
behind_good unary.IsNotNull = (tt, (tt, (tt, tt)))

mark_good : (o : BinaryOp) → IsWritable (mark_of o)
mark_good op.Or = tt
mark_good op.And = tt
mark_good op.Eq = tt
mark_good op.Ne = tt
mark_good op.Lt = tt
mark_good op.Le = tt
mark_good op.Gt = tt
mark_good op.Ge = tt
mark_good op.Add = tt
mark_good op.Sub = tt
mark_good op.Concat = tt
mark_good op.Mul = tt
mark_good op.FloorDiv = tt
mark_good op.Mod = tt

-- ---- what a type tells of an expression

module _ (catalog : Catalog) (params : List Typed) where
  mutual
    unfolding HasType HasForm tokens_of_expr Fits

    expr_good : (x : SqlExpr) (d : Scope) (t : SqlTy) → HasType catalog params x d t → Fits x → HasForm x × AreWritable (tokens_of_expr x)
    expr_good (e.Int z) d t h m = (tt, (int_good z h.0 m, tt))
    expr_good (e.Text text) d t h m = (tt, (m, tt))
    expr_good (e.Bool b) d t h m = (tt, (tt, tt))
    expr_good (e.Uuid n) d t h m = (m, (tt, (id_good n, tt)))
    expr_good (e.Null u) d t h m = (tt, (tt, (tt, type_good u)))
    expr_good (e.Column alias name) d t h m = (tt, (name_good alias h.0 m.0, (tt, (name_good name h.1 m.1, tt))))
    expr_good (e.Arg name u) d t h m = (tt, (tt, (tt, (m, (tt, both (tokens_of_ty u) _ (type_good u) (tt, tt))))))
    expr_good (e.Global name) d t h m = (tt, (tt, (tt, (m, (tt, tt)))))
    expr_good (e.Array' s cores) d t h m =
        let g : CoresHaveForm cores × AreWritable (tokens_of_cores cores) = cores_good cores d (h.0 ∷ []) h.1 m in
        (g.0, (tt, (tt, both (tokens_of_cores cores) _ g.1 (tt, tt))))
    expr_good (e.Row' s parts) d t h m =
        let g : HaveForm parts × AreWritable (tokens_of_exprs parts) × AreWritable (further_exprs parts) = exprs_good parts d h.0 h.1 m in
        (g.0, (tt, (tt, both (tokens_of_exprs parts) _ g.1 (tt, tt))))
    expr_good (e.Part' s (more_of-SqlExpr x end_of-SqlExpr) z) d t h m =
        let g : HasForm x × AreWritable (tokens_of_expr x) = expr_good x d _ h.2 m.0 in
        (g.0, (tt, (tt, both (tokens_of_expr x ++ kind.Sign sign.Comma ∷ kind.Int z ∷ []) _ (both (tokens_of_expr x) _ g.1 (tt, ((suc h.1, h.3, m.1 (suc h.1) h.3), tt))) (tt, tt))))
    expr_good (e.Case' s (more_of-SqlExpr x end_of-SqlExpr) u (more_of-SqlExpr y end_of-SqlExpr) v (more_of-SqlExpr z end_of-SqlExpr)) d t h m =
        let a : HasForm x × AreWritable (tokens_of_expr x) = expr_good x d _ h.0 m.0 in
        let b : HasForm y × AreWritable (tokens_of_expr y) = expr_good y d t h.1 m.1 in
        let c : HasForm z × AreWritable (tokens_of_expr z) = expr_good z d t h.2 m.2 in
        ((a.0, b.0, c.0), (tt, (tt, both (tokens_of_expr x) _ a.1 (tt, both (tokens_of_expr y) _ b.1 (tt, both (tokens_of_expr z) _ c.1 (tt, tt))))))
    expr_good (e.Cast' s (more_of-SqlExpr x end_of-SqlExpr) u) d t h m =
        let g : HasForm x × AreWritable (tokens_of_expr x) = expr_good x d _ h.2 m in
        (g.0, (tt, (tt, both (tokens_of_expr x ++ kind.Word keyword.As ∷ tokens_of_ty u) _ (both (tokens_of_expr x) _ g.1 (tt, type_good u)) (tt, tt))))
    expr_good (e.Unary' o s (more_of-SqlExpr x end_of-SqlExpr)) d t h m =
        let g : HasForm x × AreWritable (tokens_of_expr x) = expr_good x d h.0 h.1 m in
        (g.0, both (before o) _ (before_good o) (both (held (is_loose (operand_level o) x) (tokens_of_expr x)) (behind o) (held_good _ _ g.1) (behind_good o)))
    expr_good (e.Binary' o s (more_of-SqlExpr x end_of-SqlExpr) u (more_of-SqlExpr y end_of-SqlExpr)) d t h m =
        let a : HasForm x × AreWritable (tokens_of_expr x) = expr_good x d h.0 h.2 m.0 in
        let b : HasForm y × AreWritable (tokens_of_expr y) = expr_good y d h.1 h.3 m.1 in
        ((a.0, b.0), both (held (is_loose (left_level o) x) (tokens_of_expr x)) _ (held_good _ _ a.1) (mark_good o, held_good _ _ b.1))
    expr_good (e.Call' o s (more_of-SqlExpr x end_of-SqlExpr)) d t h m =
        let g : HasForm x × AreWritable (tokens_of_expr x) = expr_good x d h.0 h.1 m in
        (g.0, (tt, (tt, both (tokens_of_expr x) _ g.1 (tt, tt))))

    exprs_good : {m : _} → (xs : Row_of-SqlExpr m) (d : Scope) (ts : List SqlTy) → HaveTypes catalog params xs d ts → ExprsFit xs → HaveForm xs × AreWritable (tokens_of_exprs xs) × AreWritable (further_exprs xs)
    exprs_good end_of-SqlExpr d ts h m = (tt, tt, tt)
    exprs_good (more_of-SqlExpr first more) d ts h m =
        let a : HasForm first × AreWritable (tokens_of_expr first) = expr_good first d h.0 h.3 m.0 in
        let b : HaveForm more × AreWritable (tokens_of_exprs more) × AreWritable (further_exprs more) = exprs_good more d h.1 h.4 m.1 in
        ((a.0, b.0), both (tokens_of_expr first) _ a.1 b.2, (tt, both (tokens_of_expr first) _ a.1 b.2))

    cores_good : {m : _} → (xs : Row_of-Core m) (d : Scope) (cs : List Typed) → HasColumns catalog params xs d cs → CoresFit xs → CoresHaveForm xs × AreWritable (tokens_of_cores xs)
    cores_good end_of-Core d cs h m = absurd h
    cores_good (more_of-Core first more) d cs h m =
        let a : CoreHasForm first × AreWritable (tokens_of_core first) = core_good first d cs h.0 m.0 in
        let b : FurtherHaveForm more × AreWritable (further_cores more) = like_good more d _ h.1 m.1 in
        ((a.0, b.0), both (tokens_of_core first) _ a.1 b.1)

    like_good : {m : _} → (xs : Row_of-Core m) (d : Scope) (ts : List SqlTy) → AreLike catalog params xs d ts → CoresFit xs → FurtherHaveForm xs × AreWritable (further_cores xs)
    like_good end_of-Core d ts h m = (tt, tt)
    like_good (more_of-Core first more) d ts h m =
        let a : CoreHasForm first × AreWritable (tokens_of_core first) = core_good first d h.0 h.1 m.0 in
        let b : FurtherHaveForm more × AreWritable (further_cores more) = like_good more d ts h.3 m.1 in
        ((a.0, b.0), (tt, (tt, both (tokens_of_core first) _ a.1 b.1)))

    core_good : (x : Core) (d : Scope) (cs : List Typed) → CoreHas catalog params x d cs → CoreFits x → CoreHasForm x × AreWritable (tokens_of_core x)
    core_good (c.All' s1 columns s2 items condition s3 keys offset limit) d cs h m =
        let a : ColumnsHaveForm columns × AreWritable (tokens_of_columns columns) = columns_good columns h.0 cs h.3 h.2 m.0 in
        let b : FromHasForm items × AreWritable (tokens_of_from items) = from_good items d h.0 h.1 m.1 in
        let c : HeldHasForm condition × AreWritable (tokens_of_condition condition) = condition_good condition h.0 h.5 m.2 in
        let k : KeysHaveForm keys × AreWritable (tokens_of_keys keys) × AreWritable (further_keys keys) = keys_good keys h.0 h.6 m.3 in
        let o : HeldHasForm offset × AreWritable (tokens_of_offset offset) × AreWritable (tokens_of_limit offset) = bound_good offset d h.7 m.4 in
        let l : HeldHasForm limit × AreWritable (tokens_of_offset limit) × AreWritable (tokens_of_limit limit) = bound_good limit d h.8 m.5 in
        ((a.0, b.0, c.0, k.0, o.0, l.0), (tt, both (tokens_of_columns columns) _ a.1 (both (tokens_of_from items) _ b.1 (both (tokens_of_condition condition) _ c.1 (both (tokens_of_keys keys) _ k.1 (both (tokens_of_offset offset) _ o.1 l.2))))))
    core_good (c.Distinct' s1 columns s2 items condition s3 keys offset limit) d cs h m =
        let a : ColumnsHaveForm columns × AreWritable (tokens_of_columns columns) = columns_good columns h.0 cs h.3 h.2 m.0 in
        let b : FromHasForm items × AreWritable (tokens_of_from items) = from_good items d h.0 h.1 m.1 in
        let c : HeldHasForm condition × AreWritable (tokens_of_condition condition) = condition_good condition h.0 h.5 m.2 in
        let k : KeysHaveForm keys × AreWritable (tokens_of_keys keys) × AreWritable (further_keys keys) = keys_good keys h.0 h.6 m.3 in
        let o : HeldHasForm offset × AreWritable (tokens_of_offset offset) × AreWritable (tokens_of_limit offset) = bound_good offset d h.7 m.4 in
        let l : HeldHasForm limit × AreWritable (tokens_of_offset limit) × AreWritable (tokens_of_limit limit) = bound_good limit d h.8 m.5 in
        ((a.0, b.0, c.0, k.0, o.0, l.0), (tt, (tt, both (tokens_of_columns columns) _ a.1 (both (tokens_of_from items) _ b.1 (both (tokens_of_condition condition) _ c.1 (both (tokens_of_keys keys) _ k.1 (both (tokens_of_offset offset) _ o.1 l.2)))))))

    columns_good : {m : _} → (xs : Row_of-Column m) (d : Scope) (cs : List Typed) → IsNotEmpty cs → ColumnsHave catalog params xs d cs → ColumnsFit xs → ColumnsHaveForm xs × AreWritable (tokens_of_columns xs)
    columns_good end_of-Column d cs some h m = absurd (subst IsNotEmpty h some)
    columns_good (more_of-Column value name more) d cs some h m =
        let a : HasForm value × AreWritable (tokens_of_expr value) = expr_good value d h.0 h.4 m.0 in
        let b : FurtherColumnsHaveForm more × AreWritable (further_columns more) = columns_further more d h.1 h.5 m.2 in
        ((a.0, b.0), both (tokens_of_expr value) _ a.1 (tt, (name_good name h.3 m.1, b.1)))

    columns_further : {m : _} → (xs : Row_of-Column m) (d : Scope) (cs : List Typed) → ColumnsHave catalog params xs d cs → ColumnsFit xs → FurtherColumnsHaveForm xs × AreWritable (further_columns xs)
    columns_further end_of-Column d cs h m = (tt, tt)
    columns_further (more_of-Column value name more) d cs h m =
        let a : HasForm value × AreWritable (tokens_of_expr value) = expr_good value d h.0 h.4 m.0 in
        let b : FurtherColumnsHaveForm more × AreWritable (further_columns more) = columns_further more d h.1 h.5 m.2 in
        ((a.0, b.0), (tt, both (tokens_of_expr value) _ a.1 (tt, (name_good name h.3 m.1, b.1))))

    from_good : {m : _} → (xs : Row_of-FromItem m) (d inner : Scope) → HaveAliases catalog params xs [] d inner → ItemsFit xs → FromHasForm xs × AreWritable (tokens_of_from xs)
    from_good end_of-FromItem d inner h m = (tt, tt)
    from_good (more_of-FromItem first more) d inner h m =
        let a : ItemHasForm first × AreWritable (tokens_of_item first) = item_good first [] d h.0 h.1 h.2 m.0 in
        let b : ItemsHaveForm more × AreWritable (further_items more) = items_good more _ _ inner h.4 m.1 in
        ((begins_good first d h.0 h.1, a.0, b.0), (tt, both (tokens_of_item first) _ a.1 b.1))

    begins_good : (x : FromItem) (d : Scope) (cs : List Typed) → ItemHas catalog params x [] d cs → BeginsFrom x
    begins_good (f.Table name alias) d cs h = tt
    begins_good (f.Lateral' s cores alias) d cs h = tt
    begins_good (f.LeftLateral' s cores alias) d cs h = absurd h.0
    begins_good (f.Unnest source alias) d cs h = tt

    items_good : {m : _} → (xs : Row_of-FromItem m) (names : List Name) (d inner : Scope) → HaveAliases catalog params xs names d inner → ItemsFit xs → ItemsHaveForm xs × AreWritable (further_items xs)
    items_good end_of-FromItem names d inner h m = (tt, tt)
    items_good (more_of-FromItem first more) names d inner h m =
        let a : ItemHasForm first × AreWritable (tokens_of_item first) = item_good first names d h.0 h.1 h.2 m.0 in
        let b : ItemsHaveForm more × AreWritable (further_items more) = items_good more _ _ inner h.4 m.1 in
        ((a.0, b.0), both (comma_before first) _ (comma_good first) (both (tokens_of_item first) _ a.1 b.1))

    comma_good : (x : FromItem) → AreWritable (comma_before x)
    comma_good (f.Table name alias) = (tt, tt)
    comma_good (f.Lateral' s cores alias) = (tt, tt)
    comma_good (f.LeftLateral' s cores alias) = tt
    comma_good (f.Unnest source alias) = (tt, tt)

    item_good : (x : FromItem) (names : List Name) (d : Scope) (cs : List Typed) → ItemHas catalog params x names d cs → IsName (alias_of x) → ItemFits x → ItemHasForm x × AreWritable (tokens_of_item x)
    item_good (f.Table name alias) names d cs h is m = (tt, (name_good name h.0 m.0, (tt, (name_good alias is m.1, tt))))
    item_good (f.Lateral' s cores alias) names d cs h is m =
        let g : CoresHaveForm cores × AreWritable (tokens_of_cores cores) = cores_good cores d cs h m.0 in
        (g.0, (tt, both (kind.Sign sign.LeftParen ∷ (tokens_of_cores cores ++ kind.Sign sign.RightParen ∷ [])) _ (tt, both (tokens_of_cores cores) _ g.1 (tt, tt)) (tt, (name_good alias is m.1, tt))))
    item_good (f.LeftLateral' s cores alias) names d cs h is m =
        let g : CoresHaveForm cores × AreWritable (tokens_of_cores cores) = cores_good cores d cs h.1 m.0 in
        (g.0, (tt, (tt, (tt, both (kind.Sign sign.LeftParen ∷ (tokens_of_cores cores ++ kind.Sign sign.RightParen ∷ [])) _ (tt, both (tokens_of_cores cores) _ g.1 (tt, tt)) (tt, (name_good alias is m.1, (tt, (tt, tt))))))))
    item_good (f.Unnest source alias) names d cs h is m =
        let g : HasForm source × AreWritable (tokens_of_expr source) = expr_good source d _ h.1 m.0 in
        (g.0, (tt, both (kind.Sign sign.LeftParen ∷ (tokens_of_expr source ++ kind.Sign sign.RightParen ∷ [])) _ (tt, both (tokens_of_expr source) _ g.1 (tt, tt)) (tt, (name_good alias is m.1, tt))))

    keys_good : {m : _} → (xs : Row_of-Key m) (d : Scope) → AreKeys catalog params xs d → KeysFit xs → KeysHaveForm xs × AreWritable (tokens_of_keys xs) × AreWritable (further_keys xs)
    keys_good end_of-Key d h m = (tt, tt, tt)
    keys_good (more_of-Key first more) d h m =
        let a : KeyHasForm first × AreWritable (tokens_of_key first) = key_good first d h.0 m.0 in
        let b : KeysHaveForm more × AreWritable (tokens_of_keys more) × AreWritable (further_keys more) = keys_good more d h.1 m.1 in
        ((a.0, b.0), (tt, (tt, both (tokens_of_key first) _ a.1 b.2)), (tt, both (tokens_of_key first) _ a.1 b.2))

    key_good : (x : Key) (d : Scope) → IsKey catalog params x d → KeyFits x → KeyHasForm x × AreWritable (tokens_of_key x)
    key_good (k.Ascending value nulls) d h m =
        let g : HasForm value × AreWritable (tokens_of_expr value) = expr_good value d h.0 h.2 m in
        (g.0, both (tokens_of_expr value) _ g.1 (tt, (tt, (tt, tt))))
    key_good (k.Descending value nulls) d h m =
        let g : HasForm value × AreWritable (tokens_of_expr value) = expr_good value d h.0 h.2 m in
        (g.0, both (tokens_of_expr value) _ g.1 (tt, (tt, (tt, tt))))

    condition_good : (x : Held-Body-condition) (d : Scope) → IsCondition catalog params x d → HeldFits x → HeldHasForm x × AreWritable (tokens_of_condition x)
    condition_good None' d h m = (tt, tt)
    condition_good (Some' s (more_of-SqlExpr x end_of-SqlExpr)) d h m =
        let g : HasForm x × AreWritable (tokens_of_expr x) = expr_good x d _ h m in
        (g.0, (tt, g.1))

    bound_good : (x : Held-Body-condition) (d : Scope) → IsBound catalog params x d → HeldFits x → HeldHasForm x × AreWritable (tokens_of_offset x) × AreWritable (tokens_of_limit x)
    bound_good None' d h m = (tt, tt, tt)
    bound_good (Some' s (more_of-SqlExpr x end_of-SqlExpr)) d h m =
        let g : HasForm x × AreWritable (tokens_of_expr x) = expr_good x d _ h m in
        (g.0, (tt, g.1), (tt, g.1))

  all_good : (xs : List Core) (d : Scope) (ts : List SqlTy) → AreAllLike catalog params xs d ts → AllFit xs → AllHaveForm xs × AreWritable (listed_cores false xs)
  all_good [] d ts h m = (tt, tt)
  all_good (first ∷ more) d ts h m =
      let a : CoreHasForm first × AreWritable (tokens_of_core first) = core_good first d h.0 h.1 m.0 in
      let b : AllHaveForm more × AreWritable (listed_cores false more) = all_good more d ts h.3 m.1 in
      ((a.0, b.0), (tt, (tt, both (tokens_of_core first) _ a.1 b.1)))

  select_good : (xs : List Core) (cs : List Typed) → SelectHas catalog params xs [] cs → AllFit xs → StatementHasForm (record { select = record { cores = xs } }) × AreWritable (listed_cores true xs)
  select_good [] cs h m = absurd h
  select_good (first ∷ more) cs h m =
      let a : CoreHasForm first × AreWritable (tokens_of_core first) = core_good first [] cs h.0 m.0 in
      let b : AllHaveForm more × AreWritable (listed_cores false more) = all_good more [] _ h.1 m.1 in
      ((a.0, b.0), both (tokens_of_core first) _ a.1 b.1)

pub well_formed_good : (catalog : Catalog) (s : Stmt) → IsWellFormed catalog s → StatementFits s → StatementHasForm s × AreWritable (tokens_of s)
well_formed_good catalog s h m = select_good catalog (args_of s) s.select.cores h.columns h.typed m
