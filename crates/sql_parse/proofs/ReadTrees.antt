-- What a text spells is a statement as reading gives it, at most so high.
use Rattle.std.proofs.Common.{◌≡◌, ◌≤◌, ℕ, zero, suc, max, ltb, pos, ◌≤ℤ◌, Bool, true, false, List, [], ◌∷◌, ◌++◌, length, Option, Some, None, if◌then◌else◌, refl, ap, sym, ◌∙◌, subst, arith}
use Rattle.std.proofs.Math.Nat.{le-max_left, le-max_right}
use Rattle.std.proofs.lemmas.Bool.{ltb-false, ltb-true}
use Rattle.ev_value.specs.declared.value.ScalarTy.{ScalarTy}
use Rattle.ev_list.specs.declared.order.Absent.{Absent}
use Rattle.ev_list.specs.declared.order.Direction.{Direction}
use Rattle.ev_list.specs.declared.order.Direction.TheVariants as direction
use Rattle.exact.specs.Language.{Lang, One}
use Rattle.sql_lex.specs.declared.keyword.Keyword.{Keyword}
use Rattle.sql_lex.specs.declared.keyword.Keyword.TheVariants as keyword
use Rattle.sql_lex.specs.declared.token.Token.{Token}
use Rattle.sql_lex.specs.declared.token.TokenKind.{TokenKind}
use Rattle.sql_lex.specs.declared.token.TokenKind.TheVariants as kind
use Rattle.sql_ast.specs.declared.expression.BinaryOp.{BinaryOp}
use Rattle.sql_ast.specs.declared.expression.SqlExpr.{SqlExpr}
use Rattle.sql_ast.specs.declared.expression.SqlExpr.TheVariants as expr
use Rattle.sql_ast.specs.declared.expression.UnaryOp.{UnaryOp}
use Rattle.sql_ast.specs.declared.expression.UnaryOp.TheVariants as unary
use Rattle.sql_ast.specs.declared.select.Column.{Column}
use Rattle.sql_ast.specs.declared.select.Core.{Core}
use Rattle.sql_ast.specs.declared.select.FromItem.{FromItem}
use Rattle.sql_ast.specs.declared.select.Key.{Key}
use Rattle.sql_ast.specs.declared.ty.SqlTy.{SqlTy}
use Rattle.sql_ast.specs.declared.ty.SqlTy.TheVariants as ty
use Rattle.sql_ast.specs.Nesting.{type_height, expr_height}
use Rattle.sql_ast.specs.WellFormed.{IsName}
use Rattle.sql_grammar.specs.declared.grown.Name.{Name}
use Rattle.sql_grammar.specs.declared.grown.Bunch.{Bunch}
use Rattle.sql_grammar.specs.declared.grown.Cores.{Cores}
use Rattle.sql_grammar.specs.declared.grown.Grown.{Grown}
use Rattle.sql_grammar.specs.declared.grown.GrownColumn.{GrownColumn}
use Rattle.sql_grammar.specs.declared.grown.GrownCore.{GrownCore}
use Rattle.sql_grammar.specs.declared.grown.GrownItem.{GrownItem}
use Rattle.sql_grammar.specs.declared.grown.GrownKey.{GrownKey}
use Rattle.sql_grammar.specs.declared.grown.GrownSelect.{GrownSelect}
use Rattle.sql_grammar.specs.declared.grown.GrownTy.{GrownTy}
use Rattle.sql_grammar.specs.declared.grown.Types.{Types}
use Rattle.sql_grammar.specs.declared.limits.TheConstants.{MAX_HEIGHT, MAX_OPEN}
use Rattle.sql_grammar.specs.Grammar as g
use Rattle.sql_grammar.specs.Trees as t
use Rattle.sql_grammar.specs.Trees.{above, too_high}
use Rattle.sql_grammar.specs.Words.{class_of, class_of_kind, text_in, name_at, name_of, literal_at, literal_of}
use Rattle.sql_read.specs.Promise.{IsTextOf}
use Rattle.sql_check.specs.Spelled.{MayBegin, IsSpelled, StatementIsSpelled}
use Rattle.sql_parse.specs.Promise.{statement_of}
use Rattle.sql_parse.proofs.Built.{Each, each_push, IsSome, some_push, IsGood, IsGoodTy, IsGoodColumn, IsGoodItem, IsGoodKey, Begins, AreGood, IsGoodCore, IsGoodSelect, row_type, array_type, null_built, arg_built, array_built, row_built, part_built, case_built, cast_built, unary_built, binary_built, call_built, lateral_built, left_built, table_built, unnest_built, ascending_built, descending_built, all_built, distinct_built, cores_built}
use Rattle.sql_parse.proofs.Keeping.{IsSoundKind, cut_sound, Keeps, never_keeps, empty_keeps, one_keeps, then_keeps, behind_keeps, either_keeps, chain_keeps, weaken_keeps}

-- ---- heights

-- it holds of each bound on the height that is not too high
abbrev Under : ℕ → (ℕ → Type 0) → Type 0
Under height P = (h : ℕ) → height ≤ h → h ≤ MAX_HEIGHT → P h

left_under : (a b h : ℕ) → max a b ≤ h → a ≤ h
left_under a b h low = let l = le-max_left a b in omega (arith, l, low)

right_under : (a b h : ℕ) → max a b ≤ h → b ≤ h
right_under a b h low = let l = le-max_right a b in omega (arith, l, low)

above_low : (k h : ℕ) → above k ≤ h → h ≤ MAX_HEIGHT → suc k ≤ h
above_low k h low high = by_case (ltb MAX_HEIGHT k) refl low
  where
    by_case : (b : Bool) → ltb MAX_HEIGHT k ≡ b → (if b then k else suc k) ≤ h → suc k ≤ h
    by_case true is low = let over = ltb-true MAX_HEIGHT k is in absurd (omega (arith, over, low, high))
    by_case false is low = low

-- one node more
risen : (k : ℕ) (x : SqlExpr) (P : ℕ → Type 0) → Under k P → (P k → IsGood (suc k) x) → Under (above k) (λ h. IsGood h x)
risen k x P p f = λ h low high.
    let s : suc k ≤ h = above_low k h low high in
    let good : IsGood (suc k) x = f (p k (omega arith) (omega (arith, s, high))) in
    let tall = good.1 in
    (good.0, omega (arith, s, tall))

risen_type : (k : ℕ) (x : SqlTy) (P : ℕ → Type 0) → Under k P → (P k → IsGoodTy (suc k) x) → Under (above k) (λ h. IsGoodTy h x)
risen_type k x P p f = λ h low high.
    let s : suc k ≤ h = above_low k h low high in
    let tall : IsGoodTy (suc k) x = f (p k (omega arith) (omega (arith, s, high))) in
    omega (arith, s, tall)

risen_select : (k : ℕ) (cs : List Core) → Under k (λ h. IsSome cs × Each (IsGoodCore h) cs) → Under (above k) (λ h. IsGoodSelect h cs)
risen_select k cs p = λ h low high.
    let s : suc k ≤ h = above_low k h low high in
    let parts : IsSome cs × Each (IsGoodCore k) cs = p k (omega arith) (omega (arith, s, high)) in
    let good : IsGoodSelect (suc k) cs = cores_built k cs parts.0 parts.1 in
    let tall = good.1 in
    (good.0, omega (arith, s, tall))

-- ---- what is read, at most so high

abbrev GoodTy : GrownTy → Type 0
GoodTy x = Under x.height (λ h. IsGoodTy h x.ty)

abbrev GoodTypes : Types → Type 0
GoodTypes x = Under x.height (λ h. Each (IsGoodTy h) x.items)

abbrev GoodExpr : Grown → Type 0
GoodExpr x = Under x.height (λ h. IsGood h x.expr)

abbrev GoodBunch : Bunch → Type 0
GoodBunch x = Under x.height (λ h. Each (IsGood h) x.items)

abbrev GoodName : Name → Type 0
GoodName x = IsName x.text

abbrev GoodColumn : GrownColumn → Type 0
GoodColumn x = Under x.height (λ h. IsGoodColumn h x.column)

abbrev GoodItem : GrownItem → Type 0
GoodItem x = Under x.height (λ h. IsGoodItem h x.item)

-- one that may stand first
abbrev GoodFirst : GrownItem → Type 0
GoodFirst x = Under x.height (λ h. MayBegin x.item × IsGoodItem h x.item)

abbrev GoodKey : GrownKey → Type 0
GoodKey x = Under x.height (λ h. IsGoodKey h x.key)

abbrev GoodCore : GrownCore → Type 0
GoodCore x = Under x.height (λ h. AreGood h x.columns x.body)

abbrev GoodCores : Cores → Type 0
GoodCores x = Under x.height (λ h. IsSome x.cores × Each (IsGoodCore h) x.cores)

abbrev GoodSelect : GrownSelect → Type 0
GoodSelect x = Under x.height (λ h. IsGoodSelect h x.select.cores)

-- ---- single tokens

abbrev text_or : Option Name → List ℕ
text_or None = []
text_or (Some n) = n.text

name_good : (k : TokenKind) (s : ℕ) (n : Name) → IsSoundKind k → name_at (class_of_kind k) (text_in k) s ≡ Some n → GoodName n
name_good (kind.Word k) s n sound e = absurd (cc e)
name_good (kind.Name name) s n sound e = let same : name ≡ n.text = ap (λ (o : Option Name). text_or o) e in subst (λ (m : List ℕ). IsName m) same sound
name_good (kind.Int z) s n sound e = absurd (cc e)
name_good (kind.Str text) s n sound e = absurd (cc e)
name_good (kind.Sign x) s n sound e = absurd (cc e)

name_keeps : Keeps (One name_of) GoodName
unfolding class_of
name_keeps = one_keeps (λ x a sound e. name_good x.kind x.start a sound e)

leaf_good : (s : ℕ) (x : SqlExpr) → IsSpelled x → expr_height x ≡ 1 → GoodExpr (t.leaf s x)
leaf_good s x spelled e = λ h low high. (spelled, subst (λ n. n ≤ h) (sym e) low)

int_good : (s : ℕ) (z : _) → pos 0 ≤ℤ z → GoodExpr (t.leaf s (expr.Int z))
unfolding IsSpelled expr_height
int_good s z low = leaf_good s (expr.Int z) low refl

text_good : (s : ℕ) (text : List ℕ) → GoodExpr (t.leaf s (expr.Text text))
unfolding IsSpelled expr_height
text_good s text = leaf_good s (expr.Text text) tt refl

bool_good : (s : ℕ) (b : Bool) → GoodExpr (t.leaf s (expr.Bool b))
unfolding IsSpelled expr_height
bool_good s b = leaf_good s (expr.Bool b) tt refl

uuid_good : (s id : ℕ) → GoodExpr (t.uuid s id)
unfolding IsSpelled expr_height
uuid_good s id = leaf_good s (expr.Uuid id) tt refl

column_good : (alias name : Name) → GoodName alias → GoodName name → GoodExpr (t.column alias name)
unfolding IsSpelled expr_height
column_good alias name a b = leaf_good alias.start (expr.Column alias.text name.text) (a, b) refl

global_good : (s : ℕ) (name : List ℕ) → GoodExpr (t.global s name)
unfolding IsSpelled expr_height
global_good s name = leaf_good s (expr.Global name) tt refl

from_some : (o : Option Grown) (a b : Grown) → o ≡ Some b → o ≡ Some a → GoodExpr b → GoodExpr a
from_some o a b e f good = let same : ◌≡◌ {A = Option Grown} (Some b) (Some a) = sym e ∙ f in let equal : b ≡ a = cc same in subst GoodExpr equal good

word_good : (k : Keyword) (s : ℕ) (a : Grown) → literal_at (class_of_kind (kind.Word k)) (kind.Word k) s ≡ Some a → GoodExpr a
word_good keyword.True s a e = from_some _ a _ refl e (bool_good s true)
word_good keyword.False s a e = from_some _ a _ refl e (bool_good s false)
word_good k s a e = absurd (cc e)

literal_good : (k : TokenKind) (s : ℕ) (a : Grown) → IsSoundKind k → literal_at (class_of_kind k) k s ≡ Some a → GoodExpr a
literal_good (kind.Word k) s a sound e = word_good k s a e
literal_good (kind.Name name) s a sound e = absurd (cc e)
literal_good (kind.Int z) s a sound e = from_some _ a _ refl e (int_good s z sound)
literal_good (kind.Str text) s a sound e = from_some _ a _ refl e (text_good s text)
literal_good (kind.Sign x) s a sound e = absurd (cc e)

literal_keeps : Keeps (One literal_of) GoodExpr
unfolding class_of
literal_keeps = one_keeps (λ x a sound e. literal_good x.kind x.start a sound e)

-- ---- types

scalar_good : (s : ScalarTy) → GoodTy (t.scalar_ty s)
unfolding type_height
scalar_good s = λ h low high. low

first_type_good : (x : GrownTy) → GoodTy x → GoodTypes (t.first_type x)
first_type_good x p = λ h low high. (p h low high, tt)

added_type_good : (all : Types) (x : GrownTy) → GoodTypes all → GoodTy x → GoodTypes (t.added_type all x)
added_type_good all x q p = λ h low high. each_push (λ (u : SqlTy). IsGoodTy h u) all.items x.ty (q h (left_under all.height x.height h low) high) (p h (right_under all.height x.height h low) high)

row_ty_good : (all : Types) → GoodTypes all → GoodTy (t.row_ty all)
row_ty_good all q = risen_type all.height (ty.Row all.items) (λ h. Each (IsGoodTy h) all.items) q (λ p. row_type all.height all.items p)

array_ty_good : (x : GrownTy) → GoodTy x → GoodTy (t.array_ty x)
array_ty_good x p = risen_type x.height (ty.Array x.ty) (λ h. IsGoodTy h x.ty) p (λ q. array_type x.height x.ty q)

-- ---- expressions

null_good : (s : ℕ) (u : GrownTy) → GoodTy u → GoodExpr (t.null_of s u)
null_good s u p = risen u.height (expr.Null u.ty) (λ h. IsGoodTy h u.ty) p (λ q. null_built u.height u.ty q)

argument_good : (s : ℕ) (name : List ℕ) (u : GrownTy) → GoodTy u → GoodExpr (t.argument s name u)
argument_good s name u p = risen u.height (expr.Arg name u.ty) (λ h. IsGoodTy h u.ty) p (λ q. arg_built u.height name u.ty q)

array_good : (s : ℕ) (x : GrownSelect) → GoodSelect x → GoodExpr (t.array s x)
array_good s x p = risen x.height (expr.Array x.select) (λ h. IsGoodSelect h x.select.cores) p (λ q. array_built x.height x.select q)

alone_good : (x : Grown) → GoodExpr x → GoodBunch (t.alone x)
alone_good x p = λ h low high. (p h low high, tt)

added_good : (all : Bunch) (x : Grown) → GoodBunch all → GoodExpr x → GoodBunch (t.added all x)
added_good all x q p = λ h low high. each_push (λ (y : SqlExpr). IsGood h y) all.items x.expr (q h (left_under all.height x.height h low) high) (p h (right_under all.height x.height h low) high)

row_good : (s : ℕ) (all : Bunch) → GoodBunch all → GoodExpr (t.row s all)
row_good s all q = risen all.height (expr.Row all.items) (λ h. Each (IsGood h) all.items) q (λ p. row_built all.height all.items p)

part_good : (s : ℕ) (x : Grown) (z : _) → GoodExpr x → GoodExpr (t.part s x z)
part_good s x z p = risen x.height (expr.Part x.expr z) (λ h. IsGood h x.expr) p (λ q. part_built x.height x.expr z q)

case_good : (s : ℕ) (x y z : Grown) → GoodExpr x → GoodExpr y → GoodExpr z → GoodExpr (t.case_of s x y z)
case_good s x y z a b c =
    risen (max x.height (max y.height z.height)) (expr.Case (record { condition = x.expr; value = y.expr; other = z.expr })) (λ h. IsGood h x.expr × IsGood h y.expr × IsGood h z.expr)
    (λ h low high.
    let more = right_under x.height (max y.height z.height) h low in
    (a h (left_under x.height (max y.height z.height) h low) high, b h (left_under y.height z.height h more) high, c h (right_under y.height z.height h more) high))
    (λ q. case_built _ (record { condition = x.expr; value = y.expr; other = z.expr }) q.0 q.1 q.2)

cast_good : (s : ℕ) (x : Grown) (u : GrownTy) → GoodExpr x → GoodTy u → GoodExpr (t.cast s x u)
cast_good s x u a b =
    risen (max x.height u.height) (expr.Cast x.expr u.ty) (λ h. IsGood h x.expr × IsGoodTy h u.ty)
    (λ h low high. (a h (left_under x.height u.height h low) high, b h (right_under x.height u.height h low) high)) (λ q. cast_built _ x.expr u.ty q.0 q.1)

call_good : (found : _) (x : Grown) → GoodExpr x → GoodExpr (t.call found x)
call_good found x p = risen x.height (expr.Call found.function x.expr) (λ h. IsGood h x.expr) p (λ q. call_built x.height found.function x.expr q)

prefixed_good : (operator : UnaryOp) (s : ℕ) (x : Grown) → GoodExpr x → GoodExpr (t.prefixed operator s x)
prefixed_good operator s x p = risen x.height (expr.Unary operator x.expr) (λ h. IsGood h x.expr) p (λ q. unary_built x.height operator x.expr q)

null_test_good : (x : Grown) (negated : Bool) → GoodExpr x → GoodExpr (t.null_test x negated)
null_test_good x negated p =
    risen x.height (expr.Unary (if negated then unary.IsNotNull else unary.IsNull) x.expr) (λ h. IsGood h x.expr) p (λ q. unary_built x.height (if negated then unary.IsNotNull else unary.IsNull) x.expr q)

operated_good : (operator : BinaryOp) (x y : Grown) → GoodExpr x → GoodExpr y → GoodExpr (t.operated operator x y)
operated_good operator x y a b =
    risen (max x.height y.height) (expr.Binary (record { operator = operator; left = x.expr; right = y.expr })) (λ h. IsGood h x.expr × IsGood h y.expr)
    (λ h low high. (a h (left_under x.height y.height h low) high, b h (right_under x.height y.height h low) high)) (λ q. binary_built _ (record { operator = operator; left = x.expr; right = y.expr }) q.0 q.1)

-- ---- columns, items and keys

named_good : (x : Grown) (name : Name) → GoodExpr x → GoodName name → GoodColumn (t.named_column x name)
named_good x name p is = λ h low high. (p h low high, is)

table_good : (table alias : Name) → GoodName table → GoodName alias → GoodFirst (t.table_item table alias)
table_good table alias a b = λ h low high. table_built h table.text alias.text a b

lateral_good : (s : GrownSelect) (alias : Name) → GoodSelect s → GoodName alias → GoodFirst (t.lateral_item s alias)
lateral_good s alias p is = λ h low high. lateral_built h s.select alias.text (p h low high) is

left_good : (s : GrownSelect) (alias : Name) → GoodSelect s → GoodName alias → GoodItem (t.left_item s alias)
left_good s alias p is = λ h low high. left_built h s.select alias.text (p h low high) is

unnest_good : (x : Grown) (alias : Name) → GoodExpr x → GoodName alias → GoodFirst (t.unnest_item x alias)
unnest_good x alias p is = λ h low high. unnest_built h x.expr alias.text (p h low high) is

key_good : (x : Grown) (way : Direction) (nulls : Absent) → GoodExpr x → GoodKey (t.key_of x way nulls)
key_good x direction.Ascending nulls p = λ h low high. ascending_built h x.expr nulls (p h low high)
key_good x direction.Descending nulls p = λ h low high. descending_built h x.expr nulls (p h low high)

-- ---- cores

first_column_good : (s : ℕ) (distinct : Bool) (x : GrownColumn) → GoodColumn x → GoodCore (t.first_column s distinct x)
first_column_good s distinct x p = λ h low high. (tt, (p h low high, tt), tt, tt, tt, tt, tt, tt)

added_column_good : (c : GrownCore) (x : GrownColumn) → GoodCore c → GoodColumn x → GoodCore (t.added_column c x)
added_column_good c x q p = λ h low high.
    let all : AreGood h c.columns c.body = q h (left_under c.height x.height h low) high in
    (some_push c.columns x.column all.0, each_push (λ (y : Column). IsGoodColumn h y) c.columns x.column all.1 (p h (right_under c.height x.height h low) high), all.2, all.3, all.4, all.5, all.6, all.7)

begins_push : (is : List FromItem) (i : FromItem) → Begins is → MayBegin i → Begins (is ++ i ∷ [])
begins_push [] i b may = may
begins_push (j ∷ js) i b may = b

begins_more : (is : List FromItem) (i : FromItem) → IsSome is → Begins is → Begins (is ++ i ∷ [])
begins_more [] i some b = absurd some
begins_more (j ∷ js) i some b = b

some_pushed : {A : Type 0} (xs : List A) (x : A) → IsSome (xs ++ x ∷ [])
some_pushed [] x = tt
some_pushed (y ∷ ys) x = tt

-- a core with an item at least
abbrev GoodFrom : GrownCore → Type 0
GoodFrom c = GoodCore c × IsSome c.body.from

first_item_good : (c : GrownCore) (x : GrownItem) → GoodCore c → GoodFirst x → GoodFrom (t.with_item c x)
first_item_good c x q p = (
  λ h low high.
      let all : AreGood h c.columns c.body = q h (left_under c.height x.height h low) high in
      let one : MayBegin x.item × IsGoodItem h x.item = p h (right_under c.height x.height h low) high in
      (all.0, all.1, begins_push c.body.from x.item all.2 one.0, each_push (λ (y : FromItem). IsGoodItem h y) c.body.from x.item all.3 one.1, all.4, all.5, all.6, all.7),
  some_pushed c.body.from x.item,
)

item_good : (c : GrownCore) (x : GrownItem) → GoodFrom c → GoodItem x → GoodFrom (t.with_item c x)
item_good c x q p = (
  λ h low high.
      let all : AreGood h c.columns c.body = q.0 h (left_under c.height x.height h low) high in
      (all.0, all.1, begins_more c.body.from x.item q.1 all.2, each_push (λ (y : FromItem). IsGoodItem h y) c.body.from x.item all.3 (p h (right_under c.height x.height h low) high), all.4, all.5, all.6, all.7),
  some_pushed c.body.from x.item,
)

condition_good : (c : GrownCore) (x : Grown) → GoodCore c → GoodExpr x → GoodCore (t.with_condition c x)
condition_good c x q p = λ h low high.
    let all : AreGood h c.columns c.body = q h (left_under c.height x.height h low) high in
    (all.0, all.1, all.2, all.3, p h (right_under c.height x.height h low) high, all.5, all.6, all.7)

with_key_good : (c : GrownCore) (x : GrownKey) → GoodCore c → GoodKey x → GoodCore (t.with_key c x)
with_key_good c x q p = λ h low high.
    let all : AreGood h c.columns c.body = q h (left_under c.height x.height h low) high in
    (all.0, all.1, all.2, all.3, all.4, each_push (λ (y : Key). IsGoodKey h y) c.body.keys x.key all.5 (p h (right_under c.height x.height h low) high), all.6, all.7)

offset_good : (c : GrownCore) (x : Grown) → GoodCore c → GoodExpr x → GoodCore (t.with_offset c x)
offset_good c x q p = λ h low high.
    let all : AreGood h c.columns c.body = q h (left_under c.height x.height h low) high in
    (all.0, all.1, all.2, all.3, all.4, all.5, p h (right_under c.height x.height h low) high, all.7)

limit_good : (c : GrownCore) (x : Grown) → GoodCore c → GoodExpr x → GoodCore (t.with_limit c x)
limit_good c x q p = λ h low high.
    let all : AreGood h c.columns c.body = q h (left_under c.height x.height h low) high in
    (all.0, all.1, all.2, all.3, all.4, all.5, all.6, p h (right_under c.height x.height h low) high)

core_good : (h : ℕ) (c : GrownCore) → AreGood h c.columns c.body → IsGoodCore h (t.core_of c)
core_good h c p = by_case c.distinct
  where
    by_case : (b : Bool) → IsGoodCore h (t.core_of (record { start = c.start; distinct = b; columns = c.columns; body = c.body; places = c.places; height = c.height }))
    by_case true = distinct_built h c.columns c.body p
    by_case false = all_built h c.columns c.body p

first_core_good : (c : GrownCore) → GoodCore c → GoodCores (t.first_core c)
first_core_good c q = λ h low high. (tt, (core_good h c (q h low high), tt))

added_core_good : (all : Cores) (c : GrownCore) → GoodCores all → GoodCore c → GoodCores (t.added_core all c)
added_core_good all c q p = λ h low high.
    let before : IsSome all.cores × Each (IsGoodCore h) all.cores = q h (left_under all.height c.height h low) high in
    (some_push all.cores (t.core_of c) before.0, each_push (λ (y : Core). IsGoodCore h y) all.cores (t.core_of c) before.1 (core_good h c (p h (right_under all.height c.height h low) high)))

select_good : (all : Cores) → GoodCores all → GoodSelect (t.select_of all)
select_good all q = risen_select all.height all.cores q

-- ---- the grammar

-- what may stand in an open part keeps to this
record GoodInner (L : g.Inner) : Type 0 where
  pub expr : Keeps L.expr GoodExpr
  pub negation : Keeps L.negation GoodExpr
  pub unary : Keeps L.unary GoodExpr
  pub select : Keeps L.select GoodSelect
  pub ty : Keeps L.ty GoodTy

commas_keep : {A B : Type 0} {L : Lang Token A} {start : A → B} {add : B → A → B} {P : A → Type 0} {Q : B → Type 0} → Keeps L P → ((a : A) → P a → Q (start a)) → ((b : B) (a : A) → Q b → P a → Q (add b a)) → Keeps (g.Commas L start add) Q
commas_keep {A} {B} {L} {start} {add} {P} {Q} l s a = then_keeps l (λ first p. chain_keeps (λ all q. behind_keeps (λ _. then_keeps l (λ x r. empty_keeps (a all x q r)))) (start first) (s first p))

module _ (depth : ℕ) (high : ℕ → Bool) (L : g.Inner) (h : GoodInner L) where
  sub_keeps : Keeps (g.Sub depth high L) GoodSelect
  sub_keeps = behind_keeps (λ _. then_keeps h.select (λ s p. behind_keeps (λ _. empty_keeps p)))

  within_keeps : Keeps (g.Within depth high L) GoodExpr
  within_keeps = behind_keeps (λ start. then_keeps h.expr (λ x p. behind_keeps (λ _. empty_keeps p)))

  types_keep : Keeps (g.TypesWithin depth high L) GoodTypes
  types_keep = behind_keeps (λ _. either_keeps (behind_keeps (λ _. empty_keeps (λ h low high. tt))) (then_keeps (commas_keep h.ty first_type_good added_type_good) (λ all p. behind_keeps (λ _. empty_keeps p))))

  array_ty_keeps : Keeps (g.ArrayTy depth high L) GoodTy
  array_ty_keeps = behind_keeps (λ _. behind_keeps (λ _. then_keeps h.ty (λ x p. behind_keeps (λ _. empty_keeps (array_ty_good x p)))))

  ty_keeps : Keeps (g.Ty depth high L) GoodTy
  ty_keeps = either_keeps (behind_keeps (λ s. empty_keeps (scalar_good s))) (either_keeps (behind_keeps (λ _. then_keeps types_keep (λ all p. empty_keeps (row_ty_good all p)))) array_ty_keeps)

  argument_keeps : Keeps (g.Argument depth high L) GoodExpr
  argument_keeps = behind_keeps (λ start. behind_keeps (λ _. behind_keeps (λ name. behind_keeps (λ _. then_keeps h.ty (λ x p. behind_keeps (λ _. empty_keeps (argument_good start name x p)))))))

  global_keeps : Keeps (g.GlobalText depth high L) GoodExpr
  global_keeps = behind_keeps (λ start. behind_keeps (λ _. behind_keeps (λ name. behind_keeps (λ _. empty_keeps (global_good start name)))))

  array_keeps : Keeps (g.ArrayOf depth high L) GoodExpr
  array_keeps = behind_keeps (λ start. then_keeps sub_keeps (λ s p. empty_keeps (array_good start s p)))

  bunch_keeps : Keeps (g.ExprsWithin depth high L) GoodBunch
  bunch_keeps = behind_keeps (λ _. either_keeps (behind_keeps (λ _. empty_keeps (λ h low high. tt))) (then_keeps (commas_keep h.expr alone_good added_good) (λ all p. behind_keeps (λ _. empty_keeps p))))

  row_keeps : Keeps (g.RowOf depth high L) GoodExpr
  row_keeps = behind_keeps (λ start. then_keeps bunch_keeps (λ all p. empty_keeps (row_good start all p)))

  part_keeps : Keeps (g.PartOf depth high L) GoodExpr
  part_keeps = behind_keeps (λ start. behind_keeps (λ _. then_keeps h.expr (λ x p. behind_keeps (λ _. behind_keeps (λ number. behind_keeps (λ _. empty_keeps (part_good start x number p)))))))

  case_keeps : Keeps (g.CaseOf depth high L) GoodExpr
  case_keeps =
      behind_keeps (λ start. behind_keeps (λ _. then_keeps h.expr (λ x a. behind_keeps (λ _. then_keeps h.expr (λ y b. behind_keeps (λ _. then_keeps h.expr (λ z c. behind_keeps (λ _. empty_keeps (case_good start x y z a b c)))))))))

  cast_keeps : Keeps (g.CastOf depth high L) GoodExpr
  cast_keeps = behind_keeps (λ start. behind_keeps (λ _. then_keeps h.expr (λ x a. behind_keeps (λ _. then_keeps h.ty (λ u b. behind_keeps (λ _. empty_keeps (cast_good start x u a b)))))))

  call_keeps : Keeps (g.CallOf depth high L) GoodExpr
  call_keeps = behind_keeps (λ found. then_keeps within_keeps (λ x p. empty_keeps (call_good found x p)))

  form_keeps : Keeps (g.Form depth high L) GoodExpr
  form_keeps = either_keeps argument_keeps (either_keeps global_keeps (either_keeps array_keeps (either_keeps row_keeps (either_keeps part_keeps (either_keeps case_keeps (either_keeps cast_keeps call_keeps))))))

  uuid_keeps : Keeps (g.UuidText depth high L) GoodExpr
  uuid_keeps = behind_keeps (λ start. behind_keeps (λ id. empty_keeps (uuid_good start id)))

  null_keeps : Keeps (g.NullTy depth high L) GoodExpr
  null_keeps = behind_keeps (λ start. behind_keeps (λ _. then_keeps ty_keeps (λ u p. empty_keeps (null_good start u p))))

  reference_keeps : Keeps (g.Reference depth high L) GoodExpr
  reference_keeps = then_keeps name_keeps (λ alias a. behind_keeps (λ _. then_keeps name_keeps (λ name b. empty_keeps (column_good alias name a b))))

  prim_keeps : Keeps (g.Prim depth high L) GoodExpr
  prim_keeps = either_keeps within_keeps (either_keeps literal_keeps (either_keeps uuid_keeps (either_keeps null_keeps (either_keeps reference_keeps form_keeps))))

  unary_keeps : Keeps (g.Unary depth high L) GoodExpr
  unary_keeps = either_keeps (behind_keeps (λ start. then_keeps h.unary (λ x p. empty_keeps (prefixed_good unary.Neg start x p)))) prim_keeps

  operators_keep : (level : ℕ) (Operand : Lang Token Grown) → Keeps Operand GoodExpr → Keeps (g.Operators depth high L level Operand) GoodExpr
  operators_keep level Operand o = then_keeps o (λ first p. chain_keeps (λ left q. behind_keeps (λ found. then_keeps o (λ right r. empty_keeps (operated_good found left right q r)))) first p)

  sum_keeps : Keeps (g.Sum depth high L) GoodExpr
  sum_keeps = operators_keep 5 (g.Product depth high L) (operators_keep 6 (g.Unary depth high L) unary_keeps)

  null_test_keeps : (x : Grown) → GoodExpr x → Keeps (g.NullTest depth high L x) GoodExpr
  null_test_keeps x p = behind_keeps (λ _. behind_keeps (λ negated. behind_keeps (λ _. empty_keeps (null_test_good x negated p))))

  comparison_keeps : Keeps (g.Comparison depth high L) GoodExpr
  comparison_keeps = then_keeps sum_keeps (λ left p. either_keeps (behind_keeps (λ found. then_keeps sum_keeps (λ right r. empty_keeps (operated_good found left right p r)))) (either_keeps (null_test_keeps left p) (empty_keeps p)))

  negation_keeps : Keeps (g.Negation depth high L) GoodExpr
  negation_keeps = either_keeps (behind_keeps (λ start. then_keeps h.negation (λ x p. empty_keeps (prefixed_good unary.Not start x p)))) comparison_keeps

  expr_keeps : Keeps (g.Expr depth high L) GoodExpr
  expr_keeps = operators_keep 1 (g.Conjunction depth high L) (operators_keep 2 (g.Negation depth high L) negation_keeps)

  -- ---- cores

  alias_keeps : Keeps (g.Alias depth high L) GoodName
  alias_keeps = behind_keeps (λ _. name_keeps)

  column_keeps : Keeps (g.ColumnOf depth high L) GoodColumn
  column_keeps = then_keeps expr_keeps (λ x p. then_keeps alias_keeps (λ name is. empty_keeps (named_good x name p is)))

  columns_keep : Keeps (g.Columns depth high L) GoodCore
  columns_keep = behind_keeps (λ start. behind_keeps (λ distinct. commas_keep column_keeps (first_column_good start distinct) added_column_good))

  item_keeps : Keeps (g.Item depth high L) GoodFirst
  item_keeps =
      either_keeps (then_keeps name_keeps (λ table a. then_keeps alias_keeps (λ alias b. empty_keeps (table_good table alias a b))))
      (either_keeps (behind_keeps (λ _. then_keeps sub_keeps (λ s p. then_keeps alias_keeps (λ alias is. empty_keeps (lateral_good s alias p is)))))
      (behind_keeps (λ _. then_keeps within_keeps (λ x p. then_keeps alias_keeps (λ alias is. empty_keeps (unnest_good x alias p is))))))

  left_keeps : Keeps (g.LeftItem depth high L) GoodItem
  left_keeps = behind_keeps (λ _. behind_keeps (λ _. behind_keeps (λ _. then_keeps sub_keeps (λ s p. then_keeps alias_keeps (λ alias is. behind_keeps (λ _. behind_keeps (λ _. empty_keeps (left_good s alias p is))))))))

  further_keeps : Keeps (g.FurtherItem depth high L) GoodItem
  further_keeps = either_keeps (behind_keeps (λ _. weaken_keeps item_keeps (λ x p. λ h low high. (p h low high).1))) left_keeps

  from_keeps : (c : GrownCore) → GoodCore c → Keeps (g.From depth high L c) GoodCore
  from_keeps c q =
      either_keeps (behind_keeps (λ _. then_keeps item_keeps (λ first p. weaken_keeps (chain_keeps (λ all r. then_keeps further_keeps (λ x s. empty_keeps (item_good all x r s))) (t.with_item c first) (first_item_good c first q p)) (λ x r. r.0)))) (empty_keeps q)

  where_keeps : (c : GrownCore) → GoodCore c → Keeps (g.Where depth high L c) GoodCore
  where_keeps c q = either_keeps (behind_keeps (λ _. then_keeps expr_keeps (λ x p. empty_keeps (condition_good c x q p)))) (empty_keeps q)

  key_keeps : Keeps (g.KeyOf depth high L) GoodKey
  key_keeps = then_keeps expr_keeps (λ x p. behind_keeps (λ way. behind_keeps (λ _. behind_keeps (λ nulls. empty_keeps (key_good x way nulls p)))))

  order_keeps : (c : GrownCore) → GoodCore c → Keeps (g.Order depth high L c) GoodCore
  order_keeps c q = either_keeps (behind_keeps (λ _. behind_keeps (λ _. commas_keep key_keeps (λ x p. with_key_good c x q p) with_key_good))) (empty_keeps q)

  offset_keeps : (c : GrownCore) → GoodCore c → Keeps (g.Offset depth high L c) GoodCore
  offset_keeps c q = either_keeps (behind_keeps (λ _. then_keeps expr_keeps (λ x p. empty_keeps (offset_good c x q p)))) (empty_keeps q)

  limit_keeps : (c : GrownCore) → GoodCore c → Keeps (g.Limit depth high L c) GoodCore
  limit_keeps c q = either_keeps (behind_keeps (λ _. then_keeps expr_keeps (λ x p. empty_keeps (limit_good c x q p)))) (empty_keeps q)

  core_keeps : Keeps (g.CoreOf depth high L) GoodCore
  core_keeps = then_keeps columns_keep (λ a p. then_keeps (from_keeps a p) (λ b q. then_keeps (where_keeps b q) (λ c r. then_keeps (order_keeps c r) (λ d s. then_keeps (offset_keeps d s) (λ x u. limit_keeps x u)))))

  cores_keep : Keeps (g.CoresOf depth high L) GoodCores
  cores_keep = then_keeps core_keeps (λ first p. chain_keeps (λ all q. then_keeps (behind_keeps (λ _. behind_keeps (λ _. core_keeps))) (λ c r. empty_keeps (added_core_good all c q r))) (t.first_core first) (first_core_good first p))

  select_keeps : Keeps (g.Sel depth high L) GoodSelect
  select_keeps = then_keeps cores_keep (λ all p. empty_keeps (select_good all p))

  level_good : GoodInner (g.levels depth high L)
  level_good = record { expr = expr_keeps; negation = negation_keeps; unary = unary_keeps; select = select_keeps; ty = ty_keeps }

nothing_good : GoodInner g.nothing
nothing_good = record { expr = never_keeps; negation = never_keeps; unary = never_keeps; select = never_keeps; ty = never_keeps }

beyond_good : (high : ℕ → Bool) (spare : ℕ) → GoodInner (g.beyond high spare)
unfolding g.beyond
beyond_good high zero = level_good zero high g.nothing nothing_good
beyond_good high (suc spare) = level_good zero high (g.beyond high spare) (beyond_good high spare)

within_good : (high : ℕ → Bool) (spare depth : ℕ) → GoodInner (g.within high spare depth)
unfolding g.within
within_good high spare zero = level_good zero high (g.beyond high spare) (beyond_good high spare)
within_good high spare (suc depth) = level_good (suc depth) high (g.within high spare depth) (within_good high spare depth)

statement_keeps : (L : g.Inner) → GoodInner L → Keeps (g.Statement L) GoodSelect
statement_keeps L h = then_keeps h.select (λ s p. either_keeps (behind_keeps (λ _. empty_keeps p)) (empty_keeps p))

-- The statement that a text spells is one as reading gives it.
pub text_spelled : (text : List ℕ) (x : GrownSelect) → IsTextOf text x → StatementIsSpelled (statement_of x)
text_spelled text x h =
    let p : GoodSelect x = (statement_keeps (g.within too_high h.2.0 MAX_OPEN) (within_good too_high h.2.0 MAX_OPEN)).keeps (suc (length h.0)) h.0 x (cut_sound text h.0 h.1) h.2.1.0 in
    let low : x.height ≤ MAX_HEIGHT = ltb-false MAX_HEIGHT x.height (h.2.1.1 (omega arith)) in
    let good : IsGoodSelect MAX_HEIGHT x.select.cores = p MAX_HEIGHT low (omega arith) in
    record { spelled = good.0; low = good.1 }
