-- The tokens of an expression, of a select and of all in it spell it.
use Rattle.std.proofs.Common.{◌≡◌, ℕ, ℤ, zero, suc, ◌+◌, ◌-◌, ◌≤◌, ◌<◌, ◌^◌, max, Bool, true, false, cond, List, [], ◌∷◌, ◌++◌, Option, Some, None, refl, sym, ap, ◌∙◌, subst, append_assoc, append-nil, arith}
use Rattle.std.proofs.Math.Dec.{eqb-suc-zero}
use Rattle.ev_value.specs.JsonText.{id_text}
use Rattle.ev_list.specs.declared.order.Absent.{Absent}
use Rattle.ev_list.specs.declared.order.Absent.TheVariants as absent
use Rattle.ev_list.specs.declared.order.Direction.{Direction}
use Rattle.ev_list.specs.declared.order.Direction.TheVariants as direction
use Rattle.sql_lex.specs.declared.keyword.Keyword.TheVariants as keyword
use Rattle.sql_lex.specs.declared.token.Sign.TheVariants as sign
use Rattle.sql_lex.specs.declared.token.Token.{Token}
use Rattle.sql_lex.specs.declared.token.TokenKind.{TokenKind}
use Rattle.sql_lex.specs.declared.token.TokenKind.TheVariants as kind
use Rattle.sql_ast.specs.declared.expression.BinaryOp.{BinaryOp}
use Rattle.sql_ast.specs.declared.expression.BinaryOp.TheVariants as op
use Rattle.sql_ast.specs.declared.expression.UnaryOp.{UnaryOp}
use Rattle.sql_ast.specs.declared.expression.UnaryOp.TheVariants as unary
use Rattle.sql_ast.specs.declared.expression.Function.{Function}
use Rattle.sql_ast.specs.declared.expression.Function.TheVariants as function
use Rattle.sql_ast.specs.declared.expression.SqlExpr as e
use Rattle.sql_ast.specs.declared.expression.SqlExpr.{SqlExpr, Row_of-SqlExpr, end_of-SqlExpr, more_of-SqlExpr, Row_of-Core, end_of-Core, more_of-Core}
use Rattle.sql_ast.specs.declared.expression.SqlExpr.TheVariants as expr
use Rattle.sql_ast.specs.declared.select.Body.{Body}
use Rattle.sql_ast.specs.declared.select.Column.{Column}
use Rattle.sql_ast.specs.declared.select.Core as c
use Rattle.sql_ast.specs.declared.select.Core.{Core, Row_of-Column, end_of-Column, more_of-Column, Row_of-FromItem, end_of-FromItem, more_of-FromItem, Row_of-Key, end_of-Key, more_of-Key, Held-Body-condition, None', Some'}
use Rattle.sql_ast.specs.declared.select.Core.TheVariants as core
use Rattle.sql_ast.specs.declared.select.FromItem as f
use Rattle.sql_ast.specs.declared.select.FromItem.{FromItem}
use Rattle.sql_ast.specs.declared.select.Key as k
use Rattle.sql_ast.specs.declared.select.Key.{Key}
use Rattle.sql_ast.specs.declared.ty.SqlTy.{SqlTy}
use Rattle.sql_ast.specs.Nesting.{type_height, expr_height, exprs_height, cores_height, core_height, columns_height, items_height, item_height, keys_height, key_height, option_height}
use Rattle.sql_grammar.specs.declared.grown.Grown.{Grown}
use Rattle.sql_grammar.specs.declared.grown.Bunch.{Bunch}
use Rattle.sql_grammar.specs.declared.grown.GrownColumn.{GrownColumn}
use Rattle.sql_grammar.specs.declared.grown.GrownItem.{GrownItem}
use Rattle.sql_grammar.specs.declared.grown.GrownKey.{GrownKey}
use Rattle.sql_grammar.specs.declared.grown.GrownCore.{GrownCore}
use Rattle.sql_grammar.specs.declared.grown.Cores.{Cores}
use Rattle.sql_grammar.specs.declared.grown.GrownSelect.{GrownSelect}
use Rattle.sql_grammar.specs.declared.limits.TheConstants.{MAX_HEIGHT}
use Rattle.sql_grammar.specs.Trees.{too_high, leaf, uuid, null_of, column, argument, global, array, nothing_yet, alone, added, row, part, case_of, cast, call, prefixed, null_test, named_column, table_item, lateral_item, left_item, unnest_item, key_of, no_body, first_column, added_column, with_item, with_condition, with_key, with_offset, with_limit, core_of, first_core, added_core, select_of}
use Rattle.sql_grammar.specs.Words.{class_of, sign_of, name_of, number_of, text_of, id_of, function_of, direction_of, absent_of}
use Rattle.sql_grammar.specs.Grammar as g
use Rattle.sql_grammar.proofs.Ids.{id_known}
use Rattle.sql_print.specs.Marks.{Tokens, in_parens, truth, name_of_function, name_of_absent, held, is_loose, level_of, level_of_binary, level_of_unary, left_level, right_level, operand_level, before, behind, mark_of}
use Rattle.sql_print.specs.Printed.{tokens_of_ty, tokens_of_expr, tokens_of_exprs, further_exprs, tokens_of_cores, further_cores, tokens_of_core, tokens_of_columns, further_columns, tokens_of_from, tokens_of_item, further_items, comma_before, tokens_of_condition, tokens_of_keys, further_keys, tokens_of_key, tokens_of_offset, tokens_of_limit}
use Rattle.exact.specs.Language.{Lang, One, Empty, Chain, ◌>>=◌, ◌>>◌}
use Rattle.sql_spell.specs.Form.{BeginsFrom, HasForm, HaveForm, CoresHaveForm, FurtherHaveForm, CoreHasForm, ColumnsHaveForm, FurtherColumnsHaveForm, FromHasForm, ItemsHaveForm, ItemHasForm, KeysHaveForm, KeyHasForm, HeldHasForm}
use Rattle.sql_spell.proofs.Spelling.{Spelt, spelt_empty, spelt_then, spelt_end, spelt_left, spelt_right, spelt_as, spelt_stop, spelt_turn, spelt_within, spelt_sign, spelt_word, spelt_kind}
use Rattle.sql_spell.proofs.Shapes.{exprs_in, cores_in, row_is, array_is, part_is, case_is, cast_is, unary_is, binary_is, call_is}
use Rattle.sql_spell.proofs.Cores.{columns_in, items_in, keys_in, held_in, lateral_is, left_is, all_is, distinct_is}
use Rattle.sql_spell.proofs.Heights.{above_is, max_apart, max_left, max_right, twice_left, twice_right}
use Rattle.sql_spell.proofs.Types.{inner_of, open_paren, close_paren, part_ty, type_spelt}
use Rattle.sql_spell.proofs.Levels.{lang, Is, IsBinary, part_expr, part_negation, part_unary, sub_spelt, within_spelt, as_expr, held_spelt, operators_spelt, comparison_spelt}

-- the same tokens, otherwise grouped
pub spelt_same : {A : Type 0} {L : Lang Token A} {P : A → Type 0} {ks js : List TokenKind} → ks ≡ js → Spelt L P ks → Spelt L P js
spelt_same {A} {L} {P} e l = subst (Spelt L P) e l

-- ---- single tokens

name_spelt : (text : List ℕ) → Spelt (One name_of) (λ a. a.text ≡ text) (kind.Name text ∷ [])
unfolding class_of
name_spelt text = spelt_kind (kind.Name text) (λ s. record { text = text; start = s }) (λ _. refl) (λ _. refl)

text_spelt : (text : List ℕ) → Spelt (One text_of) (λ a. a ≡ text) (kind.Str text ∷ [])
unfolding class_of
text_spelt text = spelt_kind (kind.Str text) (λ _. text) (λ _. refl) (λ _. refl)

number_spelt : (z : ℤ) → Spelt (One number_of) (λ a. a ≡ z) (kind.Int z ∷ [])
unfolding class_of
number_spelt z = spelt_kind (kind.Int z) (λ _. z) (λ _. refl) (λ _. refl)

id_spelt : (n : ℕ) → n < 2 ^ 128 → Spelt (One id_of) (λ a. a ≡ n) (kind.Str (id_text n) ∷ [])
unfolding class_of
id_spelt n small = spelt_kind (kind.Str (id_text n)) (λ _. n) (λ _. refl) (λ _. id_known n small)

function_spelt : (o : Function) → Spelt (One function_of) (λ a. a.function ≡ o) (kind.Word (name_of_function o) ∷ [])
unfolding class_of
function_spelt function.Len = spelt_kind (kind.Word keyword.Len) (λ s. record { function = function.Len; start = s }) (λ _. refl) (λ _. refl)
function_spelt function.CountOf = spelt_kind (kind.Word keyword.CountOf) (λ s. record { function = function.CountOf; start = s }) (λ _. refl) (λ _. refl)
function_spelt function.SumOf = spelt_kind (kind.Word keyword.SumOf) (λ s. record { function = function.SumOf; start = s }) (λ _. refl) (λ _. refl)
function_spelt function.MinOf = spelt_kind (kind.Word keyword.MinOf) (λ s. record { function = function.MinOf; start = s }) (λ _. refl) (λ _. refl)
function_spelt function.MaxOf = spelt_kind (kind.Word keyword.MaxOf) (λ s. record { function = function.MaxOf; start = s }) (λ _. refl) (λ _. refl)
function_spelt function.AnyOf = spelt_kind (kind.Word keyword.AnyOf) (λ s. record { function = function.AnyOf; start = s }) (λ _. refl) (λ _. refl)
function_spelt function.AllOf = spelt_kind (kind.Word keyword.AllOf) (λ s. record { function = function.AllOf; start = s }) (λ _. refl) (λ _. refl)
function_spelt function.AssertSingle = spelt_kind (kind.Word keyword.AssertSingle) (λ s. record { function = function.AssertSingle; start = s }) (λ _. refl) (λ _. refl)
function_spelt function.AssertExists = spelt_kind (kind.Word keyword.AssertExists) (λ s. record { function = function.AssertExists; start = s }) (λ _. refl) (λ _. refl)
function_spelt function.AssertDistinct = spelt_kind (kind.Word keyword.AssertDistinct) (λ s. record { function = function.AssertDistinct; start = s }) (λ _. refl) (λ _. refl)

absent_spelt : (a : Absent) → Spelt (One absent_of) (λ b. b ≡ a) (kind.Word (name_of_absent a) ∷ [])
unfolding class_of
absent_spelt absent.First = spelt_kind (kind.Word keyword.First) (λ _. absent.First) (λ _. refl) (λ _. refl)
absent_spelt absent.Last = spelt_kind (kind.Word keyword.Last) (λ _. absent.Last) (λ _. refl) (λ _. refl)

ascending_spelt : Spelt (One direction_of) (λ a. a ≡ direction.Ascending) (kind.Word keyword.Asc ∷ [])
unfolding class_of
ascending_spelt = spelt_kind (kind.Word keyword.Asc) (λ _. direction.Ascending) (λ _. refl) (λ _. refl)

descending_spelt : Spelt (One direction_of) (λ a. a ≡ direction.Descending) (kind.Word keyword.Desc ∷ [])
unfolding class_of
descending_spelt = spelt_kind (kind.Word keyword.Desc) (λ _. direction.Descending) (λ _. refl) (λ _. refl)

alias_spelt : (d : ℕ) (name : List ℕ) → Spelt (g.Alias d too_high (inner_of d)) (λ a. a.text ≡ name) (kind.Word keyword.As ∷ kind.Name name ∷ [])
alias_spelt d name = spelt_then (spelt_word keyword.As) (λ _ _. name_spelt name)

-- a form that begins with a word of its own
prim_form : (d : ℕ) {P : Grown → Type 0} {ks : List TokenKind} → Spelt (g.Form d too_high (inner_of d)) P ks → Spelt (g.Prim d too_high (inner_of d)) P ks
prim_form d l = spelt_right _ (spelt_right _ (spelt_right _ (spelt_right _ (spelt_right _ l))))

-- ---- what was read of selects

abbrev pub IsSelect : List Core → ℕ → GrownSelect → Type 0
IsSelect cs h y = (y.select ≡ record { cores = cs }) × (y.height ≡ h)

abbrev pub AreCores : List Core → ℕ → Cores → Type 0
AreCores cs h all = (all.cores ≡ cs) × (all.height ≡ h)

abbrev pub IsCore : Core → GrownCore → Type 0
IsCore x y = (core_of y ≡ x) × (y.height ≡ core_height x)

abbrev AreExprs : List SqlExpr → ℕ → Bunch → Type 0
AreExprs xs h all = (all.items ≡ xs) × (all.height ≡ h)

abbrev IsColumn : SqlExpr → List ℕ → GrownColumn → Type 0
IsColumn value name y = (y.column ≡ record { value = value; name = name }) × (y.height ≡ expr_height value)

abbrev IsItem : FromItem → GrownItem → Type 0
IsItem x y = (y.item ≡ x) × (y.height ≡ item_height x)

abbrev IsKey : Key → GrownKey → Type 0
IsKey x y = (y.key ≡ x) × (y.height ≡ key_height x)

-- a core as far as it was read
abbrev IsSoFar : Bool → List Column → Body → ℕ → GrownCore → Type 0
IsSoFar b cs body h y = (y.distinct ≡ b) × (y.columns ≡ cs) × (y.body ≡ body) × (y.height ≡ h)

abbrev a_body : List FromItem → Option SqlExpr → List Key → Option SqlExpr → Option SqlExpr → Body
a_body fs condition ks offset limit = record { from = fs; condition = condition; keys = ks; offset = offset; limit = limit }

abbrev distinct_tokens : Bool → Tokens
distinct_tokens true = kind.Word keyword.Distinct ∷ []
distinct_tokens false = []

distinct_spelt : (d : ℕ) (b : Bool) → Spelt (g.Distinct d too_high (inner_of d)) (λ a. a ≡ b) (distinct_tokens b)
distinct_spelt d true = spelt_left _ (spelt_end (spelt_word keyword.Distinct) (λ _ _. spelt_empty true refl))
distinct_spelt d false = spelt_right _ (spelt_empty false refl)

max_none : (h : ℕ) → h ≡ max h 0
max_none h = omega arith

positive : (x : SqlExpr) → 1 ≤ expr_height x
unfolding expr_height
positive (e.Int z) = omega arith
positive (e.Text s) = omega arith
positive (e.Bool b) = omega arith
positive (e.Uuid n) = omega arith
positive (e.Null t) = omega arith
positive (e.Column a n) = omega arith
positive (e.Arg n t) = omega arith
positive (e.Global n) = omega arith
positive (e.Array' s cs) = omega arith
positive (e.Row' s xs) = omega arith
positive (e.Part' s (more_of-SqlExpr x end_of-SqlExpr) z) = omega arith
positive (e.Case' s (more_of-SqlExpr x end_of-SqlExpr) u (more_of-SqlExpr y end_of-SqlExpr) v (more_of-SqlExpr z end_of-SqlExpr)) = omega arith
positive (e.Cast' s (more_of-SqlExpr x end_of-SqlExpr) t) = omega arith
positive (e.Unary' o s (more_of-SqlExpr x end_of-SqlExpr)) = omega arith
positive (e.Binary' o s (more_of-SqlExpr x end_of-SqlExpr) u (more_of-SqlExpr y end_of-SqlExpr)) = omega arith
positive (e.Call' o s (more_of-SqlExpr x end_of-SqlExpr)) = omega arith

six : (a b c d e f : ℕ) → max (max (max (max (max a b) c) d) e) f ≡ max a (max b (max c (max d (max e f))))
six a b c d e f = max_apart (max (max (max a b) c) d) e f ∙ max_apart (max (max a b) c) d (max e f) ∙ max_apart (max a b) c (max d (max e f)) ∙ max_apart a b (max c (max d (max e f)))

-- what is left for each part of a core
record Bounds (n a b c d e f : ℕ) : Type 0 where
  a2 : a + a ≤ n
  a1 : a ≤ MAX_HEIGHT
  b2 : b + b ≤ n
  b1 : b ≤ MAX_HEIGHT
  c2 : c + c ≤ n
  c1 : c ≤ MAX_HEIGHT
  d2 : d + d ≤ n
  d1 : d ≤ MAX_HEIGHT
  e2 : e + e ≤ n
  e1 : e ≤ MAX_HEIGHT
  f2 : f + f ≤ n
  f1 : f ≤ MAX_HEIGHT

bounds : (n a b c d e f : ℕ) → max a (max b (max c (max d (max e f)))) + max a (max b (max c (max d (max e f)))) ≤ n → max a (max b (max c (max d (max e f)))) ≤ MAX_HEIGHT → Bounds n a b c d e f
bounds n a b c d e f h l = record {
  a2 = twice_left a _ n h;
  a1 = max_left a _ MAX_HEIGHT l;
  b2 = twice_left b _ n (twice_right a _ n h);
  b1 = max_left b _ MAX_HEIGHT (max_right a _ MAX_HEIGHT l);
  c2 = twice_left c _ n (twice_right b _ n (twice_right a _ n h));
  c1 = max_left c _ MAX_HEIGHT (max_right b _ MAX_HEIGHT (max_right a _ MAX_HEIGHT l));
  d2 = twice_left d _ n (twice_right c _ n (twice_right b _ n (twice_right a _ n h)));
  d1 = max_left d _ MAX_HEIGHT (max_right c _ MAX_HEIGHT (max_right b _ MAX_HEIGHT (max_right a _ MAX_HEIGHT l)));
  e2 = twice_left e f n (twice_right d _ n (twice_right c _ n (twice_right b _ n (twice_right a _ n h))));
  e1 = max_left e f MAX_HEIGHT (max_right d _ MAX_HEIGHT (max_right c _ MAX_HEIGHT (max_right b _ MAX_HEIGHT (max_right a _ MAX_HEIGHT l))));
  f2 = twice_right e f n (twice_right d _ n (twice_right c _ n (twice_right b _ n (twice_right a _ n h))));
  f1 = max_right e f MAX_HEIGHT (max_right d _ MAX_HEIGHT (max_right c _ MAX_HEIGHT (max_right b _ MAX_HEIGHT (max_right a _ MAX_HEIGHT l))));
}

-- ---- operators

binary_any : (o : BinaryOp) (x y : SqlExpr) (d : ℕ) {ks js : Tokens} → suc (max (expr_height x) (expr_height y)) ≤ MAX_HEIGHT
    → Spelt (lang (8 - level_of x) (suc d)) (Is x) ks → Spelt (lang (8 - level_of x) d) (Is x) ks → Spelt (lang (8 - level_of y) (suc d)) (Is y) js → Spelt (lang (8 - level_of y) d) (Is y) js
    → Spelt (lang (8 - level_of_binary o) (suc d)) (IsBinary o x y) (held (is_loose (left_level o) x) ks ++ mark_of o ∷ held (is_loose (right_level o) y) js)
binary_any op.Or x y d low x1 x0 y1 y0 = operators_spelt (suc d) (g.Conjunction (suc d) too_high (inner_of (suc d))) op.Or x y low (held_spelt 1 x d (omega arith) x1 x0) (held_spelt 2 y d (omega arith) y1 y0)
binary_any op.And x y d low x1 x0 y1 y0 = operators_spelt (suc d) (g.Negation (suc d) too_high (inner_of (suc d))) op.And x y low (held_spelt 2 x d (omega arith) x1 x0) (held_spelt 3 y d (omega arith) y1 y0)
binary_any op.Eq x y d low x1 x0 y1 y0 = comparison_spelt (suc d) op.Eq x y refl low (held_spelt 5 x d (omega arith) x1 x0) (held_spelt 5 y d (omega arith) y1 y0)
binary_any op.Ne x y d low x1 x0 y1 y0 = comparison_spelt (suc d) op.Ne x y refl low (held_spelt 5 x d (omega arith) x1 x0) (held_spelt 5 y d (omega arith) y1 y0)
binary_any op.Lt x y d low x1 x0 y1 y0 = comparison_spelt (suc d) op.Lt x y refl low (held_spelt 5 x d (omega arith) x1 x0) (held_spelt 5 y d (omega arith) y1 y0)
binary_any op.Le x y d low x1 x0 y1 y0 = comparison_spelt (suc d) op.Le x y refl low (held_spelt 5 x d (omega arith) x1 x0) (held_spelt 5 y d (omega arith) y1 y0)
binary_any op.Gt x y d low x1 x0 y1 y0 = comparison_spelt (suc d) op.Gt x y refl low (held_spelt 5 x d (omega arith) x1 x0) (held_spelt 5 y d (omega arith) y1 y0)
binary_any op.Ge x y d low x1 x0 y1 y0 = comparison_spelt (suc d) op.Ge x y refl low (held_spelt 5 x d (omega arith) x1 x0) (held_spelt 5 y d (omega arith) y1 y0)
binary_any op.Add x y d low x1 x0 y1 y0 = operators_spelt (suc d) (g.Product (suc d) too_high (inner_of (suc d))) op.Add x y low (held_spelt 5 x d (omega arith) x1 x0) (held_spelt 6 y d (omega arith) y1 y0)
binary_any op.Sub x y d low x1 x0 y1 y0 = operators_spelt (suc d) (g.Product (suc d) too_high (inner_of (suc d))) op.Sub x y low (held_spelt 5 x d (omega arith) x1 x0) (held_spelt 6 y d (omega arith) y1 y0)
binary_any op.Concat x y d low x1 x0 y1 y0 = operators_spelt (suc d) (g.Product (suc d) too_high (inner_of (suc d))) op.Concat x y low (held_spelt 5 x d (omega arith) x1 x0) (held_spelt 6 y d (omega arith) y1 y0)
binary_any op.Mul x y d low x1 x0 y1 y0 = operators_spelt (suc d) (g.Unary (suc d) too_high (inner_of (suc d))) op.Mul x y low (held_spelt 6 x d (omega arith) x1 x0) (held_spelt 7 y d (omega arith) y1 y0)
binary_any op.FloorDiv x y d low x1 x0 y1 y0 = operators_spelt (suc d) (g.Unary (suc d) too_high (inner_of (suc d))) op.FloorDiv x y low (held_spelt 6 x d (omega arith) x1 x0) (held_spelt 7 y d (omega arith) y1 y0)
binary_any op.Mod x y d low x1 x0 y1 y0 = operators_spelt (suc d) (g.Unary (suc d) too_high (inner_of (suc d))) op.Mod x y low (held_spelt 6 x d (omega arith) x1 x0) (held_spelt 7 y d (omega arith) y1 y0)

abbrev IsUnary : UnaryOp → SqlExpr → Grown → Type 0
IsUnary o x r = (r.expr ≡ expr.Unary o x) × (r.height ≡ suc (expr_height x))

unary_any : (o : UnaryOp) (x : SqlExpr) (d : ℕ) {ks : Tokens} → suc (expr_height x) ≤ MAX_HEIGHT
    → Spelt (lang (8 - level_of x) (suc (suc d))) (Is x) ks → Spelt (lang (8 - level_of x) (suc d)) (Is x) ks → Spelt (lang (8 - level_of x) d) (Is x) ks
    → Spelt (lang (8 - level_of_unary o) (suc (suc d))) (IsUnary o x) (before o ++ (held (is_loose (operand_level o) x) ks ++ behind o))
unary_any unary.Neg x d low x2 x1 x0 =
    spelt_left _ (spelt_then (spelt_within (eqb-suc-zero (suc d)) (spelt_sign sign.Minus)) (λ start _. spelt_then (part_unary (suc d) (held_spelt 7 x d (omega arith) x1 x0))
    (λ y is. spelt_empty (prefixed unary.Neg start y) ((λ i. expr.Unary unary.Neg (is.0 i)), above_is y.height (expr_height x) is.1 low))))
unary_any unary.Not x d low x2 x1 x0 =
    spelt_left _ (spelt_then (spelt_within (eqb-suc-zero (suc d)) (spelt_word keyword.Not)) (λ start _. spelt_then (part_negation (suc d) (held_spelt 3 x d (omega arith) x1 x0))
    (λ y is. spelt_empty (prefixed unary.Not start y) ((λ i. expr.Unary unary.Not (is.0 i)), above_is y.height (expr_height x) is.1 low))))
unary_any unary.IsNull x d low x2 x1 x0 =
    spelt_then (held_spelt 5 x (suc d) (omega arith) x2 x1) (λ left is. spelt_right _ (spelt_left _ (spelt_then (spelt_word keyword.Is) (λ _ _. spelt_then (spelt_right _ (spelt_empty {P = λ (a : Bool). a ≡ false} false refl))
    (λ negated same. spelt_end (spelt_word keyword.Null) (λ _ _. spelt_empty (null_test left negated) ((λ i. expr.Unary (cond (same i) unary.IsNotNull unary.IsNull) (is.0 i)), above_is left.height (expr_height x) is.1 low)))))))
unary_any unary.IsNotNull x d low x2 x1 x0 =
    spelt_then (held_spelt 5 x (suc d) (omega arith) x2 x1) (λ left is. spelt_right _ (spelt_left _ (spelt_then (spelt_word keyword.Is) (λ _ _. spelt_then (spelt_left _ (spelt_end (spelt_word keyword.Not) (λ _ _. spelt_empty {P = λ (a : Bool). a ≡ true} true refl)))
    (λ negated same. spelt_end (spelt_word keyword.Null) (λ _ _. spelt_empty (null_test left negated) ((λ i. expr.Unary (cond (same i) unary.IsNotNull unary.IsNull) (is.0 i)), above_is left.height (expr_height x) is.1 low)))))))

-- ---- all forms

-- a column, whose expression is spelt
column_spelt : (d : ℕ) (value : SqlExpr) (name : List ℕ) {ks : Tokens} → Spelt (g.Expr d too_high (inner_of d)) (Is value) ks → Spelt (g.ColumnOf d too_high (inner_of d)) (IsColumn value name) (ks ++ kind.Word keyword.As ∷ kind.Name name ∷ [])
column_spelt d value name l = spelt_then l (λ x is. spelt_end (alias_spelt d name) (λ n same. spelt_empty (named_column x n) ((λ i. record { value = is.0 i; name = same i }), is.1)))

-- by how many more parts may be open
by_depth : (T : ℕ → Type 0) (d : ℕ) → T zero → ((p : ℕ) → T (suc p)) → T d
by_depth T zero none some = none
by_depth T (suc p) none some = some p

by_two : (T : ℕ → Type 0) (d : ℕ) → T zero → T (suc zero) → ((p : ℕ) → T (suc (suc p))) → T d
by_two T zero none one some = none
by_two T (suc zero) none one some = one
by_two T (suc (suc p)) none one some = some p

bool_spelt : (d : ℕ) (b : Bool) → Spelt (g.Prim d too_high (inner_of d)) (Is (e.Bool b)) (kind.Word (truth b) ∷ [])
unfolding class_of expr_height
bool_spelt d true = spelt_right _ (spelt_left _ (spelt_kind (kind.Word keyword.True) (λ s. leaf s (e.Bool true)) (λ s. (refl, refl)) (λ s. refl)))
bool_spelt d false = spelt_right _ (spelt_left _ (spelt_kind (kind.Word keyword.False) (λ s. leaf s (e.Bool false)) (λ s. (refl, refl)) (λ s. refl)))

-- what is to be shown of an expression where so many more parts may be open
abbrev Wanted : SqlExpr → ℕ → Type 0
Wanted x d = expr_height x + expr_height x ≤ suc d → Spelt (lang (8 - level_of x) d) (Is x) (tokens_of_expr x)

-- ---- what is to be shown of each form

-- an expression is spelt by its tokens, where so many more parts may be open
unfoldable ExprFact : SqlExpr → Type 0
ExprFact x = (d : ℕ) → HasForm x → expr_height x ≤ MAX_HEIGHT → expr_height x + expr_height x ≤ suc d → Spelt (lang (8 - level_of x) d) (Is x) (tokens_of_expr x)

unfoldable CoreFact : Core → Type 0
CoreFact x = (d : ℕ) → CoreHasForm x → core_height x + core_height x ≤ d → core_height x ≤ MAX_HEIGHT → Spelt (g.CoreOf d too_high (inner_of d)) (IsCore x) (tokens_of_core x)

-- an item is, where it stands first, and where it stands behind others
unfoldable ItemFact : FromItem → Type 0
ItemFact x =
    ((d : ℕ) → BeginsFrom x → ItemHasForm x → item_height x + item_height x ≤ d → item_height x ≤ MAX_HEIGHT → Spelt (g.Item d too_high (inner_of d)) (IsItem x) (tokens_of_item x))
    × ((d : ℕ) → ItemHasForm x → item_height x + item_height x ≤ d → item_height x ≤ MAX_HEIGHT → Spelt (g.FurtherItem d too_high (inner_of d)) (IsItem x) (comma_before x ++ tokens_of_item x))

unfoldable KeyFact : Key → Type 0
KeyFact x = (d : ℕ) → KeyHasForm x → key_height x + key_height x ≤ d → key_height x ≤ MAX_HEIGHT → Spelt (g.KeyOf d too_high (inner_of d)) (IsKey x) (tokens_of_key x)

unfoldable ExprsFacts : {m : _} → Row_of-SqlExpr m → Type 0
ExprsFacts end_of-SqlExpr = Unit {0}
ExprsFacts (more_of-SqlExpr first more) = ExprFact first × ExprsFacts more

unfoldable CoresFacts : {m : _} → Row_of-Core m → Type 0
CoresFacts end_of-Core = Unit {0}
CoresFacts (more_of-Core first more) = CoreFact first × CoresFacts more

unfoldable ColumnsFacts : {m : _} → Row_of-Column m → Type 0
ColumnsFacts end_of-Column = Unit {0}
ColumnsFacts (more_of-Column value name more) = ExprFact value × ColumnsFacts more

unfoldable ItemsFacts : {m : _} → Row_of-FromItem m → Type 0
ItemsFacts end_of-FromItem = Unit {0}
ItemsFacts (more_of-FromItem first more) = ItemFact first × ItemsFacts more

unfoldable KeysFacts : {m : _} → Row_of-Key m → Type 0
KeysFacts end_of-Key = Unit {0}
KeysFacts (more_of-Key first more) = KeyFact first × KeysFacts more

unfoldable HeldFact : Held-Body-condition → Type 0
HeldFact None' = Unit {0}
HeldFact (Some' _ (more_of-SqlExpr x end_of-SqlExpr)) = ExprFact x

-- ---- lists

exprs_further : {m : _} → (more : Row_of-SqlExpr m) → ExprsFacts more → (d : ℕ) → HaveForm more → exprs_height more + exprs_height more ≤ suc d → exprs_height more ≤ MAX_HEIGHT → (all : Bunch)
    → Spelt (Chain (λ all. One (sign_of sign.Comma) >> ((g.within too_high 0 d).expr >>= λ x. Empty (added all x))) all) (AreExprs (all.items ++ exprs_in more) (max all.height (exprs_height more))) (further_exprs more)
unfolding tokens_of_expr expr_height HasForm class_of ExprFact CoreFact ExprsFacts CoresFacts ColumnsFacts ItemFact ItemsFacts KeyFact KeysFacts HeldFact
exprs_further end_of-SqlExpr hs d form fits low all = spelt_stop all (sym (append-nil all.items), max_none all.height)
exprs_further (more_of-SqlExpr first more) hs d form fits low all =
    spelt_turn (spelt_then (spelt_sign sign.Comma) (λ _ _. spelt_end (part_expr d (as_expr d first (hs.0 d form.0 (max_left _ _ _ low) (twice_left _ _ _ fits))))
    (λ x is. spelt_empty {P = AreExprs (all.items ++ first ∷ []) (max all.height (expr_height first))} (added all x) ((λ i. all.items ++ is.0 i ∷ []), (λ i. max all.height (is.1 i))))))
    (λ b so. spelt_as (λ r got. (got.0 ∙ ap (λ l. l ++ exprs_in more) so.0 ∙ append_assoc all.items (first ∷ []) (exprs_in more), got.1 ∙ ap (λ h. max h (exprs_height more)) so.1 ∙ max_apart all.height (expr_height first) (exprs_height more)))
    (exprs_further more hs.1 d form.1 (twice_right _ _ _ fits) (max_right _ _ _ low) b))

exprs_within : {m : _} → (parts : Row_of-SqlExpr m) → ExprsFacts parts → (d : ℕ) → HaveForm parts → exprs_height parts + exprs_height parts ≤ suc d → exprs_height parts ≤ MAX_HEIGHT
    → Spelt (g.ExprsWithin (suc d) too_high (inner_of (suc d))) (AreExprs (exprs_in parts) (exprs_height parts)) (in_parens (tokens_of_exprs parts))
unfolding tokens_of_expr expr_height HasForm class_of ExprFact CoreFact ExprsFacts CoresFacts ColumnsFacts ItemFact ItemsFacts KeyFact KeysFacts HeldFact
exprs_within end_of-SqlExpr hs d form fits low = spelt_then (open_paren d) (λ _ _. spelt_left _ (spelt_end close_paren (λ _ _. spelt_empty nothing_yet (refl, refl))))
exprs_within (more_of-SqlExpr first more) hs d form fits low =
    spelt_then (open_paren d) (λ _ _. spelt_right _ (spelt_then (spelt_then (part_expr d (as_expr d first (hs.0 d form.0 (max_left _ _ _ low) (twice_left _ _ _ fits))))
    (λ x is. spelt_as (λ r got. (got.0 ∙ (λ i. is.0 i ∷ exprs_in more), got.1 ∙ ap (λ h. max h (exprs_height more)) is.1)) (exprs_further more hs.1 d form.1 (twice_right _ _ _ fits) (max_right _ _ _ low) (alone x))))
    (λ all is. spelt_end close_paren (λ _ _. spelt_empty all is))))

cores_further : {m : _} → (more : Row_of-Core m) → CoresFacts more → (d : ℕ) → FurtherHaveForm more → cores_height more + cores_height more ≤ d → cores_height more ≤ MAX_HEIGHT → (all : Cores)
    → Spelt (Chain (λ all. g.FurtherCore d too_high (inner_of d) >>= λ x. Empty (added_core all x)) all) (AreCores (all.cores ++ cores_in more) (max all.height (cores_height more))) (further_cores more)
unfolding tokens_of_expr expr_height HasForm class_of ExprFact CoreFact ExprsFacts CoresFacts ColumnsFacts ItemFact ItemsFacts KeyFact KeysFacts HeldFact
cores_further end_of-Core hs d form fits low all = spelt_stop all (sym (append-nil all.cores), max_none all.height)
cores_further (more_of-Core first more) hs d form fits low all =
    spelt_turn (spelt_end (spelt_then (spelt_word keyword.Union) (λ _ _. spelt_then (spelt_word keyword.All) (λ _ _. hs.0 d form.0 (twice_left _ _ _ fits) (max_left _ _ _ low))))
    (λ y is. spelt_empty {P = AreCores (all.cores ++ first ∷ []) (max all.height (core_height first))} (added_core all y) ((λ i. all.cores ++ is.0 i ∷ []), (λ i. max all.height (is.1 i)))))
    (λ b so. spelt_as (λ r got. (got.0 ∙ ap (λ l. l ++ cores_in more) so.0 ∙ append_assoc all.cores (first ∷ []) (cores_in more), got.1 ∙ ap (λ h. max h (cores_height more)) so.1 ∙ max_apart all.height (core_height first) (cores_height more)))
    (cores_further more hs.1 d form.1 (twice_right _ _ _ fits) (max_right _ _ _ low) b))

select_spelt : {m : _} → (cores : Row_of-Core m) → CoresFacts cores → (d : ℕ) → CoresHaveForm cores → cores_height cores + cores_height cores ≤ d → suc (cores_height cores) ≤ MAX_HEIGHT
    → Spelt (g.Sel d too_high (inner_of d)) (IsSelect (cores_in cores) (suc (cores_height cores))) (tokens_of_cores cores)
unfolding tokens_of_expr expr_height HasForm class_of ExprFact CoreFact ExprsFacts CoresFacts ColumnsFacts ItemFact ItemsFacts KeyFact KeysFacts HeldFact
select_spelt end_of-Core hs d form fits low = absurd form
select_spelt (more_of-Core first more) hs d form fits low =
    spelt_end (spelt_then (hs.0 d form.0 (twice_left _ _ _ fits) (let small : max (core_height first) (cores_height more) ≤ MAX_HEIGHT = omega arith in max_left _ _ _ small))
    (λ y is. spelt_as {Q = AreCores (first ∷ cores_in more) (max (core_height first) (cores_height more))} (λ r got. (got.0 ∙ (λ i. is.0 i ∷ cores_in more), got.1 ∙ ap (λ h. max h (cores_height more)) is.1))
    (cores_further more hs.1 d form.1 (twice_right _ _ _ fits) (let small : max (core_height first) (cores_height more) ≤ MAX_HEIGHT = omega arith in max_right _ _ _ small) (first_core y))))
    (λ all is. spelt_empty (select_of all) ((λ i. record { cores = is.0 i }), above_is all.height (max (core_height first) (cores_height more)) is.1 low))

columns_further : {m : _} → (more : Row_of-Column m) → ColumnsFacts more → (d : ℕ) → FurtherColumnsHaveForm more → columns_height more + columns_height more ≤ d → columns_height more ≤ MAX_HEIGHT
    → (y : GrownCore) (b : Bool) (cs : List Column) (body : Body) (h : ℕ) → IsSoFar b cs body h y
    → Spelt (Chain (λ y. One (sign_of sign.Comma) >> (g.ColumnOf d too_high (inner_of d) >>= λ x. Empty (added_column y x))) y) (IsSoFar b (cs ++ columns_in more) body (max h (columns_height more))) (further_columns more)
unfolding tokens_of_expr expr_height HasForm class_of ExprFact CoreFact ExprsFacts CoresFacts ColumnsFacts ItemFact ItemsFacts KeyFact KeysFacts HeldFact
columns_further end_of-Column hs d form fits low y b cs body h so = spelt_stop y (so.0, so.1 ∙ sym (append-nil cs), so.2, so.3 ∙ max_none h)
columns_further (more_of-Column value name more) hs d form fits low y b cs body h so =
    spelt_same (ap (λ (l : Tokens). kind.Sign sign.Comma ∷ l) (append_assoc (tokens_of_expr value) (kind.Word keyword.As ∷ kind.Name name ∷ []) (further_columns more)))
    (spelt_turn (spelt_then (spelt_sign sign.Comma) (λ _ _. spelt_end (column_spelt d value name (as_expr d value (hs.0 d form.0 (max_left _ _ _ low) (let two : expr_height value + expr_height value ≤ d = twice_left _ _ _ fits in omega arith))))
    (λ x is. spelt_empty {P = IsSoFar b (cs ++ record { value = value; name = name } ∷ []) body (max h (expr_height value))} (added_column y x) (so.0, (λ i. so.1 i ++ is.0 i ∷ []), so.2, (λ i. max (so.3 i) (is.1 i))))))
    (λ z sz. spelt_as (λ r got. (got.0, got.1 ∙ append_assoc cs (record { value = value; name = name } ∷ []) (columns_in more), got.2, got.3 ∙ max_apart h (expr_height value) (columns_height more)))
    (columns_further more hs.1 d form.1 (twice_right _ _ _ fits) (max_right _ _ _ low) z b (cs ++ record { value = value; name = name } ∷ []) body (max h (expr_height value)) sz)))

columns_spelt : (b : Bool) {m : _} → (columns : Row_of-Column m) → ColumnsFacts columns → (d : ℕ) → ColumnsHaveForm columns → columns_height columns + columns_height columns ≤ d → columns_height columns ≤ MAX_HEIGHT
    → Spelt (g.Columns d too_high (inner_of d)) (IsSoFar b (columns_in columns) no_body (columns_height columns)) (kind.Word keyword.Select ∷ (distinct_tokens b ++ tokens_of_columns columns))
unfolding tokens_of_expr expr_height HasForm class_of ExprFact CoreFact ExprsFacts CoresFacts ColumnsFacts ItemFact ItemsFacts KeyFact KeysFacts HeldFact
columns_spelt b end_of-Column hs d form fits low = absurd form
columns_spelt b (more_of-Column value name more) hs d form fits low =
    spelt_then (spelt_word keyword.Select) (λ start _. spelt_then (distinct_spelt d b) (λ distinct same. spelt_same (append_assoc (tokens_of_expr value) (kind.Word keyword.As ∷ kind.Name name ∷ []) (further_columns more))
    (spelt_then (column_spelt d value name (as_expr d value (hs.0 d form.0 (max_left _ _ _ low) (let two : expr_height value + expr_height value ≤ d = twice_left _ _ _ fits in omega arith))))
    (λ x is. columns_further more hs.1 d form.1 (twice_right _ _ _ fits) (max_right _ _ _ low) (first_column start distinct x) b (record { value = value; name = name } ∷ []) no_body (expr_height value) (same, (λ i. is.0 i ∷ []), refl, is.1)))))

items_further : {m : _} → (more : Row_of-FromItem m) → ItemsFacts more → (d : ℕ) → ItemsHaveForm more → items_height more + items_height more ≤ d → items_height more ≤ MAX_HEIGHT
    → (y : GrownCore) (b : Bool) (cs : List Column) (fs : List FromItem) (h : ℕ) → IsSoFar b cs (a_body fs None [] None None) h y
    → Spelt (Chain (λ y. g.FurtherItem d too_high (inner_of d) >>= λ x. Empty (with_item y x)) y) (IsSoFar b cs (a_body (fs ++ items_in more) None [] None None) (max h (items_height more))) (further_items more)
unfolding tokens_of_expr expr_height HasForm class_of ExprFact CoreFact ExprsFacts CoresFacts ColumnsFacts ItemFact ItemsFacts KeyFact KeysFacts HeldFact
items_further end_of-FromItem hs d form fits low y b cs fs h so = spelt_stop y (so.0, so.1, so.2 ∙ ap (λ l. a_body l None [] None None) (sym (append-nil fs)), so.3 ∙ max_none h)
items_further (more_of-FromItem first more) hs d form fits low y b cs fs h so =
    spelt_same (append_assoc (comma_before first) (tokens_of_item first) (further_items more))
    (spelt_turn (spelt_end (hs.0.1 d form.0 (twice_left _ _ _ fits) (max_left _ _ _ low))
    (λ x is. spelt_empty {P = IsSoFar b cs (a_body (fs ++ first ∷ []) None [] None None) (max h (item_height first))} (with_item y x)
    (so.0, so.1, (λ i. a_body ((so.2 i).from ++ is.0 i ∷ []) (so.2 i).condition (so.2 i).keys (so.2 i).offset (so.2 i).limit), (λ i. max (so.3 i) (is.1 i)))))
    (λ z sz. spelt_as (λ r got. (got.0, got.1, got.2 ∙ ap (λ l. a_body l None [] None None) (append_assoc fs (first ∷ []) (items_in more)), got.3 ∙ max_apart h (item_height first) (items_height more)))
    (items_further more hs.1 d form.1 (twice_right _ _ _ fits) (max_right _ _ _ low) z b cs (fs ++ first ∷ []) (max h (item_height first)) sz)))

from_spelt : {m : _} → (items : Row_of-FromItem m) → ItemsFacts items → (d : ℕ) → FromHasForm items → items_height items + items_height items ≤ d → items_height items ≤ MAX_HEIGHT
    → (y : GrownCore) (b : Bool) (cs : List Column) (h : ℕ) → IsSoFar b cs no_body h y
    → Spelt (g.From d too_high (inner_of d) y) (IsSoFar b cs (a_body (items_in items) None [] None None) (max h (items_height items))) (tokens_of_from items)
unfolding tokens_of_expr expr_height HasForm class_of ExprFact CoreFact ExprsFacts CoresFacts ColumnsFacts ItemFact ItemsFacts KeyFact KeysFacts HeldFact
from_spelt end_of-FromItem hs d form fits low y b cs h so = spelt_right _ (spelt_empty y (so.0, so.1, so.2, so.3 ∙ max_none h))
from_spelt (more_of-FromItem first more) hs d form fits low y b cs h so =
    spelt_left _ (spelt_then (spelt_word keyword.From) (λ _ _. spelt_then (hs.0.0 d form.0 form.1 (twice_left _ _ _ fits) (max_left _ _ _ low))
    (λ x is. spelt_as (λ r got. (got.0, got.1, got.2, got.3 ∙ max_apart h (item_height first) (items_height more)))
    (items_further more hs.1 d form.2 (twice_right _ _ _ fits) (max_right _ _ _ low) (with_item y x) b cs (first ∷ []) (max h (item_height first))
    (so.0, so.1, (λ i. a_body ((so.2 i).from ++ is.0 i ∷ []) (so.2 i).condition (so.2 i).keys (so.2 i).offset (so.2 i).limit), (λ i. max (so.3 i) (is.1 i)))))))

keys_further : {m : _} → (more : Row_of-Key m) → KeysFacts more → (d : ℕ) → KeysHaveForm more → keys_height more + keys_height more ≤ d → keys_height more ≤ MAX_HEIGHT
    → (y : GrownCore) (b : Bool) (cs : List Column) (fs : List FromItem) (condition : Option SqlExpr) (ks : List Key) (h : ℕ) → IsSoFar b cs (a_body fs condition ks None None) h y
    → Spelt (Chain (λ y. One (sign_of sign.Comma) >> (g.KeyOf d too_high (inner_of d) >>= λ x. Empty (with_key y x))) y) (IsSoFar b cs (a_body fs condition (ks ++ keys_in more) None None) (max h (keys_height more))) (further_keys more)
unfolding tokens_of_expr expr_height HasForm class_of ExprFact CoreFact ExprsFacts CoresFacts ColumnsFacts ItemFact ItemsFacts KeyFact KeysFacts HeldFact
keys_further end_of-Key hs d form fits low y b cs fs condition ks h so = spelt_stop y (so.0, so.1, so.2 ∙ ap (λ l. a_body fs condition l None None) (sym (append-nil ks)), so.3 ∙ max_none h)
keys_further (more_of-Key first more) hs d form fits low y b cs fs condition ks h so =
    spelt_turn (spelt_then (spelt_sign sign.Comma) (λ _ _. spelt_end (hs.0 d form.0 (twice_left _ _ _ fits) (max_left _ _ _ low))
    (λ x is. spelt_empty {P = IsSoFar b cs (a_body fs condition (ks ++ first ∷ []) None None) (max h (key_height first))} (with_key y x)
    (so.0, so.1, (λ i. a_body (so.2 i).from (so.2 i).condition ((so.2 i).keys ++ is.0 i ∷ []) (so.2 i).offset (so.2 i).limit), (λ i. max (so.3 i) (is.1 i))))))
    (λ z sz. spelt_as (λ r got. (got.0, got.1, got.2 ∙ ap (λ l. a_body fs condition l None None) (append_assoc ks (first ∷ []) (keys_in more)), got.3 ∙ max_apart h (key_height first) (keys_height more)))
    (keys_further more hs.1 d form.1 (twice_right _ _ _ fits) (max_right _ _ _ low) z b cs fs condition (ks ++ first ∷ []) (max h (key_height first)) sz))

order_spelt : {m : _} → (keys : Row_of-Key m) → KeysFacts keys → (d : ℕ) → KeysHaveForm keys → keys_height keys + keys_height keys ≤ d → keys_height keys ≤ MAX_HEIGHT
    → (y : GrownCore) (b : Bool) (cs : List Column) (fs : List FromItem) (condition : Option SqlExpr) (h : ℕ) → IsSoFar b cs (a_body fs condition [] None None) h y
    → Spelt (g.Order d too_high (inner_of d) y) (IsSoFar b cs (a_body fs condition (keys_in keys) None None) (max h (keys_height keys))) (tokens_of_keys keys)
unfolding tokens_of_expr expr_height HasForm class_of ExprFact CoreFact ExprsFacts CoresFacts ColumnsFacts ItemFact ItemsFacts KeyFact KeysFacts HeldFact
order_spelt end_of-Key hs d form fits low y b cs fs condition h so = spelt_right _ (spelt_empty y (so.0, so.1, so.2, so.3 ∙ max_none h))
order_spelt (more_of-Key first more) hs d form fits low y b cs fs condition h so =
    spelt_left _ (spelt_then (spelt_word keyword.Order) (λ _ _. spelt_then (spelt_word keyword.By) (λ _ _. spelt_then (hs.0 d form.0 (twice_left _ _ _ fits) (max_left _ _ _ low))
    (λ x is. spelt_as (λ r got. (got.0, got.1, got.2, got.3 ∙ max_apart h (key_height first) (keys_height more)))
    (keys_further more hs.1 d form.1 (twice_right _ _ _ fits) (max_right _ _ _ low) (with_key y x) b cs fs condition (first ∷ []) (max h (key_height first))
    (so.0, so.1, (λ i. a_body (so.2 i).from (so.2 i).condition ((so.2 i).keys ++ is.0 i ∷ []) (so.2 i).offset (so.2 i).limit), (λ i. max (so.3 i) (is.1 i))))))))

where_spelt : (x : Held-Body-condition) → HeldFact x → (d : ℕ) → HeldHasForm x → option_height x + option_height x ≤ d → option_height x ≤ MAX_HEIGHT
    → (y : GrownCore) (b : Bool) (cs : List Column) (fs : List FromItem) (h : ℕ) → IsSoFar b cs (a_body fs None [] None None) h y
    → Spelt (g.Where d too_high (inner_of d) y) (IsSoFar b cs (a_body fs (held_in x) [] None None) (max h (option_height x))) (tokens_of_condition x)
unfolding tokens_of_expr expr_height HasForm class_of ExprFact CoreFact ExprsFacts CoresFacts ColumnsFacts ItemFact ItemsFacts KeyFact KeysFacts HeldFact
where_spelt None' hs d form fits low y b cs fs h so = spelt_right _ (spelt_empty y (so.0, so.1, so.2, so.3 ∙ max_none h))
where_spelt (Some' s (more_of-SqlExpr x end_of-SqlExpr)) hs d form fits low y b cs fs h so =
    spelt_left _ (spelt_then (spelt_word keyword.Where) (λ _ _. spelt_end (as_expr d x (hs d form low (omega arith)))
    (λ v is. spelt_empty (with_condition y v) (so.0, so.1, (λ i. a_body (so.2 i).from (Some (is.0 i)) (so.2 i).keys (so.2 i).offset (so.2 i).limit), (λ i. max (so.3 i) (is.1 i))))))

offset_spelt : (x : Held-Body-condition) → HeldFact x → (d : ℕ) → HeldHasForm x → option_height x + option_height x ≤ d → option_height x ≤ MAX_HEIGHT
    → (y : GrownCore) (b : Bool) (cs : List Column) (fs : List FromItem) (condition : Option SqlExpr) (ks : List Key) (h : ℕ) → IsSoFar b cs (a_body fs condition ks None None) h y
    → Spelt (g.Offset d too_high (inner_of d) y) (IsSoFar b cs (a_body fs condition ks (held_in x) None) (max h (option_height x))) (tokens_of_offset x)
unfolding tokens_of_expr expr_height HasForm class_of ExprFact CoreFact ExprsFacts CoresFacts ColumnsFacts ItemFact ItemsFacts KeyFact KeysFacts HeldFact
offset_spelt None' hs d form fits low y b cs fs condition ks h so = spelt_right _ (spelt_empty y (so.0, so.1, so.2, so.3 ∙ max_none h))
offset_spelt (Some' s (more_of-SqlExpr x end_of-SqlExpr)) hs d form fits low y b cs fs condition ks h so =
    spelt_left _ (spelt_then (spelt_word keyword.Offset) (λ _ _. spelt_end (as_expr d x (hs d form low (omega arith)))
    (λ v is. spelt_empty (with_offset y v) (so.0, so.1, (λ i. a_body (so.2 i).from (so.2 i).condition (so.2 i).keys (Some (is.0 i)) (so.2 i).limit), (λ i. max (so.3 i) (is.1 i))))))

limit_spelt : (x : Held-Body-condition) → HeldFact x → (d : ℕ) → HeldHasForm x → option_height x + option_height x ≤ d → option_height x ≤ MAX_HEIGHT
    → (y : GrownCore) (b : Bool) (cs : List Column) (fs : List FromItem) (condition : Option SqlExpr) (ks : List Key) (offset : Option SqlExpr) (h : ℕ) → IsSoFar b cs (a_body fs condition ks offset None) h y
    → Spelt (g.Limit d too_high (inner_of d) y) (IsSoFar b cs (a_body fs condition ks offset (held_in x)) (max h (option_height x))) (tokens_of_limit x)
unfolding tokens_of_expr expr_height HasForm class_of ExprFact CoreFact ExprsFacts CoresFacts ColumnsFacts ItemFact ItemsFacts KeyFact KeysFacts HeldFact
limit_spelt None' hs d form fits low y b cs fs condition ks offset h so = spelt_right _ (spelt_empty y (so.0, so.1, so.2, so.3 ∙ max_none h))
limit_spelt (Some' s (more_of-SqlExpr x end_of-SqlExpr)) hs d form fits low y b cs fs condition ks offset h so =
    spelt_left _ (spelt_then (spelt_word keyword.Limit) (λ _ _. spelt_end (as_expr d x (hs d form low (omega arith)))
    (λ v is. spelt_empty (with_limit y v) (so.0, so.1, (λ i. a_body (so.2 i).from (so.2 i).condition (so.2 i).keys (so.2 i).offset (Some (is.0 i))), (λ i. max (so.3 i) (is.1 i))))))

-- ---- forms

int_form : (z : ℤ) → ExprFact (e.Int z)
unfolding tokens_of_expr expr_height HasForm class_of ExprFact CoreFact ExprsFacts CoresFacts ColumnsFacts ItemFact ItemsFacts KeyFact KeysFacts HeldFact
int_form z d form low fits = spelt_right _ (spelt_left _ (spelt_kind (kind.Int z) (λ s. leaf s (e.Int z)) (λ s. (refl, refl)) (λ s. refl)))

text_form : (text : List ℕ) → ExprFact (e.Text text)
unfolding tokens_of_expr expr_height HasForm class_of ExprFact CoreFact ExprsFacts CoresFacts ColumnsFacts ItemFact ItemsFacts KeyFact KeysFacts HeldFact
text_form text d form low fits = spelt_right _ (spelt_left _ (spelt_kind (kind.Str text) (λ s. leaf s (e.Text text)) (λ s. (refl, refl)) (λ s. refl)))

bool_form : (b : Bool) → ExprFact (e.Bool b)
unfolding tokens_of_expr expr_height HasForm class_of ExprFact CoreFact ExprsFacts CoresFacts ColumnsFacts ItemFact ItemsFacts KeyFact KeysFacts HeldFact
bool_form b d form low fits = bool_spelt d b

uuid_form : (n : ℕ) → ExprFact (e.Uuid n)
unfolding tokens_of_expr expr_height HasForm class_of ExprFact CoreFact ExprsFacts CoresFacts ColumnsFacts ItemFact ItemsFacts KeyFact KeysFacts HeldFact
uuid_form n d form low fits = spelt_right _ (spelt_right _ (spelt_left _ (spelt_then (spelt_word keyword.Uuid) (λ start _. spelt_end (id_spelt n form) (λ id same. spelt_empty (uuid start id) (ap e.Uuid same, refl))))))

null_form : (t : SqlTy) → ExprFact (e.Null t)
unfolding tokens_of_expr expr_height HasForm class_of ExprFact CoreFact ExprsFacts CoresFacts ColumnsFacts ItemFact ItemsFacts KeyFact KeysFacts HeldFact
null_form t d form low fits =
    spelt_right _ (spelt_right _ (spelt_right _ (spelt_left _ (spelt_then (spelt_word keyword.Null) (λ start _. spelt_then (spelt_sign sign.Cast) (λ _ _. spelt_end (type_spelt t d (omega arith) (omega arith))
    (λ y is. spelt_empty (null_of start y) (ap e.Null is.0, above_is y.height (type_height t) is.1 low))))))))

column_form : (alias name : List ℕ) → ExprFact (e.Column alias name)
unfolding tokens_of_expr expr_height HasForm class_of ExprFact CoreFact ExprsFacts CoresFacts ColumnsFacts ItemFact ItemsFacts KeyFact KeysFacts HeldFact
column_form alias name d form low fits =
    spelt_right _ (spelt_right _ (spelt_right _ (spelt_right _ (spelt_left _ (spelt_then (name_spelt alias) (λ a is_a. spelt_then (spelt_sign sign.Dot) (λ _ _. spelt_end (name_spelt name)
    (λ n is_n. spelt_empty (column a n) ((λ i. e.Column (is_a i) (is_n i)), refl)))))))))

arg_form : (name : List ℕ) (t : SqlTy) → ExprFact (e.Arg name t)
unfolding tokens_of_expr expr_height HasForm class_of ExprFact CoreFact ExprsFacts CoresFacts ColumnsFacts ItemFact ItemsFacts KeyFact KeysFacts HeldFact
arg_form name t d form low fits =
    by_depth (Wanted (e.Arg name t)) d (λ fits. absurd (omega arith)) (λ d fits.
    prim_form (suc d) (spelt_left _ (spelt_then (spelt_word keyword.Arg) (λ start _. spelt_then (open_paren d) (λ _ _. spelt_then (text_spelt name) (λ n is_n. spelt_then (spelt_sign sign.Comma) (λ _ _. spelt_then (part_ty d (type_spelt t d (omega arith) (omega arith)))
    (λ y is. spelt_end close_paren (λ _ _. spelt_empty (argument start n y) ((λ i. e.Arg (is_n i) (is.0 i)), above_is y.height (type_height t) is.1 low)))))))))) fits

global_form : (name : List ℕ) → ExprFact (e.Global name)
unfolding tokens_of_expr expr_height HasForm class_of ExprFact CoreFact ExprsFacts CoresFacts ColumnsFacts ItemFact ItemsFacts KeyFact KeysFacts HeldFact
global_form name d form low fits =
    by_depth (Wanted (e.Global name)) d (λ fits. absurd (omega arith)) (λ d fits.
    prim_form (suc d) (spelt_right _ (spelt_left _ (spelt_then (spelt_word keyword.Global) (λ start _. spelt_then (open_paren d) (λ _ _. spelt_then (text_spelt name) (λ n is_n. spelt_end close_paren (λ _ _. spelt_empty (global start n) (ap e.Global is_n, refl))))))))) fits

array_form : (s : _) (cores : _) → CoresFacts cores → ExprFact (e.Array' s cores)
unfolding tokens_of_expr expr_height HasForm class_of ExprFact CoreFact ExprsFacts CoresFacts ColumnsFacts ItemFact ItemsFacts KeyFact KeysFacts HeldFact
array_form s cores hs d form low fits =
    by_depth (Wanted (e.Array' s cores)) d (λ fits. absurd (omega arith)) (λ d fits.
    prim_form (suc d) (spelt_right _ (spelt_right _ (spelt_left _ (spelt_then (spelt_word keyword.Array) (λ start _. spelt_end (sub_spelt d (select_spelt cores hs d form (omega arith) (omega arith)))
    (λ y is. spelt_empty (array start y) (ap e.Array is.0 ∙ sym (array_is s cores), above_is y.height (suc (cores_height cores)) is.1 low)))))))) fits

row_form : (s : _) (parts : _) → ExprsFacts parts → ExprFact (e.Row' s parts)
unfolding tokens_of_expr expr_height HasForm class_of ExprFact CoreFact ExprsFacts CoresFacts ColumnsFacts ItemFact ItemsFacts KeyFact KeysFacts HeldFact
row_form s parts hs d form low fits =
    by_depth (Wanted (e.Row' s parts)) d (λ fits. absurd (omega arith)) (λ d fits.
    prim_form (suc d) (spelt_right _ (spelt_right _ (spelt_right _ (spelt_left _ (spelt_then (spelt_word keyword.Row) (λ start _. spelt_end (exprs_within parts hs d form (omega arith) (omega arith))
    (λ all is. spelt_empty (row start all) (ap e.Row is.0 ∙ sym (row_is s parts), above_is all.height (exprs_height parts) is.1 low))))))))) fits

part_form : (s : _) (x : SqlExpr) (z : ℤ) → ExprFact x → ExprFact (e.Part' s (more_of-SqlExpr x end_of-SqlExpr) z)
unfolding tokens_of_expr expr_height HasForm class_of ExprFact CoreFact ExprsFacts CoresFacts ColumnsFacts ItemFact ItemsFacts KeyFact KeysFacts HeldFact
part_form s x z hx d form low fits =
    by_depth (Wanted (e.Part' s (more_of-SqlExpr x end_of-SqlExpr) z)) d (λ fits. absurd (omega arith)) (λ d fits.
    prim_form (suc d) (spelt_right _ (spelt_right _ (spelt_right _ (spelt_right _ (spelt_left _
    (spelt_same (ap (λ (l : Tokens). kind.Word keyword.Part ∷ kind.Sign sign.LeftParen ∷ l) (sym (append_assoc (tokens_of_expr x) (kind.Sign sign.Comma ∷ kind.Int z ∷ []) (kind.Sign sign.RightParen ∷ []))))
    (spelt_then (spelt_word keyword.Part) (λ start _. spelt_then (open_paren d) (λ _ _. spelt_then (part_expr d (as_expr d x (hx d form (omega arith) (omega arith)))) (λ y is. spelt_then (spelt_sign sign.Comma) (λ _ _. spelt_then (number_spelt z)
    (λ number same. spelt_end close_paren (λ _ _. spelt_empty (part start y number) ((λ i. e.Part (is.0 i) (same i)) ∙ sym (part_is s x z), above_is y.height (expr_height x) is.1 low))))))))))))))) fits

case_form : (s : _) (x : SqlExpr) (u : _) (y : SqlExpr) (v : _) (z : SqlExpr) → ExprFact x → ExprFact y → ExprFact z → ExprFact (e.Case' s (more_of-SqlExpr x end_of-SqlExpr) u (more_of-SqlExpr y end_of-SqlExpr) v (more_of-SqlExpr z end_of-SqlExpr))
unfolding tokens_of_expr expr_height HasForm class_of ExprFact CoreFact ExprsFacts CoresFacts ColumnsFacts ItemFact ItemsFacts KeyFact KeysFacts HeldFact
case_form s x u y v z hx hy hz d form low fits =
    by_depth (Wanted (e.Case' s (more_of-SqlExpr x end_of-SqlExpr) u (more_of-SqlExpr y end_of-SqlExpr) v (more_of-SqlExpr z end_of-SqlExpr))) d (λ fits. absurd (omega arith)) (λ d fits.
    prim_form (suc d) (spelt_right _ (spelt_right _ (spelt_right _ (spelt_right _ (spelt_right _ (spelt_left _
    (spelt_then (spelt_within (eqb-suc-zero d) (spelt_word keyword.Case)) (λ start _. spelt_then (spelt_word keyword.When) (λ _ _. spelt_then (part_expr d (as_expr d x (hx d form.0 (omega arith) (omega arith))))
    (λ a p. spelt_then (spelt_word keyword.Then) (λ _ _. spelt_then (part_expr d (as_expr d y (hy d form.1 (omega arith) (omega arith))))
    (λ b q. spelt_then (spelt_word keyword.Else) (λ _ _. spelt_then (part_expr d (as_expr d z (hz d form.2 (omega arith) (omega arith))))
    (λ c r. spelt_end (spelt_word keyword.End) (λ _ _. spelt_empty (case_of start a b c) (
      (λ i. e.Case (record { condition = p.0 i; value = q.0 i; other = r.0 i })) ∙ sym (case_is s u v x y z),
      above_is (max a.height (max b.height c.height)) (max (expr_height x) (max (expr_height y) (expr_height z))) (λ i. max (p.1 i) (max (q.1 i) (r.1 i))) low,
    ))))))))))))))))) fits

cast_form : (s : _) (x : SqlExpr) (t : SqlTy) → ExprFact x → ExprFact (e.Cast' s (more_of-SqlExpr x end_of-SqlExpr) t)
unfolding tokens_of_expr expr_height HasForm class_of ExprFact CoreFact ExprsFacts CoresFacts ColumnsFacts ItemFact ItemsFacts KeyFact KeysFacts HeldFact
cast_form s x t hx d form low fits =
    by_depth (Wanted (e.Cast' s (more_of-SqlExpr x end_of-SqlExpr) t)) d (λ fits. absurd (omega arith)) (λ d fits.
    prim_form (suc d) (spelt_right _ (spelt_right _ (spelt_right _ (spelt_right _ (spelt_right _ (spelt_right _ (spelt_left _
    (spelt_same (ap (λ (l : Tokens). kind.Word keyword.Cast ∷ kind.Sign sign.LeftParen ∷ l) (sym (append_assoc (tokens_of_expr x) (kind.Word keyword.As ∷ tokens_of_ty t) (kind.Sign sign.RightParen ∷ []))))
    (spelt_then (spelt_word keyword.Cast) (λ start _. spelt_then (open_paren d) (λ _ _. spelt_then (part_expr d (as_expr d x (hx d form (omega arith) (omega arith)))) (λ a p. spelt_then (spelt_word keyword.As) (λ _ _. spelt_then (part_ty d (type_spelt t d (omega arith) (omega arith)))
    (λ b q. spelt_end close_paren (λ _ _. spelt_empty (cast start a b) ((λ i. e.Cast (p.0 i) (q.0 i)) ∙ sym (cast_is s x t), above_is (max a.height b.height) (max (expr_height x) (type_height t)) (λ i. max (p.1 i) (q.1 i)) low))))))))))))))))) fits

unary_form : (o : UnaryOp) (s : _) (x : SqlExpr) → ExprFact x → ExprFact (e.Unary' o s (more_of-SqlExpr x end_of-SqlExpr))
unfolding tokens_of_expr expr_height HasForm class_of ExprFact CoreFact ExprsFacts CoresFacts ColumnsFacts ItemFact ItemsFacts KeyFact KeysFacts HeldFact
unary_form o s x hx d form low fits =
    by_two (Wanted (e.Unary' o s (more_of-SqlExpr x end_of-SqlExpr))) d (λ fits. absurd (omega arith)) (λ fits. absurd (let some : 1 ≤ expr_height x = positive x in omega arith)) (λ d fits.
    spelt_as (λ r is. (is.0 ∙ sym (unary_is o s x), is.1)) (unary_any o x d low (hx (suc (suc d)) form (omega arith) (omega arith)) (hx (suc d) form (omega arith) (omega arith)) (hx d form (omega arith) (omega arith)))) fits

binary_form : (o : BinaryOp) (s : _) (x : SqlExpr) (u : _) (y : SqlExpr) → ExprFact x → ExprFact y → ExprFact (e.Binary' o s (more_of-SqlExpr x end_of-SqlExpr) u (more_of-SqlExpr y end_of-SqlExpr))
unfolding tokens_of_expr expr_height HasForm class_of ExprFact CoreFact ExprsFacts CoresFacts ColumnsFacts ItemFact ItemsFacts KeyFact KeysFacts HeldFact
binary_form o s x u y hx hy d form low fits =
    by_depth (Wanted (e.Binary' o s (more_of-SqlExpr x end_of-SqlExpr) u (more_of-SqlExpr y end_of-SqlExpr))) d (λ fits. absurd (omega arith)) (λ d fits.
    spelt_as (λ r is. (is.0 ∙ sym (binary_is o s u x y), is.1)) (binary_any o x y d low (hx (suc d) form.0 (omega arith) (omega arith)) (hx d form.0 (omega arith) (omega arith)) (hy (suc d) form.1 (omega arith) (omega arith)) (hy d form.1 (omega arith) (omega arith)))) fits

call_form : (o : Function) (s : _) (x : SqlExpr) → ExprFact x → ExprFact (e.Call' o s (more_of-SqlExpr x end_of-SqlExpr))
unfolding tokens_of_expr expr_height HasForm class_of ExprFact CoreFact ExprsFacts CoresFacts ColumnsFacts ItemFact ItemsFacts KeyFact KeysFacts HeldFact
call_form o s x hx d form low fits =
    by_depth (Wanted (e.Call' o s (more_of-SqlExpr x end_of-SqlExpr))) d (λ fits. absurd (omega arith)) (λ d fits.
    prim_form (suc d) (spelt_right _ (spelt_right _ (spelt_right _ (spelt_right _ (spelt_right _ (spelt_right _ (spelt_right _
    (spelt_then (function_spelt o) (λ found same. spelt_end (within_spelt d x (as_expr d x (hx d form (omega arith) (omega arith)))) (λ y is. spelt_empty (call found y) ((λ i. e.Call (same i) (is.0 i)) ∙ sym (call_is o s x), above_is y.height (expr_height x) is.1 low)))))))))))) fits

all_form : (s1 : _) (columns : _) (s2 : _) (items : _) (condition : Held-Body-condition) (s3 : _) (keys : _) (offset limit : Held-Body-condition) → ColumnsFacts columns → ItemsFacts items → HeldFact condition → KeysFacts keys → HeldFact offset → HeldFact limit → CoreFact (c.All' s1 columns s2 items condition s3 keys offset limit)
unfolding tokens_of_expr expr_height HasForm class_of ExprFact CoreFact ExprsFacts CoresFacts ColumnsFacts ItemFact ItemsFacts KeyFact KeysFacts HeldFact
all_form s1 columns s2 items condition s3 keys offset limit h1 h2 h3 h4 h5 h6 d form fits low =
    let bounds : Bounds d (columns_height columns) (items_height items) (option_height condition) (keys_height keys) (option_height offset) (option_height limit) = bounds d (columns_height columns) (items_height items) (option_height condition) (keys_height keys) (option_height offset) (option_height limit) fits low in
    spelt_as {Q = IsCore (c.All' s1 columns s2 items condition s3 keys offset limit)} (λ y so. ((λ i. cond (so.0 i) (core.Distinct (so.1 i) (so.2 i)) (core.All (so.1 i) (so.2 i))) ∙ sym (all_is s1 columns s2 items condition s3 keys offset limit), so.3 ∙ six (columns_height columns) (items_height items) (option_height condition) (keys_height keys) (option_height offset) (option_height limit)))
    (spelt_then (columns_spelt false columns h1 d form.0 bounds.a2 bounds.a1) (λ y1 p1. spelt_then (from_spelt items h2 d form.1 bounds.b2 bounds.b1 y1 false (columns_in columns) (columns_height columns) p1)
    (λ y2 p2. spelt_then (where_spelt condition h3 d form.2 bounds.c2 bounds.c1 y2 false (columns_in columns) (items_in items) _ p2) (λ y3 p3. spelt_then (order_spelt keys h4 d form.3 bounds.d2 bounds.d1 y3 false (columns_in columns) (items_in items) (held_in condition) _ p3)
    (λ y4 p4. spelt_then (offset_spelt offset h5 d form.4 bounds.e2 bounds.e1 y4 false (columns_in columns) (items_in items) (held_in condition) (keys_in keys) _ p4)
    (λ y5 p5. limit_spelt limit h6 d form.5 bounds.f2 bounds.f1 y5 false (columns_in columns) (items_in items) (held_in condition) (keys_in keys) (held_in offset) _ p5))))))

distinct_form : (s1 : _) (columns : _) (s2 : _) (items : _) (condition : Held-Body-condition) (s3 : _) (keys : _) (offset limit : Held-Body-condition) → ColumnsFacts columns → ItemsFacts items → HeldFact condition → KeysFacts keys → HeldFact offset → HeldFact limit → CoreFact (c.Distinct' s1 columns s2 items condition s3 keys offset limit)
unfolding tokens_of_expr expr_height HasForm class_of ExprFact CoreFact ExprsFacts CoresFacts ColumnsFacts ItemFact ItemsFacts KeyFact KeysFacts HeldFact
distinct_form s1 columns s2 items condition s3 keys offset limit h1 h2 h3 h4 h5 h6 d form fits low =
    let bounds : Bounds d (columns_height columns) (items_height items) (option_height condition) (keys_height keys) (option_height offset) (option_height limit) = bounds d (columns_height columns) (items_height items) (option_height condition) (keys_height keys) (option_height offset) (option_height limit) fits low in
    spelt_as {Q = IsCore (c.Distinct' s1 columns s2 items condition s3 keys offset limit)} (λ y so. ((λ i. cond (so.0 i) (core.Distinct (so.1 i) (so.2 i)) (core.All (so.1 i) (so.2 i))) ∙ sym (distinct_is s1 columns s2 items condition s3 keys offset limit), so.3 ∙ six (columns_height columns) (items_height items) (option_height condition) (keys_height keys) (option_height offset) (option_height limit)))
    (spelt_then (columns_spelt true columns h1 d form.0 bounds.a2 bounds.a1) (λ y1 p1. spelt_then (from_spelt items h2 d form.1 bounds.b2 bounds.b1 y1 true (columns_in columns) (columns_height columns) p1)
    (λ y2 p2. spelt_then (where_spelt condition h3 d form.2 bounds.c2 bounds.c1 y2 true (columns_in columns) (items_in items) _ p2) (λ y3 p3. spelt_then (order_spelt keys h4 d form.3 bounds.d2 bounds.d1 y3 true (columns_in columns) (items_in items) (held_in condition) _ p3)
    (λ y4 p4. spelt_then (offset_spelt offset h5 d form.4 bounds.e2 bounds.e1 y4 true (columns_in columns) (items_in items) (held_in condition) (keys_in keys) _ p4)
    (λ y5 p5. limit_spelt limit h6 d form.5 bounds.f2 bounds.f1 y5 true (columns_in columns) (items_in items) (held_in condition) (keys_in keys) (held_in offset) _ p5))))))

table_first : (name alias : List ℕ) → (d : ℕ) → BeginsFrom (f.Table name alias) → ItemHasForm (f.Table name alias) → item_height (f.Table name alias) + item_height (f.Table name alias) ≤ d → item_height (f.Table name alias) ≤ MAX_HEIGHT → Spelt (g.Item d too_high (inner_of d)) (IsItem (f.Table name alias)) (tokens_of_item (f.Table name alias))
unfolding tokens_of_expr expr_height HasForm class_of ExprFact CoreFact ExprsFacts CoresFacts ColumnsFacts ItemFact ItemsFacts KeyFact KeysFacts HeldFact
table_first name alias d begins form fits low =
    spelt_left _ (spelt_then (name_spelt name) (λ n is_n. spelt_end (alias_spelt d alias) (λ a is_a. spelt_empty (table_item n a) ((λ i. f.Table (is_n i) (is_a i)), refl))))

table_further : (name alias : List ℕ) → (d : ℕ) → ItemHasForm (f.Table name alias) → item_height (f.Table name alias) + item_height (f.Table name alias) ≤ d → item_height (f.Table name alias) ≤ MAX_HEIGHT → Spelt (g.FurtherItem d too_high (inner_of d)) (IsItem (f.Table name alias)) (comma_before (f.Table name alias) ++ tokens_of_item (f.Table name alias))
unfolding tokens_of_expr expr_height HasForm class_of ExprFact CoreFact ExprsFacts CoresFacts ColumnsFacts ItemFact ItemsFacts KeyFact KeysFacts HeldFact
table_further name alias d form fits low = spelt_left _ (spelt_then (spelt_sign sign.Comma) (λ _ _. table_first name alias d tt form fits low))

table_form : (name alias : List ℕ) → ItemFact (f.Table name alias)
unfolding tokens_of_expr expr_height HasForm class_of ExprFact CoreFact ExprsFacts CoresFacts ColumnsFacts ItemFact ItemsFacts KeyFact KeysFacts HeldFact
table_form name alias = (table_first name alias, table_further name alias)

lateral_first : (s : _) (cores : _) (alias : List ℕ) → CoresFacts cores → (d : ℕ) → BeginsFrom (f.Lateral' s cores alias) → ItemHasForm (f.Lateral' s cores alias) → item_height (f.Lateral' s cores alias) + item_height (f.Lateral' s cores alias) ≤ d → item_height (f.Lateral' s cores alias) ≤ MAX_HEIGHT → Spelt (g.Item d too_high (inner_of d)) (IsItem (f.Lateral' s cores alias)) (tokens_of_item (f.Lateral' s cores alias))
unfolding tokens_of_expr expr_height HasForm class_of ExprFact CoreFact ExprsFacts CoresFacts ColumnsFacts ItemFact ItemsFacts KeyFact KeysFacts HeldFact
lateral_first s cores alias hs zero begins form fits low = absurd (omega arith)
lateral_first s cores alias hs (suc d) begins form fits low =
    spelt_right _ (spelt_left _ (spelt_then (spelt_word keyword.Lateral) (λ _ _. spelt_then (sub_spelt d (select_spelt cores hs d form (omega arith) low)) (λ y is. spelt_end (alias_spelt (suc d) alias)
    (λ a is_a. spelt_empty (lateral_item y a) ((λ i. f.Lateral (is.0 i) (is_a i)) ∙ sym (lateral_is s cores alias), is.1))))))

lateral_further : (s : _) (cores : _) (alias : List ℕ) → CoresFacts cores → (d : ℕ) → ItemHasForm (f.Lateral' s cores alias) → item_height (f.Lateral' s cores alias) + item_height (f.Lateral' s cores alias) ≤ d → item_height (f.Lateral' s cores alias) ≤ MAX_HEIGHT → Spelt (g.FurtherItem d too_high (inner_of d)) (IsItem (f.Lateral' s cores alias)) (comma_before (f.Lateral' s cores alias) ++ tokens_of_item (f.Lateral' s cores alias))
unfolding tokens_of_expr expr_height HasForm class_of ExprFact CoreFact ExprsFacts CoresFacts ColumnsFacts ItemFact ItemsFacts KeyFact KeysFacts HeldFact
lateral_further s cores alias hs d form fits low = spelt_left _ (spelt_then (spelt_sign sign.Comma) (λ _ _. lateral_first s cores alias hs d tt form fits low))

lateral_form : (s : _) (cores : _) (alias : List ℕ) → CoresFacts cores → ItemFact (f.Lateral' s cores alias)
unfolding tokens_of_expr expr_height HasForm class_of ExprFact CoreFact ExprsFacts CoresFacts ColumnsFacts ItemFact ItemsFacts KeyFact KeysFacts HeldFact
lateral_form s cores alias hs = (lateral_first s cores alias hs, lateral_further s cores alias hs)

left_first : (s : _) (cores : _) (alias : List ℕ) → CoresFacts cores → (d : ℕ) → BeginsFrom (f.LeftLateral' s cores alias) → ItemHasForm (f.LeftLateral' s cores alias) → item_height (f.LeftLateral' s cores alias) + item_height (f.LeftLateral' s cores alias) ≤ d → item_height (f.LeftLateral' s cores alias) ≤ MAX_HEIGHT → Spelt (g.Item d too_high (inner_of d)) (IsItem (f.LeftLateral' s cores alias)) (tokens_of_item (f.LeftLateral' s cores alias))
unfolding tokens_of_expr expr_height HasForm class_of ExprFact CoreFact ExprsFacts CoresFacts ColumnsFacts ItemFact ItemsFacts KeyFact KeysFacts HeldFact
left_first s cores alias hs d begins form fits low = absurd begins

left_further : (s : _) (cores : _) (alias : List ℕ) → CoresFacts cores → (d : ℕ) → ItemHasForm (f.LeftLateral' s cores alias) → item_height (f.LeftLateral' s cores alias) + item_height (f.LeftLateral' s cores alias) ≤ d → item_height (f.LeftLateral' s cores alias) ≤ MAX_HEIGHT → Spelt (g.FurtherItem d too_high (inner_of d)) (IsItem (f.LeftLateral' s cores alias)) (comma_before (f.LeftLateral' s cores alias) ++ tokens_of_item (f.LeftLateral' s cores alias))
unfolding tokens_of_expr expr_height HasForm class_of ExprFact CoreFact ExprsFacts CoresFacts ColumnsFacts ItemFact ItemsFacts KeyFact KeysFacts HeldFact
left_further s cores alias hs zero form fits low = absurd (omega arith)
left_further s cores alias hs (suc d) form fits low =
    spelt_right _ (spelt_then (spelt_word keyword.Left) (λ _ _. spelt_then (spelt_word keyword.Join) (λ _ _. spelt_then (spelt_word keyword.Lateral) (λ _ _. spelt_then (sub_spelt d (select_spelt cores hs d form (omega arith) low))
    (λ y is. spelt_then (alias_spelt (suc d) alias) (λ a is_a. spelt_then (spelt_word keyword.On) (λ _ _. spelt_end (spelt_word keyword.True)
    (λ _ _. spelt_empty (left_item y a) ((λ i. f.LeftLateral (is.0 i) (is_a i)) ∙ sym (left_is s cores alias), is.1)))))))))

left_form : (s : _) (cores : _) (alias : List ℕ) → CoresFacts cores → ItemFact (f.LeftLateral' s cores alias)
unfolding tokens_of_expr expr_height HasForm class_of ExprFact CoreFact ExprsFacts CoresFacts ColumnsFacts ItemFact ItemsFacts KeyFact KeysFacts HeldFact
left_form s cores alias hs = (left_first s cores alias hs, left_further s cores alias hs)

unnest_first : (source : SqlExpr) (alias : List ℕ) → ExprFact source → (d : ℕ) → BeginsFrom (f.Unnest source alias) → ItemHasForm (f.Unnest source alias) → item_height (f.Unnest source alias) + item_height (f.Unnest source alias) ≤ d → item_height (f.Unnest source alias) ≤ MAX_HEIGHT → Spelt (g.Item d too_high (inner_of d)) (IsItem (f.Unnest source alias)) (tokens_of_item (f.Unnest source alias))
unfolding tokens_of_expr expr_height HasForm class_of ExprFact CoreFact ExprsFacts CoresFacts ColumnsFacts ItemFact ItemsFacts KeyFact KeysFacts HeldFact
unnest_first source alias hs zero begins form fits low = absurd (let some : 1 ≤ expr_height source = positive source in omega arith)
unnest_first source alias hs (suc d) begins form fits low =
    spelt_right _ (spelt_right _ (spelt_then (spelt_word keyword.Unnest) (λ _ _. spelt_then (within_spelt d source (as_expr d source (hs d form low fits))) (λ y is. spelt_end (alias_spelt (suc d) alias)
    (λ a is_a. spelt_empty (unnest_item y a) ((λ i. f.Unnest (is.0 i) (is_a i)), is.1))))))

unnest_further : (source : SqlExpr) (alias : List ℕ) → ExprFact source → (d : ℕ) → ItemHasForm (f.Unnest source alias) → item_height (f.Unnest source alias) + item_height (f.Unnest source alias) ≤ d → item_height (f.Unnest source alias) ≤ MAX_HEIGHT → Spelt (g.FurtherItem d too_high (inner_of d)) (IsItem (f.Unnest source alias)) (comma_before (f.Unnest source alias) ++ tokens_of_item (f.Unnest source alias))
unfolding tokens_of_expr expr_height HasForm class_of ExprFact CoreFact ExprsFacts CoresFacts ColumnsFacts ItemFact ItemsFacts KeyFact KeysFacts HeldFact
unnest_further source alias hs d form fits low = spelt_left _ (spelt_then (spelt_sign sign.Comma) (λ _ _. unnest_first source alias hs d tt form fits low))

unnest_form : (source : SqlExpr) (alias : List ℕ) → ExprFact source → ItemFact (f.Unnest source alias)
unfolding tokens_of_expr expr_height HasForm class_of ExprFact CoreFact ExprsFacts CoresFacts ColumnsFacts ItemFact ItemsFacts KeyFact KeysFacts HeldFact
unnest_form source alias hs = (unnest_first source alias hs, unnest_further source alias hs)

ascending_form : (value : SqlExpr) (nulls : Absent) → ExprFact value → KeyFact (k.Ascending value nulls)
unfolding tokens_of_expr expr_height HasForm class_of ExprFact CoreFact ExprsFacts CoresFacts ColumnsFacts ItemFact ItemsFacts KeyFact KeysFacts HeldFact
ascending_form value nulls hs d form fits low =
    spelt_then (as_expr d value (hs d form low (omega arith))) (λ x is. spelt_then ascending_spelt (λ way same. spelt_then (spelt_word keyword.Nulls) (λ _ _. spelt_end (absent_spelt nulls)
    (λ n is_n. spelt_empty (key_of x way n) (subst (λ (w : Direction). IsKey (k.Ascending value nulls) (key_of x w n)) (sym same) ((λ i. k.Ascending (is.0 i) (is_n i)), is.1))))))

descending_form : (value : SqlExpr) (nulls : Absent) → ExprFact value → KeyFact (k.Descending value nulls)
unfolding tokens_of_expr expr_height HasForm class_of ExprFact CoreFact ExprsFacts CoresFacts ColumnsFacts ItemFact ItemsFacts KeyFact KeysFacts HeldFact
descending_form value nulls hs d form fits low =
    spelt_then (as_expr d value (hs d form low (omega arith))) (λ x is. spelt_then descending_spelt (λ way same. spelt_then (spelt_word keyword.Nulls) (λ _ _. spelt_end (absent_spelt nulls)
    (λ n is_n. spelt_empty (key_of x way n) (subst (λ (w : Direction). IsKey (k.Descending value nulls) (key_of x w n)) (sym same) ((λ i. k.Descending (is.0 i) (is_n i)), is.1))))))

-- ---- all forms

mutual
  unfolding ExprsFacts CoresFacts ColumnsFacts ItemsFacts KeysFacts HeldFact

  expr_fact : (x : SqlExpr) → ExprFact x
  expr_fact (e.Int z) = int_form z
  expr_fact (e.Text text) = text_form text
  expr_fact (e.Bool b) = bool_form b
  expr_fact (e.Uuid n) = uuid_form n
  expr_fact (e.Null t) = null_form t
  expr_fact (e.Column alias name) = column_form alias name
  expr_fact (e.Arg name t) = arg_form name t
  expr_fact (e.Global name) = global_form name
  expr_fact (e.Array' s cores) = array_form s cores (cores_facts cores)
  expr_fact (e.Row' s parts) = row_form s parts (exprs_facts parts)
  expr_fact (e.Part' s (more_of-SqlExpr x end_of-SqlExpr) z) = part_form s x z (expr_fact x)
  expr_fact (e.Case' s (more_of-SqlExpr x end_of-SqlExpr) u (more_of-SqlExpr y end_of-SqlExpr) v (more_of-SqlExpr z end_of-SqlExpr)) = case_form s x u y v z (expr_fact x) (expr_fact y) (expr_fact z)
  expr_fact (e.Cast' s (more_of-SqlExpr x end_of-SqlExpr) t) = cast_form s x t (expr_fact x)
  expr_fact (e.Unary' o s (more_of-SqlExpr x end_of-SqlExpr)) = unary_form o s x (expr_fact x)
  expr_fact (e.Binary' o s (more_of-SqlExpr x end_of-SqlExpr) u (more_of-SqlExpr y end_of-SqlExpr)) = binary_form o s x u y (expr_fact x) (expr_fact y)
  expr_fact (e.Call' o s (more_of-SqlExpr x end_of-SqlExpr)) = call_form o s x (expr_fact x)

  exprs_facts : {m : _} → (parts : Row_of-SqlExpr m) → ExprsFacts parts
  exprs_facts end_of-SqlExpr = tt
  exprs_facts (more_of-SqlExpr first more) = (expr_fact first, exprs_facts more)

  cores_facts : {m : _} → (cores : Row_of-Core m) → CoresFacts cores
  cores_facts end_of-Core = tt
  cores_facts (more_of-Core first more) = (core_fact first, cores_facts more)

  core_fact : (x : Core) → CoreFact x
  core_fact (c.All' s1 columns s2 items condition s3 keys offset limit) = all_form s1 columns s2 items condition s3 keys offset limit (columns_facts columns) (items_facts items) (held_fact condition) (keys_facts keys) (held_fact offset) (held_fact limit)
  core_fact (c.Distinct' s1 columns s2 items condition s3 keys offset limit) = distinct_form s1 columns s2 items condition s3 keys offset limit (columns_facts columns) (items_facts items) (held_fact condition) (keys_facts keys) (held_fact offset) (held_fact limit)

  columns_facts : {m : _} → (columns : Row_of-Column m) → ColumnsFacts columns
  columns_facts end_of-Column = tt
  columns_facts (more_of-Column value name more) = (expr_fact value, columns_facts more)

  items_facts : {m : _} → (items : Row_of-FromItem m) → ItemsFacts items
  items_facts end_of-FromItem = tt
  items_facts (more_of-FromItem first more) = (item_fact first, items_facts more)

  item_fact : (x : FromItem) → ItemFact x
  item_fact (f.Table name alias) = table_form name alias
  item_fact (f.Lateral' s cores alias) = lateral_form s cores alias (cores_facts cores)
  item_fact (f.LeftLateral' s cores alias) = left_form s cores alias (cores_facts cores)
  item_fact (f.Unnest source alias) = unnest_form source alias (expr_fact source)

  keys_facts : {m : _} → (keys : Row_of-Key m) → KeysFacts keys
  keys_facts end_of-Key = tt
  keys_facts (more_of-Key first more) = (key_fact first, keys_facts more)

  key_fact : (x : Key) → KeyFact x
  key_fact (k.Ascending value nulls) = ascending_form value nulls (expr_fact value)
  key_fact (k.Descending value nulls) = descending_form value nulls (expr_fact value)

  held_fact : (x : Held-Body-condition) → HeldFact x
  held_fact None' = tt
  held_fact (Some' s (more_of-SqlExpr x end_of-SqlExpr)) = expr_fact x

pub core_spelt : (x : Core) (d : ℕ) → CoreHasForm x → core_height x + core_height x ≤ d → core_height x ≤ MAX_HEIGHT → Spelt (g.CoreOf d too_high (inner_of d)) (IsCore x) (tokens_of_core x)
unfolding CoreFact
core_spelt x = core_fact x
