-- The tokens of each form, at the code's constructors.
use Rattle.std.proofs.Common.{◌≡◌, ℕ, ℤ, Bool, true, false, List, [], ◌∷◌, ◌++◌, Option, Some, None, refl, ap, sym, ◌∙◌, append_assoc}
use Rattle.ev_value.specs.JsonText.{id_text}
use Rattle.ev_value.specs.declared.value.ScalarTy.{ScalarTy}
use Rattle.ev_list.specs.declared.order.Absent.{Absent}
use Rattle.sql_lex.specs.declared.keyword.Keyword.TheVariants as keyword
use Rattle.sql_lex.specs.declared.token.Sign.TheVariants as sign
use Rattle.sql_lex.specs.declared.token.TokenKind.{TokenKind}
use Rattle.sql_lex.specs.declared.token.TokenKind.TheVariants.{Word, Name, Int, Str, Sign}
use Rattle.sql_ast.specs.declared.expression.Binary.{Binary}
use Rattle.sql_ast.specs.declared.expression.Case.{Case}
use Rattle.sql_ast.specs.declared.expression.Function.{Function}
use Rattle.sql_ast.specs.declared.expression.SqlExpr.{SqlExpr}
use Rattle.sql_ast.specs.declared.expression.SqlExpr.TheBlock as block
use Rattle.sql_ast.specs.declared.expression.SqlExpr.TheVariants as expr
use Rattle.sql_ast.specs.declared.expression.UnaryOp.{UnaryOp}
use Rattle.sql_ast.specs.declared.select.Body.{Body}
use Rattle.sql_ast.specs.declared.select.Column.{Column}
use Rattle.sql_ast.specs.declared.select.Core.{Core}
use Rattle.sql_ast.specs.declared.select.Core.TheVariants as core
use Rattle.sql_ast.specs.declared.select.FromItem.{FromItem}
use Rattle.sql_ast.specs.declared.select.FromItem.TheVariants as from
use Rattle.sql_ast.specs.declared.select.Key.{Key}
use Rattle.sql_ast.specs.declared.select.Key.TheVariants as key
use Rattle.sql_ast.specs.declared.select.Select.{Select}
use Rattle.sql_ast.specs.declared.ty.SqlTy.{SqlTy}
use Rattle.sql_ast.specs.declared.ty.SqlTy.TheBlock as ty_block
use Rattle.sql_ast.specs.declared.ty.SqlTy.TheVariants as ty
use Rattle.sql_print.specs.Marks.{Tokens, mark_of, left_level, right_level, operand_level, level_of, level_of_unary, level_of_binary, before, behind, is_loose, opening, closing, held, in_parens, name_of_function, name_of_scalar, truth, name_of_absent}
use Rattle.sql_print.specs.Printed.{tokens_of_ty, tokens_of_types, further_types, tokens_of_expr, tokens_of_exprs, further_exprs, tokens_of_cores, further_cores, tokens_of_core, tokens_of_columns, further_columns, tokens_of_from, tokens_of_item, further_items, comma_before, tokens_of_condition, tokens_of_keys, further_keys, tokens_of_key, tokens_of_offset, tokens_of_limit}
use Rattle.sql_print.specs.Lists.{listed, tokens_of_column, listed_cores, listed_items, from_tokens, keys_tokens, clause_tokens, body_tokens}
use denote.Hole.Carrier as carrier

-- ---- types

types_behind : (ts : List SqlTy) → further_types (ty_block.hidden-the_row-SqlTy-0 ts) ≡ listed tokens_of_ty false ts
unfolding tokens_of_ty ty_block.hidden-the_row-SqlTy-0 carrier.hidden
types_behind [] = refl
types_behind (t ∷ ts) = ap (λ l. Sign sign.Comma ∷ (tokens_of_ty t ++ l)) (types_behind ts)

types_hidden : (ts : List SqlTy) → tokens_of_types (ty_block.hidden-the_row-SqlTy-0 ts) ≡ listed tokens_of_ty true ts
unfolding tokens_of_ty ty_block.hidden-the_row-SqlTy-0 carrier.hidden
types_hidden [] = refl
types_hidden (t ∷ ts) = ap (λ l. tokens_of_ty t ++ l) (types_behind ts)

pub of_scalar : (s : ScalarTy) → tokens_of_ty (ty.Scalar s) ≡ Word (name_of_scalar s) ∷ []
unfolding tokens_of_ty
of_scalar s = refl

pub of_row_ty : (ts : List SqlTy) → tokens_of_ty (ty.Row ts) ≡ (Word keyword.Row ∷ Sign sign.LeftParen ∷ []) ++ (listed tokens_of_ty true ts ++ Sign sign.RightParen ∷ [])
unfolding tokens_of_ty
of_row_ty ts = ap (λ l. Word keyword.Row ∷ in_parens l) (types_hidden ts)

pub of_array_ty : (t : SqlTy) → tokens_of_ty (ty.Array t) ≡ (Word keyword.Array ∷ Sign sign.LeftParen ∷ []) ++ (tokens_of_ty t ++ Sign sign.RightParen ∷ [])
unfolding tokens_of_ty ty_block.hidden-the_row-SqlTy-1 carrier.hidden
of_array_ty t = refl

-- ---- lists and options

exprs_behind : (xs : List SqlExpr) → further_exprs (block.hidden-the_row-SqlExpr-1 xs) ≡ listed tokens_of_expr false xs
unfolding tokens_of_expr block.hidden-the_row-SqlExpr-1 carrier.hidden
exprs_behind [] = refl
exprs_behind (x ∷ xs) = ap (λ l. Sign sign.Comma ∷ (tokens_of_expr x ++ l)) (exprs_behind xs)

exprs_hidden : (xs : List SqlExpr) → tokens_of_exprs (block.hidden-the_row-SqlExpr-1 xs) ≡ listed tokens_of_expr true xs
unfolding tokens_of_expr block.hidden-the_row-SqlExpr-1 carrier.hidden
exprs_hidden [] = refl
exprs_hidden (x ∷ xs) = ap (λ l. tokens_of_expr x ++ l) (exprs_behind xs)

columns_behind : (xs : List Column) → further_columns (block.hidden-the_row-Column-3 xs) ≡ listed tokens_of_column false xs
unfolding tokens_of_expr block.hidden-the_row-Column-3 carrier.hidden
columns_behind [] = refl
columns_behind (x ∷ xs) = ap (λ l. Sign sign.Comma ∷ l) (sym (append_assoc (tokens_of_expr x.value) (Word keyword.As ∷ Name x.name ∷ []) _)) ∙ ap (λ l. Sign sign.Comma ∷ (tokens_of_column x ++ l)) (columns_behind xs)

columns_hidden : (xs : List Column) → tokens_of_columns (block.hidden-the_row-Column-3 xs) ≡ listed tokens_of_column true xs
unfolding tokens_of_expr block.hidden-the_row-Column-3 carrier.hidden
columns_hidden [] = refl
columns_hidden (x ∷ xs) = sym (append_assoc (tokens_of_expr x.value) (Word keyword.As ∷ Name x.name ∷ []) _) ∙ ap (λ l. tokens_of_column x ++ l) (columns_behind xs)

keys_behind : (xs : List Key) → further_keys (block.hidden-the_row-Key-5 xs) ≡ listed tokens_of_key false xs
unfolding tokens_of_expr block.hidden-the_row-Key-5 carrier.hidden
keys_behind [] = refl
keys_behind (x ∷ xs) = ap (λ l. Sign sign.Comma ∷ (tokens_of_key x ++ l)) (keys_behind xs)

keys_hidden : (xs : List Key) → tokens_of_keys (block.hidden-the_row-Key-5 xs) ≡ keys_tokens xs
unfolding tokens_of_expr block.hidden-the_row-Key-5 carrier.hidden
keys_hidden [] = refl
keys_hidden (x ∷ xs) = ap (λ l. Word keyword.Order ∷ Word keyword.By ∷ (tokens_of_key x ++ l)) (keys_behind xs)

cores_behind : (xs : List Core) → further_cores (block.hidden-the_row-Core-0 xs) ≡ listed_cores false xs
unfolding tokens_of_expr block.hidden-the_row-Core-0 carrier.hidden
cores_behind [] = refl
cores_behind (x ∷ xs) = ap (λ l. Word keyword.Union ∷ Word keyword.All ∷ (tokens_of_core x ++ l)) (cores_behind xs)

cores_hidden : (xs : List Core) → tokens_of_cores (block.hidden-the_row-Core-0 xs) ≡ listed_cores true xs
unfolding tokens_of_expr block.hidden-the_row-Core-0 carrier.hidden
cores_hidden [] = refl
cores_hidden (x ∷ xs) = ap (λ l. tokens_of_core x ++ l) (cores_behind xs)

items_behind : (xs : List FromItem) → further_items (block.hidden-the_row-FromItem-4 xs) ≡ listed_items false xs
unfolding tokens_of_expr block.hidden-the_row-FromItem-4 carrier.hidden
items_behind [] = refl
items_behind (x ∷ xs) = ap (λ l. comma_before x ++ (tokens_of_item x ++ l)) (items_behind xs)

items_hidden : (xs : List FromItem) → tokens_of_from (block.hidden-the_row-FromItem-4 xs) ≡ from_tokens xs
unfolding tokens_of_expr block.hidden-the_row-FromItem-4 carrier.hidden
items_hidden [] = refl
items_hidden (x ∷ xs) = ap (λ l. Word keyword.From ∷ (tokens_of_item x ++ l)) (items_behind xs)

condition_back : (o : Option SqlExpr) → tokens_of_condition (block.back-Body-condition o) ≡ clause_tokens keyword.Where o
unfolding tokens_of_expr block.hidden-the_row-SqlExpr-2 carrier.hidden
condition_back None = refl
condition_back (Some x) = refl

offset_back : (o : Option SqlExpr) → tokens_of_offset (block.back-Body-condition o) ≡ clause_tokens keyword.Offset o
unfolding tokens_of_expr block.hidden-the_row-SqlExpr-2 carrier.hidden
offset_back None = refl
offset_back (Some x) = refl

limit_back : (o : Option SqlExpr) → tokens_of_limit (block.back-Body-condition o) ≡ clause_tokens keyword.Limit o
unfolding tokens_of_expr block.hidden-the_row-SqlExpr-2 carrier.hidden
limit_back None = refl
limit_back (Some x) = refl

-- ---- expressions

unary_apart : (b o x c h : Tokens) → b ++ ((o ++ (x ++ c)) ++ h) ≡ (b ++ o) ++ (x ++ (c ++ h))
unary_apart b o x c h = ap (λ l. b ++ l) (append_assoc o (x ++ c) h ∙ ap (λ l. o ++ l) (append_assoc x c h)) ∙ sym (append_assoc b o (x ++ (c ++ h)))

left_apart : (o x c : Tokens) (m : TokenKind) (r : Tokens) → (o ++ (x ++ c)) ++ m ∷ r ≡ (o ++ (x ++ (c ++ m ∷ []))) ++ r
left_apart o x c m r =
    append_assoc o (x ++ c) (m ∷ r) ∙ ap (λ l. o ++ l) (append_assoc x c (m ∷ r) ∙ ap (λ l. x ++ l) (sym (append_assoc c (m ∷ []) r)) ∙ sym (append_assoc x (c ++ m ∷ []) r))
    ∙ sym (append_assoc o (x ++ (c ++ m ∷ [])) r)

pub of_int : (z : ℤ) → tokens_of_expr (expr.Int z) ≡ Int z ∷ []
unfolding tokens_of_expr
of_int z = refl

pub of_text : (s : List ℕ) → tokens_of_expr (expr.Text s) ≡ Str s ∷ []
unfolding tokens_of_expr
of_text s = refl

pub of_bool : (b : Bool) → tokens_of_expr (expr.Bool b) ≡ Word (truth b) ∷ []
unfolding tokens_of_expr
of_bool b = refl

pub of_uuid : (n : ℕ) → tokens_of_expr (expr.Uuid n) ≡ Word keyword.Uuid ∷ Str (id_text n) ∷ []
unfolding tokens_of_expr
of_uuid n = refl

pub of_null : (t : SqlTy) → tokens_of_expr (expr.Null t) ≡ Word keyword.Null ∷ Sign sign.Cast ∷ tokens_of_ty t
unfolding tokens_of_expr
of_null t = refl

pub of_column : (alias name : List ℕ) → tokens_of_expr (expr.Column alias name) ≡ Name alias ∷ Sign sign.Dot ∷ Name name ∷ []
unfolding tokens_of_expr
of_column alias name = refl

pub of_arg : (name : List ℕ) (t : SqlTy) → tokens_of_expr (expr.Arg name t) ≡ Word keyword.Arg ∷ in_parens (Str name ∷ Sign sign.Comma ∷ tokens_of_ty t)
unfolding tokens_of_expr
of_arg name t = refl

pub of_global : (name : List ℕ) → tokens_of_expr (expr.Global name) ≡ Word keyword.Global ∷ in_parens (Str name ∷ [])
unfolding tokens_of_expr
of_global name = refl

pub of_array : (s : Select) → tokens_of_expr (expr.Array s) ≡ (Word keyword.Array ∷ Sign sign.LeftParen ∷ []) ++ (listed_cores true s.cores ++ Sign sign.RightParen ∷ [])
unfolding tokens_of_expr
of_array s = ap (λ l. Word keyword.Array ∷ in_parens l) (cores_hidden s.cores)

pub of_row : (es : List SqlExpr) → tokens_of_expr (expr.Row es) ≡ (Word keyword.Row ∷ Sign sign.LeftParen ∷ []) ++ (listed tokens_of_expr true es ++ Sign sign.RightParen ∷ [])
unfolding tokens_of_expr
of_row es = ap (λ l. Word keyword.Row ∷ in_parens l) (exprs_hidden es)

pub of_part : (row : SqlExpr) (z : ℤ) → tokens_of_expr (expr.Part row z) ≡ (Word keyword.Part ∷ Sign sign.LeftParen ∷ []) ++ (tokens_of_expr row ++ Sign sign.Comma ∷ Int z ∷ Sign sign.RightParen ∷ [])
unfolding tokens_of_expr block.hidden-the_row-SqlExpr-2 carrier.hidden
of_part row z = ap (λ l. Word keyword.Part ∷ Sign sign.LeftParen ∷ l) (append_assoc (tokens_of_expr row) (Sign sign.Comma ∷ Int z ∷ []) (Sign sign.RightParen ∷ []))

pub of_case : (form : Case) → tokens_of_expr (expr.Case form) ≡ (Word keyword.Case ∷ Word keyword.When ∷ (tokens_of_expr form.condition ++ Word keyword.Then ∷ [])) ++ (tokens_of_expr form.value ++ Word keyword.Else ∷ (tokens_of_expr form.other ++ Word keyword.End ∷ []))
unfolding tokens_of_expr block.hidden-the_row-SqlExpr-2 carrier.hidden
of_case form = sym (ap (λ l. Word keyword.Case ∷ Word keyword.When ∷ l) (append_assoc (tokens_of_expr form.condition) (Word keyword.Then ∷ []) (tokens_of_expr form.value ++ Word keyword.Else ∷ (tokens_of_expr form.other ++ Word keyword.End ∷ []))))

pub of_cast : (operand : SqlExpr) (t : SqlTy) → tokens_of_expr (expr.Cast operand t) ≡ (Word keyword.Cast ∷ Sign sign.LeftParen ∷ []) ++ (tokens_of_expr operand ++ Word keyword.As ∷ (tokens_of_ty t ++ Sign sign.RightParen ∷ []))
unfolding tokens_of_expr block.hidden-the_row-SqlExpr-2 carrier.hidden
of_cast operand t = ap (λ l. Word keyword.Cast ∷ Sign sign.LeftParen ∷ l) (append_assoc (tokens_of_expr operand) (Word keyword.As ∷ tokens_of_ty t) (Sign sign.RightParen ∷ []))

pub of_unary : (operator : UnaryOp) (operand : SqlExpr) → tokens_of_expr (expr.Unary operator operand) ≡ (before operator ++ opening (is_loose (operand_level operator) operand)) ++ (tokens_of_expr operand ++ (closing (is_loose (operand_level operator) operand) ++ behind operator))
unfolding tokens_of_expr block.hidden-the_row-SqlExpr-2 carrier.hidden
of_unary operator operand = unary_apart (before operator) (opening (is_loose (operand_level operator) operand)) (tokens_of_expr operand) (closing (is_loose (operand_level operator) operand)) (behind operator)

pub of_binary : (form : Binary) → tokens_of_expr (expr.Binary form) ≡ (opening (is_loose (left_level form.operator) form.left) ++ (tokens_of_expr form.left ++ (closing (is_loose (left_level form.operator) form.left) ++ mark_of form.operator ∷ []))) ++ held (is_loose (right_level form.operator) form.right) (tokens_of_expr form.right)
unfolding tokens_of_expr block.hidden-the_row-SqlExpr-2 carrier.hidden
of_binary form = left_apart (opening (is_loose (left_level form.operator) form.left)) (tokens_of_expr form.left) (closing (is_loose (left_level form.operator) form.left)) (mark_of form.operator) (held (is_loose (right_level form.operator) form.right) (tokens_of_expr form.right))

pub of_call : (called : Function) (operand : SqlExpr) → tokens_of_expr (expr.Call called operand) ≡ (Word (name_of_function called) ∷ Sign sign.LeftParen ∷ []) ++ (tokens_of_expr operand ++ Sign sign.RightParen ∷ [])
unfolding tokens_of_expr block.hidden-the_row-SqlExpr-2 carrier.hidden
of_call called operand = refl

pub level_unary : (operator : UnaryOp) (operand : SqlExpr) → level_of (expr.Unary operator operand) ≡ level_of_unary operator
level_unary operator operand = refl

pub level_binary : (form : Binary) → level_of (expr.Binary form) ≡ level_of_binary form.operator
level_binary form = refl

-- ---- cores, items and keys

body_hidden : (body : Body) → tokens_of_from (block.hidden-the_row-FromItem-4 body.from) ++ (tokens_of_condition (block.back-Body-condition body.condition) ++ (tokens_of_keys (block.hidden-the_row-Key-5 body.keys) ++ (tokens_of_offset (block.back-Body-condition body.offset) ++ tokens_of_limit (block.back-Body-condition body.limit)))) ≡ body_tokens body
body_hidden body = λ i. items_hidden body.from i ++ (condition_back body.condition i ++ (keys_hidden body.keys i ++ (offset_back body.offset i ++ limit_back body.limit i)))

pub of_all : (columns : List Column) (body : Body) → tokens_of_core (core.All columns body) ≡ Word keyword.Select ∷ (listed tokens_of_column true columns ++ body_tokens body)
unfolding tokens_of_expr
of_all columns body = λ i. Word keyword.Select ∷ (columns_hidden columns i ++ body_hidden body i)

pub of_distinct : (columns : List Column) (body : Body) → tokens_of_core (core.Distinct columns body) ≡ Word keyword.Select ∷ Word keyword.Distinct ∷ (listed tokens_of_column true columns ++ body_tokens body)
unfolding tokens_of_expr
of_distinct columns body = λ i. Word keyword.Select ∷ Word keyword.Distinct ∷ (columns_hidden columns i ++ body_hidden body i)

pub of_table : (name alias : List ℕ) → tokens_of_item (from.Table name alias) ≡ Name name ∷ Word keyword.As ∷ Name alias ∷ []
unfolding tokens_of_expr
of_table name alias = refl

pub of_lateral : (s : Select) (alias : List ℕ) → tokens_of_item (from.Lateral s alias) ≡ (Word keyword.Lateral ∷ Sign sign.LeftParen ∷ []) ++ (listed_cores true s.cores ++ Sign sign.RightParen ∷ Word keyword.As ∷ Name alias ∷ [])
unfolding tokens_of_expr
of_lateral s alias = ap (λ l. Word keyword.Lateral ∷ (in_parens l ++ Word keyword.As ∷ Name alias ∷ [])) (cores_hidden s.cores) ∙ ap (λ l. Word keyword.Lateral ∷ Sign sign.LeftParen ∷ l) (append_assoc (listed_cores true s.cores) (Sign sign.RightParen ∷ []) (Word keyword.As ∷ Name alias ∷ []))

pub of_left : (s : Select) (alias : List ℕ) → tokens_of_item (from.LeftLateral s alias) ≡ (Word keyword.Left ∷ Word keyword.Join ∷ Word keyword.Lateral ∷ Sign sign.LeftParen ∷ []) ++ (listed_cores true s.cores ++ Sign sign.RightParen ∷ Word keyword.As ∷ Name alias ∷ Word keyword.On ∷ Word keyword.True ∷ [])
unfolding tokens_of_expr
of_left s alias = ap (λ l. Word keyword.Left ∷ Word keyword.Join ∷ Word keyword.Lateral ∷ (in_parens l ++ Word keyword.As ∷ Name alias ∷ Word keyword.On ∷ Word keyword.True ∷ [])) (cores_hidden s.cores) ∙ ap (λ l. Word keyword.Left ∷ Word keyword.Join ∷ Word keyword.Lateral ∷ Sign sign.LeftParen ∷ l) (append_assoc (listed_cores true s.cores) (Sign sign.RightParen ∷ []) (Word keyword.As ∷ Name alias ∷ Word keyword.On ∷ Word keyword.True ∷ []))

pub of_unnest : (array : SqlExpr) (alias : List ℕ) → tokens_of_item (from.Unnest array alias) ≡ (Word keyword.Unnest ∷ Sign sign.LeftParen ∷ []) ++ (tokens_of_expr array ++ Sign sign.RightParen ∷ Word keyword.As ∷ Name alias ∷ [])
unfolding tokens_of_expr
of_unnest array alias = ap (λ l. Word keyword.Unnest ∷ Sign sign.LeftParen ∷ l) (append_assoc (tokens_of_expr array) (Sign sign.RightParen ∷ []) (Word keyword.As ∷ Name alias ∷ []))

pub of_ascending : (value : SqlExpr) (nulls : Absent) → tokens_of_key (key.Ascending value nulls) ≡ tokens_of_expr value ++ Word keyword.Asc ∷ Word keyword.Nulls ∷ Word (name_of_absent nulls) ∷ []
unfolding tokens_of_expr
of_ascending value nulls = refl

pub of_descending : (value : SqlExpr) (nulls : Absent) → tokens_of_key (key.Descending value nulls) ≡ tokens_of_expr value ++ Word keyword.Desc ∷ Word keyword.Nulls ∷ Word (name_of_absent nulls) ∷ []
unfolding tokens_of_expr
of_descending value nulls = refl

pub comma_table : (name alias : List ℕ) → comma_before (from.Table name alias) ≡ Sign sign.Comma ∷ []
unfolding tokens_of_expr
comma_table name alias = refl

pub comma_lateral : (s : Select) (alias : List ℕ) → comma_before (from.Lateral s alias) ≡ Sign sign.Comma ∷ []
unfolding tokens_of_expr
comma_lateral s alias = refl

pub comma_left : (s : Select) (alias : List ℕ) → comma_before (from.LeftLateral s alias) ≡ []
unfolding tokens_of_expr
comma_left s alias = refl

pub comma_unnest : (array : SqlExpr) (alias : List ℕ) → comma_before (from.Unnest array alias) ≡ Sign sign.Comma ∷ []
unfolding tokens_of_expr
comma_unnest array alias = refl
