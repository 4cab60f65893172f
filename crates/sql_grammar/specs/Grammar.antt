-- The grammar: which tokens spell which tree, with at most so many parts open at once, and no operator behind what is too high.
use Rattle.std.specs.Prelude.{ℕ, zero, suc, Bool, true, false, ◌==◌}
use Rattle.sql_lex.specs.declared.token.Token.{Token}
use Rattle.sql_lex.specs.declared.token.Sign.TheVariants as sign
use Rattle.sql_lex.specs.declared.keyword.Keyword.TheVariants as keyword
use Rattle.sql_ast.specs.declared.expression.UnaryOp.TheVariants as unary
use Rattle.sql_grammar.specs.declared.grown.Name.{Name}
use Rattle.sql_grammar.specs.declared.grown.GrownTy.{GrownTy}
use Rattle.sql_grammar.specs.declared.grown.Types.{Types}
use Rattle.sql_grammar.specs.declared.grown.Grown.{Grown}
use Rattle.sql_grammar.specs.declared.grown.Bunch.{Bunch}
use Rattle.sql_grammar.specs.declared.grown.GrownColumn.{GrownColumn}
use Rattle.sql_grammar.specs.declared.grown.GrownItem.{GrownItem}
use Rattle.sql_grammar.specs.declared.grown.GrownKey.{GrownKey}
use Rattle.sql_grammar.specs.declared.grown.GrownCore.{GrownCore}
use Rattle.sql_grammar.specs.declared.grown.Cores.{Cores}
use Rattle.sql_grammar.specs.declared.grown.GrownSelect.{GrownSelect}
use Rattle.sql_grammar.specs.Words.{sign_of, word_of, name_of, literal_of, number_of, text_of, id_of, operator_of, function_of, scalar_of, direction_of, absent_of}
use Rattle.sql_grammar.specs.Trees.{scalar_ty, no_types, first_type, added_type, row_ty, array_ty, grouped, uuid, null_of, column, argument, global, array, nothing_yet, alone, added, row, part, case_of, cast, call, prefixed, null_test, operated, named_column, table_item, lateral_item, left_item, unnest_item, key_of, first_column, added_column, with_item, with_condition, with_key, with_offset, with_limit, first_core, added_core, select_of}
use Rattle.exact.specs.Language.{Lang, ◌>>=◌, ◌>>◌, Never, Empty, One, OneWithin, Either, Chain}

-- What may stand in an open part.
pub record Inner : Type 1 where
  -- any expression
  pub expr : Lang Token Grown
  -- one of the level of `NOT`, of a minus
  pub negation : Lang Token Grown
  pub unary : Lang Token Grown
  pub select : Lang Token GrownSelect
  pub ty : Lang Token GrownTy

-- L {',' L}
abbrev pub Commas : {A B : Type 0} → Lang Token A → (A → B) → (B → A → B) → Lang Token B
Commas L start add = do
  first ← L
  Chain (λ all. do One (sign_of sign.Comma); x ← L; Empty (add all x)) (start first)

-- `depth` more parts may be open, `high` says which heights are too high, and `inner` is what may stand in an open part.
module _ (depth : ℕ) (high : ℕ → Bool) (inner : Inner) where
  -- '('
  abbrev pub Opening : Lang Token ℕ
  Opening = OneWithin (depth == 0) (sign_of sign.LeftParen)

  -- '(' Sel ')'
  abbrev pub Sub : Lang Token GrownSelect
  Sub = do
    Opening
    s ← inner.select
    One (sign_of sign.RightParen)
    Empty s

  -- '(' Expr ')'
  abbrev pub Within : Lang Token Grown
  Within = do
    start ← Opening
    x ← inner.expr
    One (sign_of sign.RightParen)
    Empty (grouped start x)

  -- ---- types

  -- '(' [Ty {',' Ty}] ')'
  abbrev pub TypesWithin : Lang Token Types
  TypesWithin = do
    Opening
    Either (do One (sign_of sign.RightParen); Empty no_types) (do all ← Commas inner.ty first_type added_type; One (sign_of sign.RightParen); Empty all)

  -- ARRAY '(' Ty ')'
  abbrev pub ArrayTy : Lang Token GrownTy
  ArrayTy = do
    One (word_of keyword.Array)
    Opening
    t ← inner.ty
    One (sign_of sign.RightParen)
    Empty (array_ty t)

  -- INT | TEXT | BOOL | UUID | ROW '(' [Ty {',' Ty}] ')' | ARRAY '(' Ty ')'
  abbrev pub Ty : Lang Token GrownTy
  Ty =
      Either (do s ← One scalar_of; Empty (scalar_ty s))
      (Either (do One (word_of keyword.Row); all ← TypesWithin; Empty (row_ty all)) ArrayTy)

  -- ---- what holds no operator of its own

  -- UUID text
  abbrev pub UuidText : Lang Token Grown
  UuidText = do
    start ← One (word_of keyword.Uuid)
    id ← One id_of
    Empty (uuid start id)

  -- NULL '::' Ty
  abbrev pub NullTy : Lang Token Grown
  NullTy = do
    start ← One (word_of keyword.Null)
    One (sign_of sign.Cast)
    t ← Ty
    Empty (null_of start t)

  -- name '.' name
  abbrev pub Reference : Lang Token Grown
  Reference = do
    alias ← One name_of
    One (sign_of sign.Dot)
    name ← One name_of
    Empty (column alias name)

  -- ARG '(' text ',' Ty ')'
  abbrev pub Argument : Lang Token Grown
  Argument = do
    start ← One (word_of keyword.Arg)
    Opening
    name ← One text_of
    One (sign_of sign.Comma)
    t ← inner.ty
    One (sign_of sign.RightParen)
    Empty (argument start name t)

  -- GLOBAL '(' text ')'
  abbrev pub GlobalText : Lang Token Grown
  GlobalText = do
    start ← One (word_of keyword.Global)
    Opening
    name ← One text_of
    One (sign_of sign.RightParen)
    Empty (global start name)

  -- ARRAY '(' Sel ')'
  abbrev pub ArrayOf : Lang Token Grown
  ArrayOf = do
    start ← One (word_of keyword.Array)
    s ← Sub
    Empty (array start s)

  -- '(' [Expr {',' Expr}] ')'
  abbrev pub ExprsWithin : Lang Token Bunch
  ExprsWithin = do
    Opening
    Either (do One (sign_of sign.RightParen); Empty nothing_yet) (do all ← Commas inner.expr alone added; One (sign_of sign.RightParen); Empty all)

  -- ROW '(' [Expr {',' Expr}] ')'
  abbrev pub RowOf : Lang Token Grown
  RowOf = do
    start ← One (word_of keyword.Row)
    all ← ExprsWithin
    Empty (row start all)

  -- PART '(' Expr ',' Int ')'
  abbrev pub PartOf : Lang Token Grown
  PartOf = do
    start ← One (word_of keyword.Part)
    Opening
    x ← inner.expr
    One (sign_of sign.Comma)
    number ← One number_of
    One (sign_of sign.RightParen)
    Empty (part start x number)

  -- CASE WHEN Expr THEN Expr ELSE Expr END
  abbrev pub CaseOf : Lang Token Grown
  CaseOf = do
    start ← OneWithin (depth == 0) (word_of keyword.Case)
    One (word_of keyword.When)
    condition ← inner.expr
    One (word_of keyword.Then)
    value ← inner.expr
    One (word_of keyword.Else)
    other ← inner.expr
    One (word_of keyword.End)
    Empty (case_of start condition value other)

  -- CAST '(' Expr AS Ty ')'
  abbrev pub CastOf : Lang Token Grown
  CastOf = do
    start ← One (word_of keyword.Cast)
    Opening
    x ← inner.expr
    One (word_of keyword.As)
    t ← inner.ty
    One (sign_of sign.RightParen)
    Empty (cast start x t)

  -- Fn '(' Expr ')'
  abbrev pub CallOf : Lang Token Grown
  CallOf = do
    found ← One function_of
    x ← Within
    Empty (call found x)

  -- ARG .. | GLOBAL .. | ARRAY .. | ROW .. | PART .. | CASE .. | CAST .. | Fn ..
  abbrev pub Form : Lang Token Grown
  Form =
      Either Argument
      (Either GlobalText
      (Either ArrayOf
      (Either RowOf
      (Either PartOf
      (Either CaseOf
      (Either CastOf CallOf))))))

  -- '(' Expr ')' | Int | text | TRUE | FALSE | UUID text | NULL '::' Ty | name '.' name | Form
  abbrev pub Prim : Lang Token Grown
  Prim =
      Either Within
      (Either (One literal_of)
      (Either UuidText
      (Either NullTy
      (Either Reference Form))))

  -- ---- operators, from the tightest to the loosest

  -- '-' Unary | Prim
  abbrev pub Unary : Lang Token Grown
  Unary = Either (do start ← OneWithin (depth == 0) (sign_of sign.Minus); x ← inner.unary; Empty (prefixed unary.Neg start x)) Prim

  -- operands with operators of the level between them, grouped to the left
  abbrev pub Operators : ℕ → Lang Token Grown → Lang Token Grown
  Operators level Operand = do
    first ← Operand
    Chain (λ left. do found ← OneWithin (high left.height) (operator_of level); right ← Operand; Empty (operated found left right)) first

  -- Unary {('*' | '//' | '%') Unary}
  abbrev pub Product : Lang Token Grown
  Product = Operators 6 Unary

  -- Product {('+' | '-' | '||') Product}
  abbrev pub Sum : Lang Token Grown
  Sum = Operators 5 Product

  -- [NOT]
  abbrev pub Negated : Lang Token Bool
  Negated = Either (do One (word_of keyword.Not); Empty true) (Empty false)

  -- IS [NOT] NULL
  abbrev pub NullTest : Grown → Lang Token Grown
  NullTest x = do
    One (word_of keyword.Is)
    negated ← Negated
    One (word_of keyword.Null)
    Empty (null_test x negated)

  -- Sum [('=' | '<>' | '<' | '<=' | '>' | '>=') Sum | IS [NOT] NULL]
  abbrev pub Comparison : Lang Token Grown
  Comparison = do
    left ← Sum
    Either (do found ← One (operator_of 4); right ← Sum; Empty (operated found left right)) (Either (NullTest left) (Empty left))

  -- NOT Negation | Comparison
  abbrev pub Negation : Lang Token Grown
  Negation = Either (do start ← OneWithin (depth == 0) (word_of keyword.Not); x ← inner.negation; Empty (prefixed unary.Not start x)) Comparison

  -- Negation {AND Negation}
  abbrev pub Conjunction : Lang Token Grown
  Conjunction = Operators 2 Negation

  -- Conjunction {OR Conjunction}
  abbrev pub Expr : Lang Token Grown
  Expr = Operators 1 Conjunction

  -- ---- cores

  -- AS name
  abbrev pub Alias : Lang Token Name
  Alias = do
    One (word_of keyword.As)
    One name_of

  -- Expr AS name
  abbrev pub ColumnOf : Lang Token GrownColumn
  ColumnOf = do
    x ← Expr
    name ← Alias
    Empty (named_column x name)

  -- [DISTINCT]
  abbrev pub Distinct : Lang Token Bool
  Distinct = Either (do One (word_of keyword.Distinct); Empty true) (Empty false)

  -- SELECT [DISTINCT] Expr AS name {',' Expr AS name}
  abbrev pub Columns : Lang Token GrownCore
  Columns = do
    start ← One (word_of keyword.Select)
    distinct ← Distinct
    Commas ColumnOf (first_column start distinct) added_column

  -- name AS name
  abbrev pub TableItem : Lang Token GrownItem
  TableItem = do
    table ← One name_of
    alias ← Alias
    Empty (table_item table alias)

  -- LATERAL '(' Sel ')' AS name
  abbrev pub LateralItem : Lang Token GrownItem
  LateralItem = do
    One (word_of keyword.Lateral)
    s ← Sub
    alias ← Alias
    Empty (lateral_item s alias)

  -- UNNEST '(' Expr ')' AS name
  abbrev pub UnnestItem : Lang Token GrownItem
  UnnestItem = do
    One (word_of keyword.Unnest)
    x ← Within
    alias ← Alias
    Empty (unnest_item x alias)

  -- name AS name | LATERAL '(' Sel ')' AS name | UNNEST '(' Expr ')' AS name
  abbrev pub Item : Lang Token GrownItem
  Item = Either TableItem (Either LateralItem UnnestItem)

  -- LEFT JOIN LATERAL '(' Sel ')' AS name ON TRUE
  abbrev pub LeftItem : Lang Token GrownItem
  LeftItem = do
    One (word_of keyword.Left)
    One (word_of keyword.Join)
    One (word_of keyword.Lateral)
    s ← Sub
    alias ← Alias
    One (word_of keyword.On)
    One (word_of keyword.True)
    Empty (left_item s alias)

  -- ',' Item | LEFT JOIN LATERAL '(' Sel ')' AS name ON TRUE
  abbrev pub FurtherItem : Lang Token GrownItem
  FurtherItem = Either (do One (sign_of sign.Comma); Item) LeftItem

  -- [FROM Item {',' Item | LEFT JOIN LATERAL '(' Sel ')' AS name ON TRUE}]
  abbrev pub From : GrownCore → Lang Token GrownCore
  From g =
      Either
      (do
        One (word_of keyword.From)
        first ← Item
        Chain (λ all. do x ← FurtherItem; Empty (with_item all x)) (with_item g first))
      (Empty g)

  -- [WHERE Expr]
  abbrev pub Where : GrownCore → Lang Token GrownCore
  Where g = Either (do One (word_of keyword.Where); x ← Expr; Empty (with_condition g x)) (Empty g)

  -- Expr (ASC | DESC) NULLS (FIRST | LAST)
  abbrev pub KeyOf : Lang Token GrownKey
  KeyOf = do
    x ← Expr
    way ← One direction_of
    One (word_of keyword.Nulls)
    nulls ← One absent_of
    Empty (key_of x way nulls)

  -- [ORDER BY Key {',' Key}]
  abbrev pub Order : GrownCore → Lang Token GrownCore
  Order g = Either (do One (word_of keyword.Order); One (word_of keyword.By); Commas KeyOf (with_key g) with_key) (Empty g)

  -- [OFFSET Expr]
  abbrev pub Offset : GrownCore → Lang Token GrownCore
  Offset g = Either (do One (word_of keyword.Offset); x ← Expr; Empty (with_offset g x)) (Empty g)

  -- [LIMIT Expr]
  abbrev pub Limit : GrownCore → Lang Token GrownCore
  Limit g = Either (do One (word_of keyword.Limit); x ← Expr; Empty (with_limit g x)) (Empty g)

  -- SELECT [DISTINCT] Expr AS name {',' Expr AS name} [FROM ..] [WHERE Expr] [ORDER BY ..] [OFFSET Expr] [LIMIT Expr]
  abbrev pub CoreOf : Lang Token GrownCore
  CoreOf = do
    a ← Columns
    b ← From a
    c ← Where b
    d ← Order c
    e ← Offset d
    Limit e

  -- UNION ALL Core
  abbrev pub FurtherCore : Lang Token GrownCore
  FurtherCore = do
    One (word_of keyword.Union)
    One (word_of keyword.All)
    CoreOf

  -- Core {UNION ALL Core}
  abbrev pub CoresOf : Lang Token Cores
  CoresOf = do
    first ← CoreOf
    Chain (λ all. do g ← FurtherCore; Empty (added_core all g)) (first_core first)

  -- Core {UNION ALL Core}
  abbrev pub Sel : Lang Token GrownSelect
  Sel = do
    all ← CoresOf
    Empty (select_of all)

abbrev pub nothing : Inner
nothing = record { expr = Never; negation = Never; unary = Never; select = Never; ty = Never }

abbrev pub levels : ℕ → (ℕ → Bool) → Inner → Inner
levels depth high inner = record { expr = Expr depth high inner; negation = Negation depth high inner; unary = Unary depth high inner; select = Sel depth high inner; ty = Ty depth high inner }

-- What may stand in a part that passes the limit, where at most so many more are open in it.
unfoldable pub beyond : (ℕ → Bool) → ℕ → Inner
beyond high zero = levels zero high nothing
beyond high (suc spare) = levels zero high (beyond high spare)

-- What is spelled where `depth` more parts may be open, and at most `spare` more in one that passes this limit.
unfoldable pub within : (ℕ → Bool) → ℕ → ℕ → Inner
within high spare zero = levels zero high (beyond high spare)
within high spare (suc depth) = levels (suc depth) high (within high spare depth)

-- Sel [';']
abbrev pub Statement : Inner → Lang Token GrownSelect
Statement whole = do
  s ← whole.select
  Either (do One (sign_of sign.Semicolon); Empty s) (Empty s)
