-- Reading a statement from the left, with one token to look at.
use Rattle.std.specs.Prelude.{ℕ, zero, suc, Bool, true, false, ◌==◌, ◌||◌}
use Rattle.sql_lex.specs.declared.token.Token.{Token}
use Rattle.sql_lex.specs.declared.token.Sign.TheVariants as sign
use Rattle.sql_lex.specs.declared.keyword.Keyword.TheVariants as keyword
use Rattle.sql_ast.specs.declared.expression.UnaryOp.TheVariants as unary
use Rattle.sql_grammar.specs.declared.grown.Name.{Name}
use Rattle.sql_grammar.specs.declared.grown.GrownTy.{GrownTy}
use Rattle.sql_grammar.specs.declared.grown.Types.{Types}
use Rattle.sql_grammar.specs.declared.grown.Grown.{Grown}
use Rattle.sql_grammar.specs.declared.grown.Bunch.{Bunch}
use Rattle.sql_grammar.specs.declared.grown.GrownColumn.{GrownColumn}
use Rattle.sql_grammar.specs.declared.grown.GrownItem.{GrownItem}
use Rattle.sql_grammar.specs.declared.grown.GrownKey.{GrownKey}
use Rattle.sql_grammar.specs.declared.grown.GrownCore.{GrownCore}
use Rattle.sql_grammar.specs.declared.grown.Cores.{Cores}
use Rattle.sql_grammar.specs.declared.grown.GrownSelect.{GrownSelect}
use Rattle.sql_grammar.specs.declared.class.Start.TheVariants as start
use Rattle.exact.specs.declared.rule.Rule.TheVariants.{TooDeep}
use Rattle.sql_grammar.specs.Words.{is_sign, is_word, starts, sign_of, word_of, name_of, literal_of, number_of, text_of, id_of, operator_of, function_of, scalar_of, direction_of, absent_of}
use Rattle.sql_grammar.specs.Trees.{scalar_ty, no_types, first_type, added_type, row_ty, array_ty, grouped, uuid, null_of, column, argument, global, array, nothing_yet, alone, added, row, part, case_of, cast, call, prefixed, null_test, operated, named_column, table_item, lateral_item, left_item, unnest_item, key_of, first_column, added_column, with_item, with_condition, with_key, with_offset, with_limit, first_core, added_core, select_of}
use Rattle.exact.specs.Reading.{Reader, ◌>>=◌, ◌>>◌, pure, refuse, has, one, one_within, choose, chain}

pub record Inner : Type 1 where
  pub expr : Reader Token Grown
  pub negation : Reader Token Grown
  pub unary : Reader Token Grown
  pub select : Reader Token GrownSelect
  pub ty : Reader Token GrownTy

-- A comma, and one more.
abbrev pub comma_step : {A B : Type 0} → Reader Token A → (B → A → B) → B → Reader Token B
comma_step p add all = do
  one (sign_of sign.Comma)
  x ← p
  pure (add all x)

abbrev pub further : {A B : Type 0} → Reader Token A → (B → A → B) → B → Reader Token B
further p add = chain (is_sign sign.Comma) (comma_step p add)

abbrev pub commas : {A B : Type 0} → Reader Token A → (A → B) → (B → A → B) → Reader Token B
commas p start add = p >>= λ first. further p add (start first)

-- whether the token goes on with the items of FROM
abbrev pub goes_on_items : Token → Bool
goes_on_items t = is_sign sign.Comma t || is_word keyword.Left t

module _ (depth : ℕ) (high : ℕ → Bool) (inner : Inner) where
  unfoldable pub opening : Reader Token ℕ
  opening = one_within (depth == 0) (sign_of sign.LeftParen)

  unfoldable pub sub : Reader Token GrownSelect
  sub = do
    opening
    s ← inner.select
    one (sign_of sign.RightParen)
    pure s

  unfoldable pub within_parens : Reader Token Grown
  within_parens = do
    start ← opening
    x ← inner.expr
    one (sign_of sign.RightParen)
    pure (grouped start x)

  -- ---- types

  unfoldable pub types_within : Reader Token Types
  types_within = do
    opening
    choose (is_sign sign.RightParen) (do one (sign_of sign.RightParen); pure no_types) (do all ← commas inner.ty first_type added_type; one (sign_of sign.RightParen); pure all)

  unfoldable pub array_of_ty : Reader Token GrownTy
  array_of_ty = do
    one (word_of keyword.Array)
    opening
    t ← inner.ty
    one (sign_of sign.RightParen)
    pure (array_ty t)

  unfoldable pub ty_of : Reader Token GrownTy
  ty_of =
      choose (has scalar_of) (do s ← one scalar_of; pure (scalar_ty s))
      (choose (is_word keyword.Row) (do one (word_of keyword.Row); all ← types_within; pure (row_ty all)) array_of_ty)

  -- ---- what holds no operator of its own

  unfoldable pub uuid_text : Reader Token Grown
  uuid_text = do
    start ← one (word_of keyword.Uuid)
    id ← one id_of
    pure (uuid start id)

  unfoldable pub null_ty : Reader Token Grown
  null_ty = do
    start ← one (word_of keyword.Null)
    one (sign_of sign.Cast)
    t ← ty_of
    pure (null_of start t)

  unfoldable pub reference : Reader Token Grown
  reference = do
    alias ← one name_of
    one (sign_of sign.Dot)
    name ← one name_of
    pure (column alias name)

  unfoldable pub argument_of : Reader Token Grown
  argument_of = do
    start ← one (word_of keyword.Arg)
    opening
    name ← one text_of
    one (sign_of sign.Comma)
    t ← inner.ty
    one (sign_of sign.RightParen)
    pure (argument start name t)

  unfoldable pub global_text : Reader Token Grown
  global_text = do
    start ← one (word_of keyword.Global)
    opening
    name ← one text_of
    one (sign_of sign.RightParen)
    pure (global start name)

  unfoldable pub array_of : Reader Token Grown
  array_of = do
    start ← one (word_of keyword.Array)
    s ← sub
    pure (array start s)

  unfoldable pub exprs_within : Reader Token Bunch
  exprs_within = do
    opening
    choose (is_sign sign.RightParen) (do one (sign_of sign.RightParen); pure nothing_yet) (do all ← commas inner.expr alone added; one (sign_of sign.RightParen); pure all)

  unfoldable pub row_of : Reader Token Grown
  row_of = do
    start ← one (word_of keyword.Row)
    all ← exprs_within
    pure (row start all)

  unfoldable pub part_of : Reader Token Grown
  part_of = do
    start ← one (word_of keyword.Part)
    opening
    x ← inner.expr
    one (sign_of sign.Comma)
    number ← one number_of
    one (sign_of sign.RightParen)
    pure (part start x number)

  unfoldable pub case_when : Reader Token Grown
  case_when = do
    start ← one_within (depth == 0) (word_of keyword.Case)
    one (word_of keyword.When)
    condition ← inner.expr
    one (word_of keyword.Then)
    value ← inner.expr
    one (word_of keyword.Else)
    other ← inner.expr
    one (word_of keyword.End)
    pure (case_of start condition value other)

  unfoldable pub cast_of : Reader Token Grown
  cast_of = do
    start ← one (word_of keyword.Cast)
    opening
    x ← inner.expr
    one (word_of keyword.As)
    t ← inner.ty
    one (sign_of sign.RightParen)
    pure (cast start x t)

  unfoldable pub call_of : Reader Token Grown
  call_of = do
    found ← one function_of
    x ← within_parens
    pure (call found x)

  unfoldable pub form : Reader Token Grown
  form =
      choose (starts start.Arg) argument_of
      (choose (starts start.Global) global_text
      (choose (starts start.Array) array_of
      (choose (starts start.Row) row_of
      (choose (starts start.Part) part_of
      (choose (starts start.Case) case_when
      (choose (starts start.Cast) cast_of call_of))))))

  unfoldable pub prim : Reader Token Grown
  prim =
      choose (starts start.Group) within_parens
      (choose (starts start.Literal) (one literal_of)
      (choose (starts start.Uuid) uuid_text
      (choose (starts start.Null) null_ty
      (choose (starts start.Column) reference form))))

  -- ---- operators, from the tightest to the loosest

  unfoldable pub unary_of : Reader Token Grown
  unary_of = choose (starts start.Minus) (do start ← one_within (depth == 0) (sign_of sign.Minus); x ← inner.unary; pure (prefixed unary.Neg start x)) prim

  -- an operator of the level, and its right operand
  abbrev pub operation : ℕ → Reader Token Grown → Grown → Reader Token Grown
  operation level operand left = do
    found ← one_within (high left.height) (operator_of level)
    right ← operand
    pure (operated found left right)

  abbrev pub operations : ℕ → Reader Token Grown → Grown → Reader Token Grown
  operations level operand = chain (has (operator_of level)) (operation level operand)

  unfoldable pub operators : ℕ → Reader Token Grown → Reader Token Grown
  operators level operand = operand >>= operations level operand

  unfoldable pub product : Reader Token Grown
  product = operators 6 unary_of

  unfoldable pub sum : Reader Token Grown
  sum = operators 5 product

  unfoldable pub negated : Reader Token Bool
  negated = choose (is_word keyword.Not) (do one (word_of keyword.Not); pure true) (pure false)

  unfoldable pub null_test_of : Grown → Reader Token Grown
  null_test_of x = do
    one (word_of keyword.Is)
    negated ← negated
    one (word_of keyword.Null)
    pure (null_test x negated)

  unfoldable pub comparison : Reader Token Grown
  comparison = do
    left ← sum
    choose (has (operator_of 4)) (do found ← one (operator_of 4); right ← sum; pure (operated found left right)) (choose (is_word keyword.Is) (null_test_of left) (pure left))

  unfoldable pub negation : Reader Token Grown
  negation = choose (starts start.Not) (do start ← one_within (depth == 0) (word_of keyword.Not); x ← inner.negation; pure (prefixed unary.Not start x)) comparison

  unfoldable pub conjunction : Reader Token Grown
  conjunction = operators 2 negation

  unfoldable pub expr : Reader Token Grown
  expr = operators 1 conjunction

  -- ---- cores

  unfoldable pub alias_name : Reader Token Name
  alias_name = do
    one (word_of keyword.As)
    one name_of

  unfoldable pub column_of : Reader Token GrownColumn
  column_of = do
    x ← expr
    name ← alias_name
    pure (named_column x name)

  unfoldable pub distinct_word : Reader Token Bool
  distinct_word = choose (is_word keyword.Distinct) (do one (word_of keyword.Distinct); pure true) (pure false)

  unfoldable pub columns : Reader Token GrownCore
  columns = do
    start ← one (word_of keyword.Select)
    distinct ← distinct_word
    commas column_of (first_column start distinct) added_column

  unfoldable pub item_of_table : Reader Token GrownItem
  item_of_table = do
    table ← one name_of
    alias ← alias_name
    pure (table_item table alias)

  unfoldable pub item_of_lateral : Reader Token GrownItem
  item_of_lateral = do
    one (word_of keyword.Lateral)
    s ← sub
    alias ← alias_name
    pure (lateral_item s alias)

  unfoldable pub item_of_unnest : Reader Token GrownItem
  item_of_unnest = do
    one (word_of keyword.Unnest)
    x ← within_parens
    alias ← alias_name
    pure (unnest_item x alias)

  unfoldable pub item : Reader Token GrownItem
  item = choose (has name_of) item_of_table (choose (is_word keyword.Lateral) item_of_lateral item_of_unnest)

  unfoldable pub item_of_left : Reader Token GrownItem
  item_of_left = do
    one (word_of keyword.Left)
    one (word_of keyword.Join)
    one (word_of keyword.Lateral)
    s ← sub
    alias ← alias_name
    one (word_of keyword.On)
    one (word_of keyword.True)
    pure (left_item s alias)

  unfoldable pub further_item : Reader Token GrownItem
  further_item = choose (is_sign sign.Comma) (do one (sign_of sign.Comma); item) item_of_left

  abbrev pub next_item : GrownCore → Reader Token GrownCore
  next_item all = do
    x ← further_item
    pure (with_item all x)

  abbrev pub further_items : GrownCore → Reader Token GrownCore
  further_items = chain goes_on_items next_item

  unfoldable pub from_items : GrownCore → Reader Token GrownCore
  from_items g =
      choose (is_word keyword.From)
      (do
        one (word_of keyword.From)
        first ← item
        further_items (with_item g first))
      (pure g)

  unfoldable pub where_clause : GrownCore → Reader Token GrownCore
  where_clause g = choose (is_word keyword.Where) (do one (word_of keyword.Where); x ← expr; pure (with_condition g x)) (pure g)

  unfoldable pub key : Reader Token GrownKey
  key = do
    x ← expr
    way ← one direction_of
    one (word_of keyword.Nulls)
    nulls ← one absent_of
    pure (key_of x way nulls)

  unfoldable pub order : GrownCore → Reader Token GrownCore
  order g = choose (is_word keyword.Order) (do one (word_of keyword.Order); one (word_of keyword.By); commas key (with_key g) with_key) (pure g)

  unfoldable pub offset : GrownCore → Reader Token GrownCore
  offset g = choose (is_word keyword.Offset) (do one (word_of keyword.Offset); x ← expr; pure (with_offset g x)) (pure g)

  unfoldable pub limit : GrownCore → Reader Token GrownCore
  limit g = choose (is_word keyword.Limit) (do one (word_of keyword.Limit); x ← expr; pure (with_limit g x)) (pure g)

  unfoldable pub core_of : Reader Token GrownCore
  core_of = do
    a ← columns
    b ← from_items a
    c ← where_clause b
    d ← order c
    e ← offset d
    limit e

  unfoldable pub further_core : Reader Token GrownCore
  further_core = do
    one (word_of keyword.Union)
    one (word_of keyword.All)
    core_of

  abbrev pub next_core : Cores → Reader Token Cores
  next_core all = do
    g ← further_core
    pure (added_core all g)

  abbrev pub further_cores : Cores → Reader Token Cores
  further_cores = chain (is_word keyword.Union) next_core

  unfoldable pub cores_of : Reader Token Cores
  cores_of = do
    first ← core_of
    further_cores (first_core first)

  unfoldable pub sel : Reader Token GrownSelect
  sel = do
    all ← cores_of
    pure (select_of all)

abbrev pub nothing : Inner
nothing = record { expr = refuse TooDeep; negation = refuse TooDeep; unary = refuse TooDeep; select = refuse TooDeep; ty = refuse TooDeep }

abbrev pub levels : ℕ → (ℕ → Bool) → Inner → Inner
levels depth high inner = record { expr = expr depth high inner; negation = negation depth high inner; unary = unary_of depth high inner; select = sel depth high inner; ty = ty_of depth high inner }

-- What is read where so many more parts may be open.
unfoldable pub within : (ℕ → Bool) → ℕ → Inner
within high zero = levels zero high nothing
within high (suc depth) = levels (suc depth) high (within high depth)

-- What is read in the next open part.
unfoldable pub inside : (ℕ → Bool) → ℕ → Inner
inside high zero = nothing
inside high (suc depth) = within high depth

unfoldable pub statement : Inner → Reader Token GrownSelect
statement whole = do
  s ← whole.select
  choose (is_sign sign.Semicolon) (do one (sign_of sign.Semicolon); pure s) (pure s)
