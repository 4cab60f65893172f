-- Reading a query from the left, with one token to look at.
use Rattle.std.specs.Prelude.{ℕ, zero, suc, Bool, true, false, ◌==◌, ◌||◌, List, [], ◌∷◌, Some, None}
use Rattle.exact.specs.declared.rule.Rule.TheVariants.{Unexpected, TooDeep}
use Rattle.ev_lex.specs.declared.token.Token.{Token}
use Rattle.ev_lex.specs.declared.token.Sign.TheVariants as sign
use Rattle.ev_lex.specs.declared.keyword.Keyword.TheVariants as keyword
use Rattle.ast.specs.declared.name.Span.{Span}
use Rattle.ast.specs.declared.name.Name.{Name}
use Rattle.ast.specs.declared.name.QualifiedName.{QualifiedName}
use Rattle.ast.specs.declared.operator.BinaryOperator.TheVariants as op
use Rattle.ast.specs.declared.operator.UnaryOperator.TheVariants as prefix
use Rattle.ast.specs.Expression.{joined, span_of}
use Rattle.eql_grammar.specs.declared.grown.Infix.{Infix}
use Rattle.eql_grammar.specs.declared.grown.Qualified.{Qualified}
use Rattle.eql_grammar.specs.declared.grown.Direction.{Direction}
use Rattle.eql_grammar.specs.declared.grown.GrownExpr.{GrownExpr}
use Rattle.eql_grammar.specs.declared.grown.Bunch.{Bunch}
use Rattle.eql_grammar.specs.declared.grown.GrownShape.{GrownShape}
use Rattle.eql_grammar.specs.declared.grown.GrownElement.{GrownElement}
use Rattle.eql_grammar.specs.declared.grown.Elements.{Elements}
use Rattle.eql_grammar.specs.declared.grown.GrownKey.{GrownKey}
use Rattle.eql_grammar.specs.declared.grown.GrownClauses.{GrownClauses}
use Rattle.eql_grammar.specs.declared.grown.GrownAlias.{GrownAlias}
use Rattle.eql_grammar.specs.declared.grown.With.{With}
use Rattle.eql_grammar.specs.declared.grown.Heads.{Heads}
use Rattle.eql_grammar.specs.declared.grown.Frame.{Frame}
use Rattle.eql_grammar.specs.declared.grown.Frame.TheVariants as frame
use Rattle.eql_grammar.specs.declared.grown.Opening.{Opening}
use Rattle.eql_grammar.specs.declared.grown.Opening.TheVariants as opening
use Rattle.eql_grammar.specs.declared.grown.Body.TheVariants as body
use Rattle.eql_grammar.specs.declared.grown.Nest.{Nest}
use Rattle.eql_grammar.specs.declared.grown.Nest.TheVariants as nest
use Rattle.eql_grammar.specs.declared.grown.Asked.{Asked}
use Rattle.eql_grammar.specs.Words.{is_sign, is_word, is_statement, ends_aliases, sign_of, word_of, comma_of, name_of, parameter_of, literal_of, infix_of, prefix_of, need_of, width_of, direction_of, place_of}
use Rattle.eql_grammar.specs.Trees as t
use Rattle.eql_grammar.specs.Trees.{statement_of}
use Rattle.eql_grammar.specs.Grammar.{turned}
use Rattle.exact.specs.Reading.{Reader, ◌>>=◌, ◌>>◌, pure, refuse, has, one, one_within, choose, chain, loop, item, more_items, items}
use Rattle.exact.specs.Language.{Step, More, Done}

pub record Inner : Type 0 where
  pub expr : Reader Token GrownExpr
  pub choice : Reader Token GrownExpr
  pub negation : Reader Token GrownExpr
  pub coalesce : Reader Token GrownExpr
  pub unary : Reader Token GrownExpr
  pub statement : Reader Token Nest
  pub element : Reader Token GrownElement

-- Where the reading of nested `if`s stands: a part is wanted inside these, the innermost first, or the innermost has the part that it waits for.
pub data Waiting : Type 0 where
  Want : List Frame → Waiting
  Have : Frame → List Frame → GrownExpr → Waiting

-- a part was read, inside these `if`s
abbrev pub settled : List Frame → GrownExpr → Step Waiting GrownExpr
settled [] x = Done x
settled (f ∷ more) x = More (Have f more x)

unfoldable pub qname : Reader Token QualifiedName
qname = do
  first ← one name_of
  choose (is_sign sign.Namespace) (do one (sign_of sign.Namespace); second ← one name_of; pure (t.in_module first second)) (pure (t.bare_name first))

module _ (depth : ℕ) (high : ℕ → Bool) (inner : Inner) where
  -- ---- brackets

  abbrev pub next_listed : Bunch → Reader Token Bunch
  next_listed all = do
    one_within (high all.height) (sign_of sign.Comma)
    x ← inner.expr
    pure (t.added all x)

  unfoldable pub further : Bunch → Reader Token Bunch
  further all = chain (is_sign sign.Comma) next_listed all

  unfoldable pub listed : Bunch → Reader Token Bunch
  listed before = do
    x ← inner.expr
    further (t.added before x)

  unfoldable pub arguments : QualifiedName → Reader Token GrownExpr
  arguments name = do
    one_within (depth == 0) (sign_of sign.LeftParen)
    choose (is_sign sign.RightParen) (do close ← one (sign_of sign.RightParen); pure (t.call name t.nothing_yet close))
        (do
          all ← listed t.nothing_yet
          close ← one_within (high all.height) (sign_of sign.RightParen)
          pure (t.call name all close))

  unfoldable pub name_or_call : Reader Token GrownExpr
  name_or_call = do
    name ← qname
    choose (is_sign sign.LeftParen) (arguments name) (pure (t.named name))

  unfoldable pub closed : Span → GrownExpr → Reader Token GrownExpr
  closed bracket x =
      choose (is_sign sign.RightParen) (do close ← one_within (high x.height) (sign_of sign.RightParen); pure (t.grouped bracket x close))
      (do
        one_within (high x.height) (sign_of sign.Comma)
        choose (is_sign sign.RightParen) (do close ← one (sign_of sign.RightParen); pure (t.tuple bracket (t.alone x) close))
            (do
              all ← listed (t.alone x)
              close ← one_within (high all.height) (sign_of sign.RightParen)
              pure (t.tuple bracket all close)))

  unfoldable pub group : Reader Token GrownExpr
  group = do
    bracket ← one_within (depth == 0) (sign_of sign.LeftParen)
    choose is_statement
        (do
          s ← inner.statement
          close ← one_within (high (statement_of s).height) (sign_of sign.RightParen)
          pure (t.stated bracket (statement_of s) close))
        (do x ← inner.expr; closed bracket x)

  abbrev pub next_item : Bunch → Reader Token (Step Bunch Bunch)
  next_item = item (λ all. high all.height) (is_sign sign.Comma) comma_of (is_sign sign.RightBrace) inner.expr t.added

  unfoldable pub further_items : Bunch → Reader Token Bunch
  further_items = more_items (λ all. high all.height) (is_sign sign.Comma) comma_of (is_sign sign.RightBrace) inner.expr t.added

  unfoldable pub braces : Reader Token GrownExpr
  braces = do
    bracket ← one_within (depth == 0) (sign_of sign.LeftBrace)
    choose (is_sign sign.RightBrace) (do close ← one (sign_of sign.RightBrace); pure (t.set bracket t.nothing_yet close))
        (do
          all ← items (λ all. high all.height) (is_sign sign.Comma) comma_of (is_sign sign.RightBrace) inner.expr t.alone t.added
          close ← one_within (high all.height) (sign_of sign.RightBrace)
          pure (t.set bracket all close))

  abbrev pub next_element : Elements → Reader Token (Step Elements Elements)
  next_element = item (λ all. high all.height) (is_sign sign.Comma) comma_of (is_sign sign.RightBrace) inner.element t.added_element

  unfoldable pub further_elements : Elements → Reader Token Elements
  further_elements = more_items (λ all. high all.height) (is_sign sign.Comma) comma_of (is_sign sign.RightBrace) inner.element t.added_element

  unfoldable pub shape : Bool → Reader Token GrownShape
  shape over = do
    bracket ← one_within over (sign_of sign.LeftBrace)
    all ← items (λ all. high all.height) (is_sign sign.Comma) comma_of (is_sign sign.RightBrace) inner.element t.first_element t.added_element
    close ← one_within (high all.height) (sign_of sign.RightBrace)
    pure (t.shape bracket all close)

  -- ---- atoms and postfixes

  unfoldable pub atom : Reader Token GrownExpr
  atom =
      choose (is_sign sign.LeftParen) group
      (choose (is_sign sign.LeftBrace) braces
      (choose (has literal_of) (do x ← one literal_of; pure (t.leaf x))
      (choose (is_sign sign.Dot) (do at ← one (sign_of sign.Dot); name ← one name_of; pure (t.partial_step at name))
      (choose (is_sign sign.BackLink) (do at ← one (sign_of sign.BackLink); name ← one name_of; pure (t.partial_back_link at name))
      (choose (is_sign sign.At) (do at ← one (sign_of sign.At); name ← one name_of; pure (t.partial_property at name))
      (choose (is_word keyword.Global) (do at ← one (word_of keyword.Global); name ← one name_of; pure (t.global_named at name))
      name_or_call))))))

  -- whether the token begins a postfix
  abbrev pub is_postfix : Token → Bool
  is_postfix token = is_sign sign.Dot token || (is_sign sign.BackLink token || (is_sign sign.At token || (is_sign sign.LeftBracket token || is_sign sign.LeftBrace token)))

  unfoldable pub postfix : GrownExpr → Reader Token GrownExpr
  postfix base =
      choose (is_sign sign.Dot) (do at ← one_within (high base.height) (sign_of sign.Dot); name ← one name_of; pure (t.stepped base (t.dot at name)))
      (choose (is_sign sign.BackLink) (do at ← one_within (high base.height) (sign_of sign.BackLink); name ← one name_of; pure (t.stepped base (t.back_link at name)))
      (choose (is_sign sign.At) (do at ← one_within (high base.height) (sign_of sign.At); name ← one name_of; pure (t.stepped base (t.property at name)))
      (choose (is_sign sign.LeftBracket)
      (do
        bracket ← one_within (high base.height || (depth == 0)) (sign_of sign.LeftBracket)
        one (word_of keyword.Is)
        ty ← qname
        close ← one (sign_of sign.RightBracket)
        pure (t.stepped base (t.is_type bracket ty close)))
      (do found ← shape (high base.height || (depth == 0)); pure (t.with_shape base found)))))

  unfoldable pub postfixes : GrownExpr → Reader Token GrownExpr
  postfixes base = chain is_postfix postfix base

  unfoldable pub post : Reader Token GrownExpr
  post = atom >>= postfixes

  -- ---- the levels, from the tightest to the loosest

  unfoldable pub parameter : Span → Bool → QualifiedName → Reader Token GrownExpr
  parameter bracket optional ty = do
    dollar ← one (sign_of sign.Dollar)
    name ← one parameter_of
    pure (t.parameter bracket optional ty dollar name)

  unfoldable pub cast : Reader Token GrownExpr
  cast = do
    bracket ← one_within (depth == 0) (sign_of sign.Less)
    choose (is_word keyword.Optional) (do one (word_of keyword.Optional); ty ← qname; one (sign_of sign.Greater); parameter bracket true ty)
        (do
          ty ← qname
          one (sign_of sign.Greater)
          choose (is_sign sign.Dollar) (parameter bracket false ty) (do x ← inner.unary; pure (t.cast bracket ty x)))

  unfoldable pub unary : Reader Token GrownExpr
  unary = choose (has prefix_of) (do found ← one_within (depth == 0) prefix_of; x ← inner.unary; pure (t.prefixed found x)) (choose (is_sign sign.Less) cast post)

  unfoldable pub coalesce : Reader Token GrownExpr
  coalesce = do
    left ← unary
    choose (has (infix_of 9)) (do found ← one_within (high left.height || (depth == 0)) (infix_of 9); right ← inner.coalesce; pure (t.operated found left right)) (pure left)

  -- an operator of the level, and the operand behind it
  abbrev pub operation : ℕ → Reader Token GrownExpr → GrownExpr → Reader Token GrownExpr
  operation level operand left = do
    found ← one_within (high left.height) (infix_of level)
    right ← operand
    pure (t.operated found left right)

  abbrev pub operations : ℕ → Reader Token GrownExpr → GrownExpr → Reader Token GrownExpr
  operations level operand first = chain (has (infix_of level)) (operation level operand) first

  abbrev pub operators : ℕ → Reader Token GrownExpr → Reader Token GrownExpr
  operators level operand = operand >>= operations level operand

  unfoldable pub product : Reader Token GrownExpr
  product = operators 8 coalesce

  unfoldable pub sum : Reader Token GrownExpr
  sum = operators 7 product

  unfoldable pub comparing : Bool → Reader Token Infix
  comparing over =
      choose (has (infix_of 6)) (one_within over (infix_of 6))
      (do
        first ← one_within over (word_of keyword.Not)
        second ← one (word_of keyword.In)
        pure (record { operator = op.NotIn; place = joined first second }))

  -- whether the token begins a comparison behind its left side
  abbrev pub compares : Token → Bool
  compares token = has (infix_of 6) token || is_word keyword.Not token

  unfoldable pub comparison : Reader Token GrownExpr
  comparison = do
    left ← sum
    choose compares (do found ← comparing (high left.height); right ← sum; pure (t.operated found left right)) (pure left)

  unfoldable pub negation : Reader Token GrownExpr
  negation =
      choose (is_word keyword.Not) (do at ← one_within (depth == 0) (word_of keyword.Not); x ← inner.negation; pure (t.prefixed (record { operator = prefix.Not; place = at }) x)) comparison

  unfoldable pub conjunction : Reader Token GrownExpr
  conjunction = operators 4 negation

  unfoldable pub disjunction : Reader Token GrownExpr
  disjunction = operators 3 conjunction

  unfoldable pub conditional : Reader Token GrownExpr
  conditional = do
    value ← disjunction
    choose (is_word keyword.If)
        (do
          one_within (high value.height) (word_of keyword.If)
          condition ← disjunction
          one_within (high condition.height || (depth == 0)) (word_of keyword.Else)
          other ← inner.choice
          pure (t.chosen value condition other))
        (pure value)

  unfoldable pub if_turn : Waiting → Reader Token (Step Waiting GrownExpr)
  if_turn (Want frames) =
      choose (is_word keyword.If) (do at ← one (word_of keyword.If); pure (More (Want (frame.Condition at.start ∷ frames))))
      (do x ← conditional; pure (settled frames x))
  if_turn (Have (frame.Condition start) frames x) = do
    one_within (high x.height) (word_of keyword.Then)
    pure (More (Want (frame.Value start x ∷ frames)))
  if_turn (Have (frame.Value start condition) frames x) = do
    one_within (high x.height || (depth == 0)) (word_of keyword.Else)
    other ← inner.choice
    pure (settled frames (t.chosen_then start condition x other))

  unfoldable pub choice : Reader Token GrownExpr
  choice = loop (λ waiting. refuse Unexpected) if_turn (Want [])

  unfoldable pub expr : Reader Token GrownExpr
  expr = operators 1 choice

  -- ---- clauses

  unfoldable pub filter : GrownClauses → Reader Token GrownClauses
  filter c = choose (is_word keyword.Filter) (do one_within (high c.height) (word_of keyword.Filter); x ← expr; pure (t.filtered c x)) (pure c)

  unfoldable pub way : GrownExpr → Reader Token Direction
  way x = choose (has direction_of) (one_within (high x.height) direction_of) (pure (t.upward x))

  unfoldable pub placed : GrownExpr → Direction → Reader Token GrownKey
  placed x found =
      choose (is_word keyword.Empty) (do one_within (high x.height) (word_of keyword.Empty); place ← one place_of; pure (t.keyed x found (Some place.place) place.end))
      (pure (t.keyed x found None found.end))

  unfoldable pub key : Reader Token GrownKey
  key = do
    x ← expr
    found ← way x
    placed x found

  abbrev pub next_key : GrownClauses → Reader Token GrownClauses
  next_key all = do
    one_within (high all.height) (word_of keyword.Then)
    found ← key
    pure (t.ordered all found)

  unfoldable pub further_keys : GrownClauses → Reader Token GrownClauses
  further_keys all = chain (is_word keyword.Then) next_key all

  unfoldable pub order : GrownClauses → Reader Token GrownClauses
  order c =
      choose (is_word keyword.Order)
      (do
        one_within (high c.height) (word_of keyword.Order)
        one (word_of keyword.By)
        first ← key
        further_keys (t.ordered c first))
      (pure c)

  unfoldable pub offset : GrownClauses → Reader Token GrownClauses
  offset c = choose (is_word keyword.Offset) (do one_within (high c.height) (word_of keyword.Offset); x ← expr; pure (t.offset_by c x)) (pure c)

  unfoldable pub limit : GrownClauses → Reader Token GrownClauses
  limit c = choose (is_word keyword.Limit) (do one_within (high c.height) (word_of keyword.Limit); x ← expr; pure (t.limited c x)) (pure c)

  unfoldable pub clauses : GrownClauses → Reader Token GrownClauses
  clauses none = do
    a ← filter none
    b ← order a
    c ← offset b
    limit c

  -- ---- elements of a shape

  -- whether the token is a word that may stand before a computed element
  abbrev pub is_qualifier : Token → Bool
  is_qualifier token = has need_of token || has width_of token

  unfoldable pub words : Reader Token Qualified
  words = choose (has need_of) (do first ← one need_of; choose (has width_of) (do second ← one width_of; pure (t.both_words first second)) (pure first)) (one width_of)

  unfoldable pub pointer : Name → Reader Token GrownElement
  pointer name =
      choose (is_sign sign.Colon) (do one (sign_of sign.Colon); found ← shape (depth == 0); c ← clauses (t.no_clauses found.shape.span.end found.height); pure (t.nested name found c))
      (choose (is_sign sign.Assign) (do one (sign_of sign.Assign); x ← expr; pure (t.computed name.span.start t.no_qualifiers name x))
      (pure (t.pointer name)))

  unfoldable pub element : Reader Token GrownElement
  element =
      choose (is_sign sign.Star) (do at ← one (sign_of sign.Star); choose (is_sign sign.Star) (do behind ← one (sign_of sign.Star); pure (t.double_splat at behind)) (pure (t.splat at)))
      (choose (is_sign sign.At) (do at ← one (sign_of sign.At); name ← one name_of; pure (t.link_property at name))
      (choose is_qualifier (do found ← words; name ← one name_of; one (sign_of sign.Assign); x ← expr; pure (t.computed found.start found.qualifiers name x))
      (do name ← one name_of; pointer name)))

  -- ---- statements

  unfoldable pub alias : Reader Token GrownAlias
  alias = do
    name ← one name_of
    one (sign_of sign.Assign)
    x ← expr
    pure (t.alias_of name x)

  abbrev pub next_alias : With → Reader Token (Step With With)
  next_alias = item (λ all. high all.height) (is_sign sign.Comma) comma_of ends_aliases alias t.added_alias

  unfoldable pub further_aliases : With → Reader Token With
  further_aliases = more_items (λ all. high all.height) (is_sign sign.Comma) comma_of ends_aliases alias t.added_alias

  unfoldable pub aliases : Reader Token With
  aliases = do
    at ← one (word_of keyword.With)
    items (λ all. high all.height) (is_sign sign.Comma) comma_of ends_aliases alias (t.first_alias at.start) t.added_alias

  unfoldable pub for_union : With → Reader Token Opening
  for_union before = do
    at ← one_within (high before.height) (word_of keyword.For)
    variable ← one name_of
    one (word_of keyword.In)
    iterator ← post
    one_within (high iterator.height) (word_of keyword.Union)
    pure (opening.For (t.headed before at variable iterator))

  unfoldable pub select : With → Reader Token Opening
  select before = do
    at ← one_within (high before.height) (word_of keyword.Select)
    subject ← expr
    c ← clauses (t.no_clauses (span_of subject.expr).end subject.height)
    pure (opening.Select (t.selected before at subject c))

  unfoldable pub opens : Reader Token Opening
  opens =
      choose (is_word keyword.With) (do before ← aliases; choose (is_word keyword.For) (for_union before) (select before))
      (choose (is_word keyword.For) (for_union t.no_aliases) (select t.no_aliases))

  unfoldable pub turn : Heads → Reader Token (Step Heads Nest)
  turn heads = choose is_statement (do o ← opens; pure (turned heads o)) (do x ← expr; pure (Done (nest.For heads (body.Expr x))))

  unfoldable pub inside_for : Heads → Reader Token Nest
  inside_for heads = loop (λ heads. refuse Unexpected) turn heads

  unfoldable pub rest : Opening → Reader Token Nest
  rest (opening.Select s) = pure (nest.Select s)
  rest (opening.For head) = inside_for (t.outermost head)

  unfoldable pub statement : Reader Token Nest
  statement = opens >>= rest

abbrev pub nothing : Inner
nothing = record {
  expr = refuse TooDeep;
  choice = refuse TooDeep;
  negation = refuse TooDeep;
  coalesce = refuse TooDeep;
  unary = refuse TooDeep;
  statement = refuse TooDeep;
  element = refuse TooDeep;
}

abbrev pub levels : ℕ → (ℕ → Bool) → Inner → Inner
levels depth high inner = record {
  expr = expr depth high inner;
  choice = choice depth high inner;
  negation = negation depth high inner;
  coalesce = coalesce depth high inner;
  unary = unary depth high inner;
  statement = statement depth high inner;
  element = element depth high inner;
}

-- What is read where so many more parts may be open.
unfoldable pub within : (ℕ → Bool) → ℕ → Inner
within high zero = levels zero high nothing
within high (suc depth) = levels (suc depth) high (within high depth)

-- What is read in the next open part.
unfoldable pub inside : (ℕ → Bool) → ℕ → Inner
inside high zero = nothing
inside high (suc depth) = within high depth

unfoldable pub query : (ℕ → Bool) → Inner → Reader Token Asked
query high whole = do
  found ← whole.statement
  choose (is_sign sign.Semicolon) (do at ← one_within (high (statement_of found).height) (sign_of sign.Semicolon); pure (record { nest = found; end = Some at.end }))
      (pure (record { nest = found; end = None }))
