-- The grammar: which tokens spell which tree, with at most so many parts open at once, and nothing behind what is too high.
use Rattle.std.specs.Prelude.{ℕ, zero, suc, Bool, true, false, ◌==◌, ◌||◌, Some, None}
use Rattle.ev_lex.specs.declared.token.Token.{Token}
use Rattle.ev_lex.specs.declared.token.Sign.TheVariants as sign
use Rattle.ev_lex.specs.declared.keyword.Keyword.TheVariants as keyword
use Rattle.ast.specs.declared.name.Span.{Span}
use Rattle.ast.specs.declared.name.Name.{Name}
use Rattle.ast.specs.declared.name.QualifiedName.{QualifiedName}
use Rattle.ast.specs.declared.operator.BinaryOperator.TheVariants as op
use Rattle.ast.specs.declared.operator.UnaryOperator.TheVariants as unary
use Rattle.ast.specs.Expression.{joined, span_of}
use Rattle.eql_grammar.specs.declared.grown.Infix.{Infix}
use Rattle.eql_grammar.specs.declared.grown.Qualified.{Qualified}
use Rattle.eql_grammar.specs.declared.grown.Direction.{Direction}
use Rattle.eql_grammar.specs.declared.grown.GrownExpr.{GrownExpr}
use Rattle.eql_grammar.specs.declared.grown.Bunch.{Bunch}
use Rattle.eql_grammar.specs.declared.grown.GrownShape.{GrownShape}
use Rattle.eql_grammar.specs.declared.grown.GrownElement.{GrownElement}
use Rattle.eql_grammar.specs.declared.grown.GrownKey.{GrownKey}
use Rattle.eql_grammar.specs.declared.grown.GrownClauses.{GrownClauses}
use Rattle.eql_grammar.specs.declared.grown.GrownAlias.{GrownAlias}
use Rattle.eql_grammar.specs.declared.grown.With.{With}
use Rattle.eql_grammar.specs.declared.grown.Heads.{Heads}
use Rattle.eql_grammar.specs.declared.grown.Opening.{Opening}
use Rattle.eql_grammar.specs.declared.grown.Opening.TheVariants as opening
use Rattle.eql_grammar.specs.declared.grown.Body.TheVariants as body
use Rattle.eql_grammar.specs.declared.grown.Nest.{Nest}
use Rattle.eql_grammar.specs.declared.grown.Nest.TheVariants as nest
use Rattle.eql_grammar.specs.declared.grown.Asked.{Asked}
use Rattle.eql_grammar.specs.Words.{sign_of, word_of, comma_of, name_of, parameter_of, literal_of, infix_of, prefix_of, need_of, width_of, direction_of, place_of}
use Rattle.eql_grammar.specs.Trees.{leaf, bare_name, in_module, named, partial_step, partial_back_link, partial_property, global_named, nothing_yet, alone, added, call, tuple, set, grouped, operated, prefixed, cast, parameter, chosen, chosen_then, dot, back_link, property, is_type, stepped, with_shape, no_clauses, filtered, ordered, offset_by, limited, upward, keyed, shape, first_element, added_element, pointer, link_property, splat, double_splat, nested, no_qualifiers, both_words, computed, alias_of, no_aliases, first_alias, added_alias, headed, selected, outermost, within_head, statement_of, stated}
use Rattle.exact.specs.Language.{Lang, ◌>>=◌, ◌>>◌, Never, Empty, One, OneWithin, Either, Chain, Loop, Step, More, Done, Items}

-- What may stand in an open part.
pub record Inner : Type 1 where
  -- any expression
  pub expr : Lang Token GrownExpr
  -- one of the level of `if` and `else`, of `not`, of `??`, of a prefix
  pub choice : Lang Token GrownExpr
  pub negation : Lang Token GrownExpr
  pub coalesce : Lang Token GrownExpr
  pub unary : Lang Token GrownExpr
  -- a statement, and an element of a shape
  pub statement : Lang Token Nest
  pub element : Lang Token GrownElement

-- [Name '::'] Name
abbrev pub QName : Lang Token QualifiedName
QName = do
  first ← One name_of
  Either (do One (sign_of sign.Namespace); second ← One name_of; Empty (in_module first second)) (Empty (bare_name first))

-- what becomes of the `for`s so far, where another one or a whole statement stands in them
abbrev pub turned : Heads → Opening → Step Heads Nest
turned heads (opening.For head) = More (within_head heads head)
turned heads (opening.Select s) = Done (nest.For heads (body.Statement s))

-- `depth` more parts may be open, `high` says which heights are too high, and `inner` is what may stand in an open part.
module _ (depth : ℕ) (high : ℕ → Bool) (inner : Inner) where
  -- ---- brackets

  -- {',' Expr}
  abbrev pub Further : Bunch → Lang Token Bunch
  Further = Chain (λ all. do OneWithin (high all.height) (sign_of sign.Comma); x ← inner.expr; Empty (added all x))

  -- Expr {',' Expr}
  abbrev pub Listed : Bunch → Lang Token Bunch
  Listed before = do
    x ← inner.expr
    Further (added before x)

  -- what stands behind a name: nothing, or '(' [Expr {',' Expr}] ')'
  abbrev pub Arguments : QualifiedName → Lang Token GrownExpr
  Arguments name = do
    OneWithin (depth == 0) (sign_of sign.LeftParen)
    Either (do close ← One (sign_of sign.RightParen); Empty (call name nothing_yet close))
        (do
          all ← Listed nothing_yet
          close ← OneWithin (high all.height) (sign_of sign.RightParen)
          Empty (call name all close))

  -- QName | QName '(' [Expr {',' Expr}] ')'
  abbrev pub NameOrCall : Lang Token GrownExpr
  NameOrCall = do
    name ← QName
    Either (Arguments name) (Empty (named name))

  -- what stands behind '(' Expr: ')' or ',' [Expr {',' Expr}] ')'
  abbrev pub Closed : Span → GrownExpr → Lang Token GrownExpr
  Closed bracket x =
      Either (do close ← OneWithin (high x.height) (sign_of sign.RightParen); Empty (grouped bracket x close))
      (do
        OneWithin (high x.height) (sign_of sign.Comma)
        Either (do close ← One (sign_of sign.RightParen); Empty (tuple bracket (alone x) close))
            (do
              all ← Listed (alone x)
              close ← OneWithin (high all.height) (sign_of sign.RightParen)
              Empty (tuple bracket all close)))

  -- '(' Stmt ')' | '(' Expr ')' | '(' Expr ',' [Expr {',' Expr}] ')'
  abbrev pub Group : Lang Token GrownExpr
  Group = do
    bracket ← OneWithin (depth == 0) (sign_of sign.LeftParen)
    Either
        (do
          s ← inner.statement
          close ← OneWithin (high (statement_of s).height) (sign_of sign.RightParen)
          Empty (stated bracket (statement_of s) close))
        (do x ← inner.expr; Closed bracket x)

  -- '{' [Expr {',' Expr} [',']] '}'
  abbrev pub Braces : Lang Token GrownExpr
  Braces = do
    bracket ← OneWithin (depth == 0) (sign_of sign.LeftBrace)
    Either (do close ← One (sign_of sign.RightBrace); Empty (set bracket nothing_yet close))
        (do
          all ← Items (λ all. high all.height) comma_of inner.expr alone added
          close ← OneWithin (high all.height) (sign_of sign.RightBrace)
          Empty (set bracket all close))

  -- '{' Elem {',' Elem} [','] '}'; `over` says whether the brace passes a limit
  abbrev pub Shape : Bool → Lang Token GrownShape
  Shape over = do
    bracket ← OneWithin over (sign_of sign.LeftBrace)
    all ← Items (λ all. high all.height) comma_of inner.element first_element added_element
    close ← OneWithin (high all.height) (sign_of sign.RightBrace)
    Empty (shape bracket all close)

  -- ---- atoms and postfixes

  -- Int | Text | true | false | '.' Name | '.<' Name | '@' Name | global Name | QName | QName '(' .. ')' | '(' .. ')' | '{' .. '}'
  abbrev pub Atom : Lang Token GrownExpr
  Atom =
      Either Group
      (Either Braces
      (Either (do x ← One literal_of; Empty (leaf x))
      (Either (do at ← One (sign_of sign.Dot); name ← One name_of; Empty (partial_step at name))
      (Either (do at ← One (sign_of sign.BackLink); name ← One name_of; Empty (partial_back_link at name))
      (Either (do at ← One (sign_of sign.At); name ← One name_of; Empty (partial_property at name))
      (Either (do at ← One (word_of keyword.Global); name ← One name_of; Empty (global_named at name))
      NameOrCall))))))

  -- '.' Name | '.<' Name | '@' Name | '[' is QName ']' | Shape
  abbrev pub Postfix : GrownExpr → Lang Token GrownExpr
  Postfix base =
      Either (do at ← OneWithin (high base.height) (sign_of sign.Dot); name ← One name_of; Empty (stepped base (dot at name)))
      (Either (do at ← OneWithin (high base.height) (sign_of sign.BackLink); name ← One name_of; Empty (stepped base (back_link at name)))
      (Either (do at ← OneWithin (high base.height) (sign_of sign.At); name ← One name_of; Empty (stepped base (property at name)))
      (Either
      (do
        bracket ← OneWithin (high base.height || (depth == 0)) (sign_of sign.LeftBracket)
        One (word_of keyword.Is)
        ty ← QName
        close ← One (sign_of sign.RightBracket)
        Empty (stepped base (is_type bracket ty close)))
      (do found ← Shape (high base.height || (depth == 0)); Empty (with_shape base found)))))

  -- Atom {'.' Name | '.<' Name | '[' is QName ']' | '@' Name | Shape}
  abbrev pub Post : Lang Token GrownExpr
  Post = do
    base ← Atom
    Chain Postfix base

  -- ---- the levels, from the tightest to the loosest

  -- '$' (Name | Int)
  abbrev pub Parameter : Span → Bool → QualifiedName → Lang Token GrownExpr
  Parameter bracket optional ty = do
    dollar ← One (sign_of sign.Dollar)
    name ← One parameter_of
    Empty (parameter bracket optional ty dollar name)

  -- '<' QName '>' Unary | '<' [optional] QName '>' '$' (Name | Int)
  abbrev pub Cast : Lang Token GrownExpr
  Cast = do
    bracket ← OneWithin (depth == 0) (sign_of sign.Less)
    Either (do One (word_of keyword.Optional); ty ← QName; One (sign_of sign.Greater); Parameter bracket true ty)
        (do
          ty ← QName
          One (sign_of sign.Greater)
          Either (Parameter bracket false ty) (do x ← inner.unary; Empty (cast bracket ty x)))

  -- level 10: ('-' | '+' | distinct | exists) Unary | Cast | Post
  abbrev pub Unary : Lang Token GrownExpr
  Unary = Either (do found ← OneWithin (depth == 0) prefix_of; x ← inner.unary; Empty (prefixed found x)) (Either Cast Post)

  -- level 9: Unary ['??' Coalesce]
  abbrev pub Coalesce : Lang Token GrownExpr
  Coalesce = do
    left ← Unary
    Either (do found ← OneWithin (high left.height || (depth == 0)) (infix_of 9); right ← inner.coalesce; Empty (operated found left right)) (Empty left)

  -- operands with operators of the level between them, grouped to the left
  abbrev pub Operators : ℕ → Lang Token GrownExpr → Lang Token GrownExpr
  Operators level Operand = do
    first ← Operand
    Chain (λ left. do found ← OneWithin (high left.height) (infix_of level); right ← Operand; Empty (operated found left right)) first

  -- level 8: Coalesce {('*' | '//' | '%') Coalesce}
  abbrev pub Product : Lang Token GrownExpr
  Product = Operators 8 Coalesce

  -- level 7: Product {('+' | '-' | '++') Product}
  abbrev pub Sum : Lang Token GrownExpr
  Sum = Operators 7 Product

  -- '=' | '!=' | '?=' | '?!=' | '<' | '<=' | '>' | '>=' | like | ilike | in | not in
  abbrev pub Comparing : Bool → Lang Token Infix
  Comparing over =
      Either (OneWithin over (infix_of 6))
      (do
        first ← OneWithin over (word_of keyword.Not)
        second ← One (word_of keyword.In)
        Empty (record { operator = op.NotIn; place = joined first second }))

  -- level 6: Sum [Comparing Sum]
  abbrev pub Comparison : Lang Token GrownExpr
  Comparison = do
    left ← Sum
    Either (do found ← Comparing (high left.height); right ← Sum; Empty (operated found left right)) (Empty left)

  -- level 5: not Negation | Comparison
  abbrev pub Negation : Lang Token GrownExpr
  Negation =
      Either (do at ← OneWithin (depth == 0) (word_of keyword.Not); x ← inner.negation; Empty (prefixed (record { operator = unary.Not; place = at }) x)) Comparison

  -- level 4: Negation {and Negation}
  abbrev pub And : Lang Token GrownExpr
  And = Operators 4 Negation

  -- level 3: And {or And}
  abbrev pub Or : Lang Token GrownExpr
  Or = Operators 3 And

  -- Or [if Or else Choice]
  abbrev pub Conditional : Lang Token GrownExpr
  Conditional = do
    value ← Or
    Either
        (do
          OneWithin (high value.height) (word_of keyword.If)
          condition ← Or
          OneWithin (high condition.height || (depth == 0)) (word_of keyword.Else)
          other ← inner.choice
          Empty (chosen value condition other))
        (Empty value)

  -- level 2: if Choice then Choice else Choice | Conditional, where the former nests in its first two parts at most so often
  abbrev pub Choices : ℕ → Lang Token GrownExpr
  Choices zero = Conditional
  Choices (suc k) =
      Either
      (do
        at ← One (word_of keyword.If)
        condition ← Choices k
        OneWithin (high condition.height) (word_of keyword.Then)
        value ← Choices k
        OneWithin (high value.height || (depth == 0)) (word_of keyword.Else)
        other ← inner.choice
        Empty (chosen_then at.start condition value other))
      Conditional

  -- level 2: if Choice then Choice else Choice | Or if Or else Choice | Or
  abbrev pub Choice : Lang Token GrownExpr
  Choice n ts x = (k : ℕ) × Choices k n ts x

  -- level 1: Choice {(union | intersect | except) Choice}
  abbrev pub Expr : Lang Token GrownExpr
  Expr = Operators 1 Choice

  -- ---- clauses

  -- [filter Expr]
  abbrev pub Filter : GrownClauses → Lang Token GrownClauses
  Filter c = Either (do OneWithin (high c.height) (word_of keyword.Filter); x ← Expr; Empty (filtered c x)) (Empty c)

  -- [asc | desc]
  abbrev pub Way : GrownExpr → Lang Token Direction
  Way x = Either (OneWithin (high x.height) direction_of) (Empty (upward x))

  -- [empty (first | last)]
  abbrev pub Placed : GrownExpr → Direction → Lang Token GrownKey
  Placed x way =
      Either (do OneWithin (high x.height) (word_of keyword.Empty); found ← One place_of; Empty (keyed x way (Some found.place) found.end))
      (Empty (keyed x way None way.end))

  -- Expr [asc | desc] [empty (first | last)]
  abbrev pub Key : Lang Token GrownKey
  Key = do
    x ← Expr
    way ← Way x
    Placed x way

  -- [order by Key {then Key}]
  abbrev pub Order : GrownClauses → Lang Token GrownClauses
  Order c =
      Either
      (do
        OneWithin (high c.height) (word_of keyword.Order)
        One (word_of keyword.By)
        first ← Key
        Chain (λ all. do OneWithin (high all.height) (word_of keyword.Then); key ← Key; Empty (ordered all key)) (ordered c first))
      (Empty c)

  -- [offset Expr]
  abbrev pub Offset : GrownClauses → Lang Token GrownClauses
  Offset c = Either (do OneWithin (high c.height) (word_of keyword.Offset); x ← Expr; Empty (offset_by c x)) (Empty c)

  -- [limit Expr]
  abbrev pub Limit : GrownClauses → Lang Token GrownClauses
  Limit c = Either (do OneWithin (high c.height) (word_of keyword.Limit); x ← Expr; Empty (limited c x)) (Empty c)

  -- [filter Expr] [order by Key {then Key}] [offset Expr] [limit Expr]
  abbrev pub Clauses : GrownClauses → Lang Token GrownClauses
  Clauses none = do
    a ← Filter none
    b ← Order a
    c ← Offset b
    Limit c

  -- ---- elements of a shape

  -- required | optional | single | multi, or one of the first two and one of the last two
  abbrev pub Words : Lang Token Qualified
  Words = Either (do first ← One need_of; Either (do second ← One width_of; Empty (both_words first second)) (Empty first)) (One width_of)

  -- what stands behind the name: ':' Shape Clauses, or ':=' Expr, or nothing
  abbrev pub Pointer : Name → Lang Token GrownElement
  Pointer name =
      Either (do One (sign_of sign.Colon); found ← Shape (depth == 0); c ← Clauses (no_clauses found.shape.span.end found.height); Empty (nested name found c))
      (Either (do One (sign_of sign.Assign); x ← Expr; Empty (computed name.span.start no_qualifiers name x))
      (Empty (pointer name)))

  -- Name [':' Shape Clauses] | '@' Name | '*' | '*' '*' | [required | optional] [single | multi] Name ':=' Expr
  abbrev pub Element : Lang Token GrownElement
  Element =
      Either (do at ← One (sign_of sign.Star); Either (do behind ← One (sign_of sign.Star); Empty (double_splat at behind)) (Empty (splat at)))
      (Either (do at ← One (sign_of sign.At); name ← One name_of; Empty (link_property at name))
      (Either (do words ← Words; name ← One name_of; One (sign_of sign.Assign); x ← Expr; Empty (computed words.start words.qualifiers name x))
      (do name ← One name_of; Pointer name)))

  -- ---- statements

  -- Name ':=' Expr
  abbrev pub Alias : Lang Token GrownAlias
  Alias = do
    name ← One name_of
    One (sign_of sign.Assign)
    x ← Expr
    Empty (alias_of name x)

  -- with Alias {',' Alias} [',']
  abbrev pub Aliases : Lang Token With
  Aliases = do
    at ← One (word_of keyword.With)
    Items (λ all. high all.height) comma_of Alias (first_alias at.start) added_alias

  -- for Name in Post union
  abbrev pub For : With → Lang Token Opening
  For before = do
    at ← OneWithin (high before.height) (word_of keyword.For)
    variable ← One name_of
    One (word_of keyword.In)
    iterator ← Post
    OneWithin (high iterator.height) (word_of keyword.Union)
    Empty (opening.For (headed before at variable iterator))

  -- select Expr Clauses
  abbrev pub Select : With → Lang Token Opening
  Select before = do
    at ← OneWithin (high before.height) (word_of keyword.Select)
    subject ← Expr
    c ← Clauses (no_clauses (span_of subject.expr).end subject.height)
    Empty (opening.Select (selected before at subject c))

  -- [with Alias {',' Alias} [',']] (select Expr Clauses | for Name in Post union)
  abbrev pub Opens : Lang Token Opening
  Opens = Either (do before ← Aliases; Either (For before) (Select before)) (Either (For no_aliases) (Select no_aliases))

  -- what stands in the innermost `for`: a statement, which may be a further `for`, or an expression
  abbrev pub Turn : Heads → Lang Token (Step Heads Nest)
  Turn heads = Either (do o ← Opens; Empty (turned heads o)) (do x ← Expr; Empty (Done (nest.For heads (body.Expr x))))

  -- what stands behind the beginning of a statement: nothing behind a whole one, and the inside of a `for`
  abbrev pub Rest : Opening → Lang Token Nest
  Rest (opening.Select s) = Empty (nest.Select s)
  Rest (opening.For head) = Loop Turn (outermost head)

  -- [with Alias {',' Alias} [',']] (select Expr Clauses | for Name in Post union (Stmt | Expr))
  abbrev pub Statement : Lang Token Nest
  Statement = do
    o ← Opens
    Rest o

abbrev pub nothing : Inner
nothing = record { expr = Never; choice = Never; negation = Never; coalesce = Never; unary = Never; statement = Never; element = Never }

abbrev pub levels : ℕ → (ℕ → Bool) → Inner → Inner
levels depth high inner = record {
  expr = Expr depth high inner;
  choice = Choice depth high inner;
  negation = Negation depth high inner;
  coalesce = Coalesce depth high inner;
  unary = Unary depth high inner;
  statement = Statement depth high inner;
  element = Element depth high inner;
}

-- What may stand in a part that passes the limit, where at most so many more are open in it.
unfoldable pub beyond : (ℕ → Bool) → ℕ → Inner
beyond high zero = levels zero high nothing
beyond high (suc spare) = levels zero high (beyond high spare)

-- What is spelled where `depth` more parts may be open, and at most `spare` more in one that passes this limit.
unfoldable pub within : (ℕ → Bool) → ℕ → ℕ → Inner
within high spare zero = levels zero high (beyond high spare)
within high spare (suc depth) = levels (suc depth) high (within high spare depth)

-- Stmt [';']
abbrev pub Query : (ℕ → Bool) → Inner → Lang Token Asked
Query high whole = do
  found ← whole.statement
  Either (do at ← OneWithin (high (statement_of found).height) (sign_of sign.Semicolon); Empty (record { nest = found; end = Some at.end }))
      (Empty (record { nest = found; end = None }))
