-- What is built of what was read, where it stands in the text, and how high it is.
use Rattle.std.specs.Prelude.{ℕ, suc, Bool, false, max, ltb, List, [], ◌∷◌, ◌++◌, Option, Some, None, if◌then◌else◌}
use Rattle.ast.specs.Expression.{joined, span_of, binary, postfix, shaped, if_else}
use Rattle.ast.specs.declared.name.Span.{Span}
use Rattle.ast.specs.declared.name.Name.{Name}
use Rattle.ast.specs.declared.name.QualifiedName.{QualifiedName}
use Rattle.ast.specs.declared.expression.Expr.{Expr}
use Rattle.ast.specs.declared.expression.Expr as e
use Rattle.ast.specs.declared.expression.Postfix.{Postfix}
use Rattle.ast.specs.declared.expression.Step.TheVariants as step
use Rattle.ast.specs.declared.shape.Element as element
use Rattle.ast.specs.declared.shape.Qualifiers.{Qualifiers}
use Rattle.ast.specs.declared.statement.Statement as statement
use Rattle.ast.specs.declared.statement.ForBody.{ForBody}
use Rattle.ast.specs.declared.statement.ForBody as for_body
use Rattle.ast.specs.declared.statement.Key as key
use Rattle.ast.specs.declared.statement.EmptyPlace.{EmptyPlace}
use Rattle.ast.specs.declared.statement.Query.{Query}
use Rattle.eql_grammar.specs.declared.limits.TheConstants.{MAX_HEIGHT}
use Rattle.eql_grammar.specs.declared.grown.Infix.{Infix}
use Rattle.eql_grammar.specs.declared.grown.Prefix.{Prefix}
use Rattle.eql_grammar.specs.declared.grown.Qualified.{Qualified}
use Rattle.eql_grammar.specs.declared.grown.Direction.{Direction}
use Rattle.eql_grammar.specs.declared.grown.GrownExpr.{GrownExpr}
use Rattle.eql_grammar.specs.declared.grown.Bunch.{Bunch}
use Rattle.eql_grammar.specs.declared.grown.GrownShape.{GrownShape}
use Rattle.eql_grammar.specs.declared.grown.GrownElement.{GrownElement}
use Rattle.eql_grammar.specs.declared.grown.Elements.{Elements}
use Rattle.eql_grammar.specs.declared.grown.GrownKey.{GrownKey}
use Rattle.eql_grammar.specs.declared.grown.GrownClauses.{GrownClauses}
use Rattle.eql_grammar.specs.declared.grown.GrownStatement.{GrownStatement}
use Rattle.eql_grammar.specs.declared.grown.GrownAlias.{GrownAlias}
use Rattle.eql_grammar.specs.declared.grown.With.{With}
use Rattle.eql_grammar.specs.declared.grown.Head.{Head}
use Rattle.eql_grammar.specs.declared.grown.Heads.{Heads}
use Rattle.eql_grammar.specs.declared.grown.Body.{Body}
use Rattle.eql_grammar.specs.declared.grown.Body.TheVariants as body
use Rattle.eql_grammar.specs.declared.grown.Nest.{Nest}
use Rattle.eql_grammar.specs.declared.grown.Nest.TheVariants as nest
use Rattle.eql_grammar.specs.declared.grown.Asked.{Asked}

-- ---- heights

-- Whether a tree of this height is too high.
abbrev pub too_high : ℕ → Bool
too_high height = ltb MAX_HEIGHT height

-- No height is too high.
abbrev pub unlimited : ℕ → Bool
unlimited height = false

-- One more, as long as it counts.
abbrev pub above : ℕ → ℕ
above height = if ltb MAX_HEIGHT height then height else suc height

-- ---- atoms

abbrev pub leaf : Expr → GrownExpr
leaf x = record { expr = x; height = 1 }

-- the bytes of a name with its module
abbrev pub qualified_start : Option Name → Span → Span
qualified_start None s = s
qualified_start (Some m) s = joined m.span s

abbrev pub qualified_span : QualifiedName → Span
qualified_span q = qualified_start q.«module» q.name.span

abbrev pub bare_name : Name → QualifiedName
bare_name name = record { «module» = None; name = name }

abbrev pub in_module : Name → Name → QualifiedName
in_module m name = record { «module» = Some m; name = name }

abbrev pub named : QualifiedName → GrownExpr
named q = leaf (e.Name (qualified_span q) q)

abbrev pub partial_step : Span → Name → GrownExpr
partial_step at name = leaf (e.PartialStep (joined at name.span) name)

abbrev pub partial_back_link : Span → Name → GrownExpr
partial_back_link at name = leaf (e.PartialBackLink (joined at name.span) name)

abbrev pub partial_property : Span → Name → GrownExpr
partial_property at name = leaf (e.PartialProperty (joined at name.span) name)

abbrev pub global_named : Span → Name → GrownExpr
global_named at name = leaf (e.Global (joined at name.span) name)

-- ---- expressions with commas between them, and brackets round them

abbrev pub nothing_yet : Bunch
nothing_yet = record { items = []; height = 0 }

abbrev pub alone : GrownExpr → Bunch
alone x = record { items = x.expr ∷ []; height = x.height }

abbrev pub added : Bunch → GrownExpr → Bunch
added all x = record { items = all.items ++ x.expr ∷ []; height = max all.height x.height }

abbrev pub call : QualifiedName → Bunch → Span → GrownExpr
call q all close = record { expr = e.Call (joined (qualified_span q) close) q all.items; height = above all.height }

abbrev pub tuple : Span → Bunch → Span → GrownExpr
tuple bracket all close = record { expr = e.Tuple (joined bracket close) all.items; height = above all.height }

abbrev pub set : Span → Bunch → Span → GrownExpr
set bracket all close = record { expr = e.Set (joined bracket close) all.items; height = above all.height }

-- Parentheses are no node.
abbrev pub grouped : Span → GrownExpr → Span → GrownExpr
grouped bracket x close = record { expr = e.Group (joined bracket close) x.expr; height = x.height }

-- ---- operators

abbrev pub operated : Infix → GrownExpr → GrownExpr → GrownExpr
operated found left right = record { expr = binary found.operator found.place left.expr right.expr; height = above (max left.height right.height) }

abbrev pub prefixed : Prefix → GrownExpr → GrownExpr
prefixed found x = record { expr = e.Unary (joined found.place (span_of x.expr)) found.operator x.expr; height = above x.height }

abbrev pub cast : Span → QualifiedName → GrownExpr → GrownExpr
cast bracket ty x = record { expr = e.Cast (joined bracket (span_of x.expr)) ty x.expr; height = above x.height }

-- A parameter is a node below its cast.
abbrev pub parameter : Span → Bool → QualifiedName → Span → Name → GrownExpr
parameter bracket optional ty dollar name = record {
  expr = e.Parameter (joined bracket name.span) (record { optional = optional; ty = ty; span = joined dollar name.span; name = name.text });
  height = 2;
}

abbrev pub chosen : GrownExpr → GrownExpr → GrownExpr → GrownExpr
chosen value condition other = record { expr = if_else value.expr condition.expr other.expr; height = above (max value.height (max condition.height other.height)) }

abbrev pub chosen_then : ℕ → GrownExpr → GrownExpr → GrownExpr → GrownExpr
chosen_then start condition value other = record {
  expr = e.IfThen (joined (record { start = start; end = start }) (span_of other.expr)) (record { condition = condition.expr; value = value.expr; other = other.expr });
  height = above (max condition.height (max value.height other.height));
}

-- ---- postfixes

abbrev pub dot : Span → Name → Postfix
dot at name = record { span = joined at name.span; step = step.Dot name }

abbrev pub back_link : Span → Name → Postfix
back_link at name = record { span = joined at name.span; step = step.BackLink name }

abbrev pub property : Span → Name → Postfix
property at name = record { span = joined at name.span; step = step.Property name }

abbrev pub is_type : Span → QualifiedName → Span → Postfix
is_type bracket ty close = record { span = joined bracket close; step = step.Is ty }

abbrev pub stepped : GrownExpr → Postfix → GrownExpr
stepped base found = record { expr = postfix base.expr found; height = above base.height }

abbrev pub with_shape : GrownExpr → GrownShape → GrownExpr
with_shape base found = record { expr = shaped base.expr found.shape; height = above (max base.height found.height) }

-- ---- clauses

abbrev pub no_clauses : ℕ → ℕ → GrownClauses
no_clauses end height = record { clauses = record { filter = None; order = []; offset = None; limit = None }; end = end; height = height }

abbrev pub filtered : GrownClauses → GrownExpr → GrownClauses
filtered c x = record {
  clauses = record { filter = Some x.expr; order = c.clauses.order; offset = c.clauses.offset; limit = c.clauses.limit };
  end = (span_of x.expr).end;
  height = max c.height x.height;
}

abbrev pub ordered : GrownClauses → GrownKey → GrownClauses
ordered c k = record {
  clauses = record { filter = c.clauses.filter; order = c.clauses.order ++ k.key ∷ []; offset = c.clauses.offset; limit = c.clauses.limit };
  end = k.end;
  height = max c.height k.height;
}

abbrev pub offset_by : GrownClauses → GrownExpr → GrownClauses
offset_by c x = record {
  clauses = record { filter = c.clauses.filter; order = c.clauses.order; offset = Some x.expr; limit = c.clauses.limit };
  end = (span_of x.expr).end;
  height = max c.height x.height;
}

abbrev pub limited : GrownClauses → GrownExpr → GrownClauses
limited c x = record {
  clauses = record { filter = c.clauses.filter; order = c.clauses.order; offset = c.clauses.offset; limit = Some x.expr };
  end = (span_of x.expr).end;
  height = max c.height x.height;
}

-- A key goes up where nothing is said.
abbrev pub upward : GrownExpr → Direction
upward x = record { descending = false; end = (span_of x.expr).end }

abbrev pub keyed : GrownExpr → Direction → Option EmptyPlace → ℕ → GrownKey
keyed x way place end = record { key = if way.descending then key.Descending x.expr place else key.Ascending x.expr place; end = end; height = x.height }

-- ---- shapes

abbrev pub shape : Span → Elements → Span → GrownShape
shape bracket all close = record { shape = record { span = joined bracket close; elements = all.items }; height = above all.height }

abbrev pub first_element : GrownElement → Elements
first_element x = record { items = x.element ∷ []; height = x.height }

abbrev pub added_element : Elements → GrownElement → Elements
added_element all x = record { items = all.items ++ x.element ∷ []; height = max all.height x.height }

abbrev pub pointer : Name → GrownElement
pointer name = record { element = element.Pointer name.span name; height = 0 }

abbrev pub link_property : Span → Name → GrownElement
link_property at name = record { element = element.Property (joined at name.span) name; height = 0 }

abbrev pub splat : Span → GrownElement
splat at = record { element = element.Splat at; height = 0 }

abbrev pub double_splat : Span → Span → GrownElement
double_splat at behind = record { element = element.DoubleSplat (joined at behind); height = 0 }

abbrev pub nested : Name → GrownShape → GrownClauses → GrownElement
nested name found c = record {
  element = element.Nested (record { start = name.span.start; end = c.end }) name (record { shape = found.shape; clauses = c.clauses });
  height = c.height;
}

abbrev pub no_qualifiers : Qualifiers
no_qualifiers = record { need = None; width = None }

-- `required` or `optional`, and then `single` or `multi`
abbrev pub both_words : Qualified → Qualified → Qualified
both_words first second = record { start = first.start; qualifiers = record { need = first.qualifiers.need; width = second.qualifiers.width } }

abbrev pub computed : ℕ → Qualifiers → Name → GrownExpr → GrownElement
computed start words name x = record {
  element = element.Computed (record { start = start; end = (span_of x.expr).end }) words name x.expr;
  height = x.height;
}

-- ---- statements

abbrev pub alias_of : Name → GrownExpr → GrownAlias
alias_of name x = record { alias = record { span = joined name.span (span_of x.expr); name = name; value = x.expr }; height = x.height }

abbrev pub no_aliases : With
no_aliases = record { start = None; aliases = []; height = 0 }

abbrev pub first_alias : ℕ → GrownAlias → With
first_alias start x = record { start = Some start; aliases = x.alias ∷ []; height = x.height }

abbrev pub added_alias : With → GrownAlias → With
added_alias all x = record { start = all.start; aliases = all.aliases ++ x.alias ∷ []; height = max all.height x.height }

-- A statement begins at its `with`, or else at its own first word.
abbrev pub start_of : Option ℕ → Span → ℕ
start_of None at = at.start
start_of (Some start) at = start

abbrev pub headed : With → Span → Name → GrownExpr → Head
headed before at variable iterator = record {
  start = start_of before.start at;
  aliases = before.aliases;
  variable = variable;
  iterator = iterator.expr;
  height = max before.height iterator.height;
}

abbrev pub selected : With → Span → GrownExpr → GrownClauses → GrownStatement
selected before at subject c = record {
  statement = statement.Select (record { start = start_of before.start at; end = c.end }) before.aliases (record { subject = subject.expr; clauses = c.clauses });
  span = record { start = start_of before.start at; end = c.end };
  height = above (max before.height c.height);
}

abbrev pub body_of : Body → ForBody
body_of (body.Statement s) = for_body.Statement s.statement
body_of (body.Expr x) = for_body.Expr x.expr

abbrev pub body_end : Body → ℕ
body_end (body.Statement s) = s.span.end
body_end (body.Expr x) = (span_of x.expr).end

abbrev pub body_height : Body → ℕ
body_height (body.Statement s) = s.height
body_height (body.Expr x) = x.height

-- a `for` round its body
abbrev pub round : Head → Body → GrownStatement
round head inside = record {
  statement = statement.For (record { start = head.start; end = body_end inside }) head.aliases (record { variable = head.variable; iterator = head.iterator; body = body_of inside });
  span = record { start = head.start; end = body_end inside };
  height = above (max head.height (body_height inside));
}

-- so many `for`s round a body, the last of them innermost
unfoldable pub all_round : List Head → Body → Body
all_round [] inside = inside
all_round (head ∷ more) inside = body.Statement (round head (all_round more inside))

abbrev pub outermost : Head → Heads
outermost head = record { outermost = head; inner = [] }

abbrev pub within_head : Heads → Head → Heads
within_head heads head = record { outermost = heads.outermost; inner = heads.inner ++ head ∷ [] }

-- the tree of a statement as it was read
abbrev pub statement_of : Nest → GrownStatement
statement_of (nest.Select s) = s
statement_of (nest.For heads inside) = round heads.outermost (all_round heads.inner inside)

abbrev pub stated : Span → GrownStatement → Span → GrownExpr
stated bracket s close = record { expr = e.Statement (joined bracket close) s.statement; height = s.height }

abbrev pub query_end : Option ℕ → ℕ → ℕ
query_end None end = end
query_end (Some behind) end = behind

-- the query that was read
abbrev pub query_of : Asked → Query
query_of asked = record {
  span = record { start = (statement_of asked.nest).span.start; end = query_end asked.end (statement_of asked.nest).span.end };
  statement = (statement_of asked.nest).statement;
}
