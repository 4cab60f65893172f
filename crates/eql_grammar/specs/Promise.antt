-- What is promised of the texts of queries and of expressions.
use Rattle.std.specs.Prelude.{◌≡◌, ◌⊎◌, ℕ, Bool, false, List}
use Rattle.ev_lex.specs.declared.token.Token.{Token}
use Rattle.ast.specs.declared.expression.Expr.{Expr}
use Rattle.ast.specs.declared.statement.Query.{Query}
use Rattle.eql_grammar.specs.declared.grown.GrownExpr.{GrownExpr}
use Rattle.eql_grammar.specs.declared.grown.Asked.{Asked}
use Rattle.eql_grammar.specs.declared.limits.TheConstants.{MAX_OPEN}
use Rattle.eql_grammar.specs.Trees.{too_high, statement_of, query_of}
use Rattle.eql_grammar.specs.Grammar as g
use Rattle.exact.specs.Language.{Lang}
use Rattle.exact.specs.Promise.{Any, Ended, Spells, IsPrefix, IsRefused}
use Rattle.exact.specs.declared.rule.Rule.{Rule}

-- whether the statement of a query is too high
abbrev pub is_tall : Asked → Bool
is_tall asked = too_high (statement_of asked.nest).height

-- The tokens spell the query, and the limits are kept at the first n tokens: at most `MAX_OPEN` parts are open, and what stands
-- before one of them is not too high. The end counts as a token.
abbrev pub QueryText : Lang Token Asked
QueryText = Any (λ spare. Ended is_tall (g.Query too_high (g.within too_high spare MAX_OPEN)))

-- The same of an expression. What stands behind it is no part of the text.
abbrev pub ExprText : Lang Token GrownExpr
ExprText = Any (λ spare. (g.within too_high spare MAX_OPEN).expr)

-- The tokens spell the query, and all limits are kept.
abbrev pub IsQuery : List Token → Query → Type 0
IsQuery ts query = (asked : Asked) × Spells QueryText ts asked × (query ≡ query_of asked)

-- The tokens spell a query, or are refused at one of them or at the end.
abbrev pub IsRead : List Token → Type 0
IsRead ts = ((query : Query) × IsQuery ts query) ⊎ ((rule : Rule) × (token : ℕ) × IsRefused QueryText ts rule token)

-- The first k tokens spell the expression, all limits are kept at them and behind them, and no expression agrees with one more token.
abbrev pub IsExprUpTo : List Token → Expr → ℕ → Type 0
IsExprUpTo ts x k = (grown : GrownExpr) × IsPrefix ExprText ts grown k × (too_high grown.height ≡ false) × (x ≡ grown.expr)
