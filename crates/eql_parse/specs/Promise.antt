-- What is promised of the answers of `parse_query` and `parse_expr`.
use Rattle.std.specs.Prelude.{◌≡◌, ℕ, true, List, Result, Err, ◌⊎◌}
use Rattle.exact.specs.declared.rule.Rule.{Rule}
use Rattle.exact.specs.declared.rule.Rule.TheVariants.{Unexpected, TooDeep}
use Rattle.exact.specs.Promise.{IsRefused, IsPrefix}
use Rattle.ev_lex.specs.declared.token.Token.{Token}
use Rattle.eql_grammar.specs.declared.grown.GrownExpr.{GrownExpr}
use Rattle.eql_grammar.specs.Trees.{too_high}
use Rattle.eql_grammar.specs.Promise.{ExprText}
use Rattle.eql_parse.specs.declared.refusal.SyntaxRefusal.{SyntaxRefusal}
use Rattle.eql_parse.specs.declared.refusal.SyntaxRefusal.TheVariants as variant

-- the refusal of a token by a rule
abbrev pub refusal : Rule → ℕ → SyntaxRefusal
refusal Unexpected token = variant.S2 token
refusal TooDeep token = variant.S3 token

-- This is the answer, unless memory ran out.
abbrev pub Answers : {A : Type 0} → Result A SyntaxRefusal → Result A SyntaxRefusal → Type 0
Answers result wanted = (result ≡ wanted) ⊎ (result ≡ Err variant.Memory)

-- The first k tokens spell an expression that is too high, and no expression agrees with one more token: the token behind them is too deep.
abbrev pub IsTallUpTo : List Token → Rule → ℕ → Type 0
IsTallUpTo ts rule k = (rule ≡ TooDeep) × ((grown : GrownExpr) × IsPrefix ExprText ts grown k × (too_high grown.height ≡ true))

-- No expression stands in front within the limits: the token is the first that is dead, or that passes a limit.
abbrev pub IsExprRefused : List Token → Rule → ℕ → Type 0
IsExprRefused ts rule k = IsRefused ExprText ts rule k ⊎ IsTallUpTo ts rule k
