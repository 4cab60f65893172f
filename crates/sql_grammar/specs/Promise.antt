-- What is promised of the text of a statement.
use Rattle.std.specs.Prelude.{Bool, List}
use Rattle.sql_lex.specs.declared.token.Token.{Token}
use Rattle.sql_grammar.specs.declared.grown.GrownSelect.{GrownSelect}
use Rattle.sql_grammar.specs.declared.limits.TheConstants.{MAX_OPEN}
use Rattle.sql_grammar.specs.Trees.{too_high}
use Rattle.sql_grammar.specs.Grammar as g
use Rattle.exact.specs.Language.{Lang}
use Rattle.exact.specs.Promise.{Any, Ended, Spells}

abbrev pub is_tall : GrownSelect → Bool
is_tall s = too_high s.height

-- The tokens spell the select, and the limits are kept at the first n tokens: at most `MAX_OPEN` parts are open, and the left
-- operand of an operator is not too high. The end counts as a token, and no select before it is too high.
abbrev pub StatementText : Lang Token GrownSelect
StatementText = Any (λ spare. Ended is_tall (g.Statement (g.within too_high spare MAX_OPEN)))

-- The tokens spell the statement with these places, and all limits are kept.
abbrev pub IsStatement : List Token → GrownSelect → Type 0
IsStatement ts s = Spells StatementText ts s
