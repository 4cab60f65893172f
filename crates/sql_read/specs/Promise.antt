-- What is promised of the reading of a text.
use Rattle.std.specs.Prelude.{ℕ, List}
use Rattle.sql_lex.specs.Reading.{IsCut}
use Rattle.sql_lex.specs.declared.token.Token.{Token}
use Rattle.sql_grammar.specs.declared.grown.GrownSelect.{GrownSelect}
use Rattle.sql_grammar.specs.Promise.{IsStatement}

-- The text has tokens, and these spell the statement, with at most 800 nodes above each other and at most 1,600 open parts.
abbrev pub IsTextOf : List ℕ → GrownSelect → Type 0
IsTextOf text s = (ts : List Token) × IsCut text ts × IsStatement ts s
