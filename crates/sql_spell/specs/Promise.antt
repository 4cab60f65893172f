-- What is promised of the tokens of a statement.
use Rattle.std.specs.Prelude.{◌≡◌, List, map}
use Rattle.sql_lex.specs.declared.token.Token.{Token}
use Rattle.sql_lex.specs.declared.token.TokenKind.{TokenKind}
use Rattle.sql_ast.specs.declared.select.Stmt.{Stmt}
use Rattle.sql_grammar.specs.declared.grown.GrownSelect.{GrownSelect}
use Rattle.sql_grammar.specs.Promise.{IsStatement}

-- what each token is, wherever it stands
abbrev pub kinds : List Token → List TokenKind
kinds ts = map (λ t. t.kind) ts

-- The tokens spell the statement within the limits, with some places.
abbrev pub SpellTheStatement : List Token → Stmt → Type 0
SpellTheStatement ts s = (x : GrownSelect) × IsStatement ts x × (x.select ≡ s.select)
