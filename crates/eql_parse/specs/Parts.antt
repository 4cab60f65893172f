-- What may stand in an open part, and what is read there.
use Rattle.std.specs.Prelude.{◌≡◌, List, Result, Ok, Err}
use Rattle.exact.specs.declared.rule.ReadError.{ReadError}
use Rattle.exact.specs.declared.rule.ReadError.TheVariants.{Memory, Refused}
use Rattle.exact.specs.Reading.{Reader, Outcome, Got, Stop}
use Rattle.ev_lex.specs.declared.token.Token.{Token}
use Rattle.eql_grammar.specs.declared.grown.GrownExpr.{GrownExpr}
use Rattle.eql_grammar.specs.declared.grown.GrownElement.{GrownElement}
use Rattle.eql_grammar.specs.declared.grown.Nest.{Nest}
use Rattle.eql_grammar.specs.Readers.{Inner}
use Rattle.eql_parse.specs.declared.part.Level.{Level}
use Rattle.eql_parse.specs.declared.part.Level.TheVariants as level
use Rattle.eql_parse.specs.declared.part.Open.{Open}
use Rattle.eql_parse.specs.declared.part.Open.TheVariants as open_
use Rattle.eql_parse.specs.declared.part.Part.{Part}
use Rattle.eql_parse.specs.declared.part.Part.TheVariants as part

-- what is read of an expression of the level
abbrev pub level_of : Level → Inner → Reader Token GrownExpr
level_of level.Expr inner = inner.expr
level_of level.Choice inner = inner.choice
level_of level.Negation inner = inner.negation
level_of level.Coalesce inner = inner.coalesce
level_of level.Unary inner = inner.unary

-- The answer is the outcome for an expression, unless memory fails.
abbrev pub ReadsExpr : Outcome Token GrownExpr → Result Part ReadError → List Token → Type 0
ReadsExpr outcome (Ok (part.Expr x)) new = outcome ≡ Got x new
ReadsExpr outcome (Ok (part.Statement s)) new = ⊥
ReadsExpr outcome (Ok (part.Element x)) new = ⊥
ReadsExpr outcome (Err Memory) new = Unit {0}
ReadsExpr outcome (Err (Refused rule)) new = outcome ≡ Stop rule new

-- The answer is the outcome for a statement, unless memory fails.
abbrev pub ReadsStatement : Outcome Token Nest → Result Part ReadError → List Token → Type 0
ReadsStatement outcome (Ok (part.Expr x)) new = ⊥
ReadsStatement outcome (Ok (part.Statement s)) new = outcome ≡ Got s new
ReadsStatement outcome (Ok (part.Element x)) new = ⊥
ReadsStatement outcome (Err Memory) new = Unit {0}
ReadsStatement outcome (Err (Refused rule)) new = outcome ≡ Stop rule new

-- The answer is the outcome for an element of a shape, unless memory fails.
abbrev pub ReadsElement : Outcome Token GrownElement → Result Part ReadError → List Token → Type 0
ReadsElement outcome (Ok (part.Expr x)) new = ⊥
ReadsElement outcome (Ok (part.Statement s)) new = ⊥
ReadsElement outcome (Ok (part.Element x)) new = outcome ≡ Got x new
ReadsElement outcome (Err Memory) new = Unit {0}
ReadsElement outcome (Err (Refused rule)) new = outcome ≡ Stop rule new

-- What a function that reads a part of this kind ensures.
abbrev pub ReadsPart : Open → Inner → List Token → Result Part ReadError → List Token → Type 0
ReadsPart (open_.Expr l) inner old result new = ReadsExpr (level_of l inner old) result new
ReadsPart open_.Statement inner old result new = ReadsStatement (inner.statement old) result new
ReadsPart open_.Element inner old result new = ReadsElement (inner.element old) result new
