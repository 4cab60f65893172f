-- What may stand in an open part, and what is read there.
use Rattle.std.specs.Prelude.{◌≡◌, List, Result, Ok, Err}
use Rattle.exact.specs.declared.rule.ReadError.{ReadError}
use Rattle.exact.specs.declared.rule.ReadError.TheVariants.{Memory, Refused}
use Rattle.exact.specs.Reading.{Reader, Outcome, Got, Stop}
use Rattle.sql_lex.specs.declared.token.Token.{Token}
use Rattle.sql_grammar.specs.declared.grown.Grown.{Grown}
use Rattle.sql_grammar.specs.declared.grown.GrownSelect.{GrownSelect}
use Rattle.sql_grammar.specs.declared.grown.GrownTy.{GrownTy}
use Rattle.sql_grammar.specs.Readers.{Inner}
use Rattle.sql_read.specs.declared.part.Level.{Level}
use Rattle.sql_read.specs.declared.part.Level.TheVariants as level
use Rattle.sql_read.specs.declared.part.Open.{Open}
use Rattle.sql_read.specs.declared.part.Open.TheVariants as open_
use Rattle.sql_read.specs.declared.part.Part.{Part}
use Rattle.sql_read.specs.declared.part.Part.TheVariants as part

-- what is read of an expression of the level
abbrev pub level_of : Level → Inner → Reader Token Grown
level_of level.Expr inner = inner.expr
level_of level.Negation inner = inner.negation
level_of level.Unary inner = inner.unary

-- The answer is the outcome for an expression, unless memory fails.
abbrev pub ReadsExpr : Outcome Token Grown → Result Part ReadError → List Token → Type 0
ReadsExpr outcome (Ok (part.Expr x)) new = outcome ≡ Got x new
ReadsExpr outcome (Ok (part.Select x)) new = ⊥
ReadsExpr outcome (Ok (part.Ty x)) new = ⊥
ReadsExpr outcome (Err Memory) new = Unit {0}
ReadsExpr outcome (Err (Refused rule)) new = outcome ≡ Stop rule new

-- The answer is the outcome for a select, unless memory fails.
abbrev pub ReadsSelect : Outcome Token GrownSelect → Result Part ReadError → List Token → Type 0
ReadsSelect outcome (Ok (part.Expr x)) new = ⊥
ReadsSelect outcome (Ok (part.Select x)) new = outcome ≡ Got x new
ReadsSelect outcome (Ok (part.Ty x)) new = ⊥
ReadsSelect outcome (Err Memory) new = Unit {0}
ReadsSelect outcome (Err (Refused rule)) new = outcome ≡ Stop rule new

-- The answer is the outcome for a type, unless memory fails.
abbrev pub ReadsTy : Outcome Token GrownTy → Result Part ReadError → List Token → Type 0
ReadsTy outcome (Ok (part.Expr x)) new = ⊥
ReadsTy outcome (Ok (part.Select x)) new = ⊥
ReadsTy outcome (Ok (part.Ty x)) new = outcome ≡ Got x new
ReadsTy outcome (Err Memory) new = Unit {0}
ReadsTy outcome (Err (Refused rule)) new = outcome ≡ Stop rule new

-- What a function that reads a part of this kind ensures.
abbrev pub ReadsPart : Open → Inner → List Token → Result Part ReadError → List Token → Type 0
ReadsPart (open_.Expr l) inner old result new = ReadsExpr (level_of l inner old) result new
ReadsPart open_.Select inner old result new = ReadsSelect (inner.select old) result new
ReadsPart open_.Ty inner old result new = ReadsTy (inner.ty old) result new
