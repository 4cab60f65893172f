-- What is promised of the texts of schemas.
use Rattle.std.specs.Prelude.{◌⊎◌, ℕ, List}
use Rattle.ev_lex.specs.declared.token.Token.{Token}
use Rattle.sdl_ast.specs.declared.declaration.SdlFile.{SdlFile}
use Rattle.eql_grammar.specs.declared.limits.TheConstants.{MAX_OPEN}
use Rattle.eql_grammar.specs.Trees.{too_high}
use Rattle.eql_grammar.specs.Grammar as queries
use Rattle.sdl_grammar.specs.Grammar as g
use Rattle.exact.specs.Language.{Lang}
use Rattle.exact.specs.Promise.{Any, Spells, IsRefused}
use Rattle.exact.specs.declared.rule.Rule.{Rule}

-- The tokens spell the schema, and the limits are kept at the first n tokens: in each expression inside at most `MAX_OPEN` parts
-- are open, and what stands before one of these tokens is not too high. Parts and heights count from where an expression begins.
abbrev pub SchemaText : Lang Token SdlFile
SchemaText = Any (λ spare. g.File too_high (queries.within too_high spare MAX_OPEN).expr)

-- The tokens spell the schema, and all limits are kept.
abbrev pub IsSchema : List Token → SdlFile → Type 0
IsSchema ts file = Spells SchemaText ts file

-- The tokens spell a schema, or are refused at one of them or at the end.
abbrev pub IsRead : List Token → Type 0
IsRead ts = ((file : SdlFile) × IsSchema ts file) ⊎ ((rule : Rule) × (token : ℕ) × IsRefused SchemaText ts rule token)
