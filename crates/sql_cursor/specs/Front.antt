-- The front of the tokens.
use Rattle.std.specs.Prelude.{Bool, [], ◌∷◌, Option}
use Rattle.exact.specs.declared.rule.Rule.TheVariants.{Unexpected}
use Rattle.exact.specs.Reading.{Reader, Stop, taken}
use Rattle.sql_lex.specs.declared.token.Token.{Token}

-- What becomes of the next token, where this is what it stands for.
abbrev pub taken_as : {A : Type 0} → Bool → Option A → Reader Token A
taken_as over found [] = Stop Unexpected []
taken_as over found (t ∷ ts) = taken over found t ts
