-- The front of the tokens.
use Rattle.std.specs.Prelude.{◌≡◌, Bool, ◌||◌, List, [], ◌∷◌, Option}
use Rattle.exact.specs.declared.rule.Rule.TheVariants.{Unexpected}
use Rattle.exact.specs.Reading.{Reader, Stop, taken, has}
use Rattle.ev_lex.specs.declared.token.Token.{Token}
use Rattle.eql_grammar.specs.declared.class.Class.{Class}
use Rattle.ev_lex.specs.declared.token.Sign.TheVariants as sign
use Rattle.ev_lex.specs.declared.keyword.Keyword.TheVariants as keyword
use Rattle.eql_grammar.specs.Words.{class_of, is_sign, is_word, infix_of, need_of, width_of}

-- The class is that of the next token. At the end it says nothing.
abbrev pub IsAhead : List Token → Class → Type 0
IsAhead [] class = Unit {0}
IsAhead (t ∷ ts) class = class ≡ class_of t

-- What becomes of the next token, where this is what it stands for.
abbrev pub taken_as : {A : Type 0} → Bool → Option A → Reader Token A
taken_as over found [] = Stop Unexpected []
taken_as over found (t ∷ ts) = taken over found t ts

-- whether the token begins a postfix
abbrev pub is_postfix : Token → Bool
is_postfix token = is_sign sign.Dot token || (is_sign sign.BackLink token || (is_sign sign.At token || (is_sign sign.LeftBracket token || is_sign sign.LeftBrace token)))

-- whether the token begins a comparison behind its left side
abbrev pub compares : Token → Bool
compares token = has (infix_of 6) token || is_word keyword.Not token

-- whether the token is a word that may stand before a computed element
abbrev pub is_qualifier : Token → Bool
is_qualifier token = has need_of token || has width_of token
