-- What is promised of what is printed.
use Rattle.std.specs.Prelude.{◌≡◌, ℕ, pos, ◌≤◌, List, [], ◌∷◌, map}
use Rattle.std.specs.Str.{IsUtf8}
use Rattle.sql_lex.specs.declared.token.Token.{Token}
use Rattle.sql_lex.specs.declared.token.TokenKind.{TokenKind}
use Rattle.sql_lex.specs.declared.token.TokenKind.TheVariants.{Word, Name, Int, Str, Sign}
use Rattle.sql_lex.specs.Reading.{IsCut}
use Rattle.sql_lex.specs.Token.{IsName}
use Rattle.sql_print.specs.Layout.{text_of}

-- A token that a text can hold: a name that can stand between quotes, a number that is not negative, a text in UTF-8.
abbrev pub IsWritable : TokenKind → Type 0
IsWritable (Word k) = Unit {0}
IsWritable (Name name) = IsName name
IsWritable (Int z) = (n : ℕ) × (z ≡ pos n) × (n ≤ 9223372036854775807)
IsWritable (Str text) = IsUtf8 text
IsWritable (Sign s) = Unit {0}

abbrev pub AreWritable : List TokenKind → Type 0
AreWritable [] = Unit {0}
AreWritable (k ∷ more) = IsWritable k × AreWritable more

-- The text of the tokens is cut into these tokens again.
abbrev pub IsReadBack : List TokenKind → Type 0
IsReadBack kinds = (ts : List Token) × IsCut (text_of kinds) ts × (map (λ t. t.kind) ts ≡ kinds)
