-- Which bytes spell a token.
use Rattle.std.specs.Prelude.{◌≡◌, ◌≢◌, ◌==◌, ℕ, ◌≤◌, pos, true, false, List, [], ◌∷◌, ◌++◌, if◌then◌else◌}
use Rattle.std.specs.List.{list_all}
use Rattle.std.specs.Char.{is_ascii_digit}
use Rattle.std.specs.Str.{IsUtf8}
use Rattle.std.specs.Str.Parse.{digits_value}
use Rattle.sql_lex.specs.declared.token.TokenKind.{TokenKind}
use Rattle.sql_lex.specs.declared.token.TokenKind.TheVariants as kind
use Rattle.sql_lex.specs.Byte.{begins_word, continues_word, is_quote, is_in_name, goes_on}
use Rattle.sql_lex.specs.Keyword.{IsWordOf}
use Rattle.sql_lex.specs.Sign.{sign_text, lengthens}

-- a letter or `_`, and then letters, digits and `_`
abbrev pub IsWord : List ℕ → Type 0
IsWord [] = ⊥
IsWord (b ∷ more) = (begins_word b ≡ true) × (list_all continues_word more ≡ true)

-- some decimal digits, and no others
abbrev pub IsDigits : List ℕ → Type 0
IsDigits [] = ⊥
IsDigits (b ∷ more) = list_all is_ascii_digit (b ∷ more) ≡ true

-- Something in UTF-8 without `"`.
abbrev pub IsName : List ℕ → Type 0
IsName name = (name ≢ []) × (list_all is_in_name name ≡ true) × IsUtf8 name

-- the text with each of its quotes twice
abbrev pub doubled : List ℕ → List ℕ
doubled [] = []
doubled (b ∷ more) = if b == 39 then 39 ∷ 39 ∷ doubled more else b ∷ doubled more

-- The bytes spell a token of this kind, where `follow` stands behind them. The longest token is taken: so no byte follows with which it would go on.
abbrev pub Spells : List ℕ → List ℕ → TokenKind → Type 0
Spells bytes follow (kind.Word k) = IsWord bytes × IsWordOf k bytes × (goes_on continues_word follow ≡ false)
Spells bytes follow (kind.Name name) = (bytes ≡ 34 ∷ name ++ 34 ∷ []) × IsName name
Spells bytes follow (kind.Int n) = IsDigits bytes × (n ≡ pos (digits_value 10 bytes)) × (digits_value 10 bytes ≤ 9223372036854775807) × (goes_on continues_word follow ≡ false)
Spells bytes follow (kind.Str text) = (bytes ≡ 39 ∷ doubled text ++ 39 ∷ []) × IsUtf8 text × (goes_on is_quote follow ≡ false)
Spells bytes follow (kind.Sign s) = (bytes ≡ sign_text s) × (goes_on (lengthens s) follow ≡ false)

-- no token begins the bytes
abbrev pub BeginsNoToken : List ℕ → Type 0
BeginsNoToken bytes = (front rest : List ℕ) (kind : TokenKind) → bytes ≡ front ++ rest → Spells front rest kind → ⊥
