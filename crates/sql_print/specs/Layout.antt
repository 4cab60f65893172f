-- How tokens are written: keywords in capitals, and one space between tokens where needed.
use Rattle.std.specs.Prelude.{ℕ, Bool, true, false, ◌||◌, List, [], ◌∷◌, ◌++◌, if◌then◌else◌}
use Rattle.std.specs.Fmt.{signed_decimal}
use Rattle.sql_lex.specs.declared.token.Sign.TheVariants as sign
use Rattle.sql_lex.specs.declared.token.TokenKind.{TokenKind}
use Rattle.sql_lex.specs.declared.token.TokenKind.TheVariants.{Word, Name, Int, Str, Sign}
use Rattle.sql_lex.specs.Keyword.{keyword_text}
use Rattle.sql_lex.specs.Sign.{sign_text}
use Rattle.sql_lex.specs.Token.{doubled}

abbrev pub token_text : TokenKind → List ℕ
token_text (Word k) = keyword_text k
token_text (Name name) = 34 ∷ name ++ 34 ∷ []
token_text (Int z) = signed_decimal z
token_text (Str text) = 39 ∷ doubled text ++ 39 ∷ []
token_text (Sign s) = sign_text s

-- no space stands behind an opening parenthesis, a dot or `::`
abbrev pub clings_before : TokenKind → Bool
clings_before (Sign sign.LeftParen) = true
clings_before (Sign sign.Dot) = true
clings_before (Sign sign.Cast) = true
clings_before _ = false

-- and none before a closing parenthesis, a comma, a dot or `::`
abbrev pub clings_behind : TokenKind → Bool
clings_behind (Sign sign.RightParen) = true
clings_behind (Sign sign.Comma) = true
clings_behind (Sign sign.Dot) = true
clings_behind (Sign sign.Cast) = true
clings_behind _ = false

-- what stands before a token; none where the token before it asks for that
abbrev pub gap : Bool → TokenKind → List ℕ
gap clings k = if clings || clings_behind k then [] else 32 ∷ []

-- the text of tokens behind another
abbrev pub text_behind : Bool → List TokenKind → List ℕ
text_behind clings [] = []
text_behind clings (k ∷ more) = gap clings k ++ (token_text k ++ text_behind (clings_before k) more)

-- the text of tokens
abbrev pub text_of : List TokenKind → List ℕ
text_of kinds = text_behind true kinds
