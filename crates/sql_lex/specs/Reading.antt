-- How a text is cut into tokens, from its first byte on.
use Rattle.std.specs.Prelude.{◌≡◌, ℕ, ◌+◌, true, List, [], ◌∷◌, ◌++◌, length}
use Rattle.sql_lex.specs.declared.token.Token.{Token}
use Rattle.sql_lex.specs.declared.token.TokenKind.{TokenKind}
use Rattle.sql_lex.specs.Byte.{is_blank}
use Rattle.sql_lex.specs.Token.{Spells}

-- a token with its first byte
abbrev pub token_at : TokenKind → ℕ → Token
token_at kind start = record { kind = kind; start = start }

-- Read from a place on, the bytes give these tokens up to another place, where `left` is left of them: blanks are read over.
pub data Reads : ℕ → List ℕ → List Token → ℕ → List ℕ → Type 0 where
  Here : {place : ℕ} {bytes : List ℕ} → Reads place bytes [] place bytes
  Over : {place to : ℕ} {bytes left : List ℕ} {tokens : List Token} (b : ℕ) (rest : List ℕ) → bytes ≡ b ∷ rest → is_blank b ≡ true
      → Reads (place + 1) rest tokens to left → Reads place bytes tokens to left
  Take : {place to : ℕ} {bytes left : List ℕ} {tokens : List Token} (front rest : List ℕ) (kind : TokenKind) → bytes ≡ front ++ rest → Spells front rest kind
      → Reads (place + length front) rest tokens to left → Reads place bytes (token_at kind place ∷ tokens) to left

-- The text is cut into these tokens: reading it arrives at its end.
abbrev pub IsCut : List ℕ → List Token → Type 0
IsCut text tokens = Reads 0 text tokens (length text) []
