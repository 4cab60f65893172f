-- How a text is cut into tokens, from its first byte on.
use Rattle.std.specs.Prelude.{◌≡◌, ◌≢◌, ◌⊎◌, ℕ, ◌+◌, List, [], ◌∷◌, ◌++◌, length}
use Rattle.ev_lex.specs.declared.token.Token.{Token}
use Rattle.ev_lex.specs.declared.token.TokenKind.{TokenKind}
use Rattle.ev_lex.specs.Separator.{IsSeparator}
use Rattle.ev_lex.specs.Token.{IsLongest, BeginsNoToken}

-- a token with its first byte and the byte after its last
abbrev pub token_at : TokenKind → ℕ → ℕ → Token
token_at kind start end = record { kind = kind; start = start; end = end }

-- Read from a place on, the bytes give these tokens up to another place, where `left` is left of them:
-- separators are read over, and from a token's first byte on the longest token is taken.
pub data Reads : ℕ → List ℕ → List Token → ℕ → List ℕ → Type 0 where
  Here : {place : ℕ} {bytes : List ℕ} → Reads place bytes [] place bytes
  Over : {place to : ℕ} {bytes left : List ℕ} {tokens : List Token} (front rest : List ℕ) → bytes ≡ front ++ rest → IsSeparator front rest
      → Reads (place + length front) rest tokens to left → Reads place bytes tokens to left
  Take : {place to : ℕ} {bytes left : List ℕ} {tokens : List Token} (front rest : List ℕ) (kind : TokenKind) → bytes ≡ front ++ rest → IsLongest front rest kind
      → Reads (place + length front) rest tokens to left → Reads place bytes (token_at kind place (place + length front) ∷ tokens) to left

-- no separator begins the bytes
abbrev pub BeginsNoSeparator : List ℕ → Type 0
BeginsNoSeparator bytes = (front rest : List ℕ) → bytes ≡ front ++ rest → IsSeparator front rest → ⊥

-- The text is cut into these tokens: reading it arrives at its end.
abbrev pub IsCut : List ℕ → List Token → Type 0
IsCut text tokens = Reads 0 text tokens (length text) []

-- Reading the text arrives at the byte, with which neither a separator nor a token begins.
abbrev pub IsRefused : List ℕ → ℕ → Type 0
IsRefused text byte = (tokens : List Token) × (left : List ℕ) × Reads 0 text tokens byte left × (left ≢ []) × BeginsNoSeparator left × BeginsNoToken left

-- The text is cut into tokens, or refused at a byte.
abbrev pub IsRead : List ℕ → Type 0
IsRead text = ((tokens : List Token) × IsCut text tokens) ⊎ ((byte : ℕ) × IsRefused text byte)
