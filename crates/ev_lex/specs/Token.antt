-- Which bytes spell a token.
use Rattle.std.specs.Prelude.{◌≡◌, ℕ, ◌≤◌, true, false, List, [], ◌∷◌, ◌++◌}
use Rattle.std.specs.List.{list_all}
use Rattle.std.specs.Char.{is_ascii_digit}
use Rattle.std.specs.Str.Parse.{digits_value}
use Rattle.ev_lex.specs.declared.token.TokenKind.{TokenKind}
use Rattle.ev_lex.specs.declared.token.TokenKind.TheVariants as kind
use Rattle.ev_lex.specs.Byte.{begins_word, continues_word, goes_on}
use Rattle.ev_lex.specs.Literal.{IsLiteral}
use Rattle.ev_lex.specs.Sign.{sign_text}

-- a letter or `_`, and then letters, digits and `_`
abbrev pub IsWord : List ℕ → Type 0
IsWord [] = ⊥
IsWord (b ∷ more) = (begins_word b ≡ true) × (list_all continues_word more ≡ true)

-- Decimal digits of a number that 64 bits with a sign hold. No further digit and no letter or `_` follows at once.
abbrev pub IsInt : List ℕ → List ℕ → Type 0
IsInt [] follow = ⊥
IsInt (b ∷ more) follow = (list_all is_ascii_digit (b ∷ more) ≡ true) × (digits_value 10 (b ∷ more) ≤ 9223372036854775807) × (goes_on continues_word follow ≡ false)

-- The bytes spell a token of this kind, where `follow` stands behind them.
abbrev pub Spells : List ℕ → List ℕ → TokenKind → Type 0
Spells bytes follow (kind.Word word) = (word ≡ bytes) × IsWord bytes
Spells bytes follow (kind.Int digits) = (digits ≡ bytes) × IsInt bytes follow
Spells bytes follow (kind.Str text) = IsLiteral bytes text
Spells bytes follow (kind.Sign sign) = bytes ≡ sign_text sign

-- They spell it, and with bytes of what follows added they spell no token.
abbrev pub IsLongest : List ℕ → List ℕ → TokenKind → Type 0
IsLongest bytes follow kind = Spells bytes follow kind
    × ((b : ℕ) (more rest : List ℕ) (other : TokenKind) → follow ≡ (b ∷ more) ++ rest → Spells (bytes ++ b ∷ more) rest other → ⊥)

-- no token begins the bytes
abbrev pub BeginsNoToken : List ℕ → Type 0
BeginsNoToken bytes = (front rest : List ℕ) (kind : TokenKind) → bytes ≡ front ++ rest → Spells front rest kind → ⊥
