-- Signs found by their characters, the other way round than `sign_text`.
use Rattle.std.specs.Prelude.{ℕ, Bool, ◌||◌, ◌&&◌, ◌==◌, if◌then◌else◌, nat_le, List, [], ◌∷◌, length, take, Option, Some, None}
use Rattle.std.specs.Char.{is_ascii_digit}
use Rattle.ev_lex.specs.Byte.{begins_word, is_quote}
use Rattle.ev_lex.specs.declared.token.Sign.{Sign}
use Rattle.ev_lex.specs.declared.token.Sign.TheVariants as sign

-- whether a word, a number or a literal may begin with the byte
abbrev pub begins_other : ℕ → Bool
begins_other b = begins_word b || is_ascii_digit b || is_quote b

-- the first entry at the number
abbrev pub entry : List (ℕ × Sign) → ℕ → Option Sign
entry [] b = None
entry (e ∷ more) b = if b == e.0 then Some e.1 else entry more b

-- the first entry at both numbers
abbrev pub entry_of_two : List (ℕ × ℕ × Sign) → ℕ → ℕ → Option Sign
entry_of_two [] b c = None
entry_of_two (e ∷ more) b c = if b == e.0 && c == e.1 then Some e.2 else entry_of_two more b c

-- the signs of one character
abbrev pub singles : List (ℕ × Sign)
singles =
    (40, sign.LeftParen) ∷ (41, sign.RightParen) ∷ (123, sign.LeftBrace) ∷ (125, sign.RightBrace) ∷ (91, sign.LeftBracket) ∷ (93, sign.RightBracket)
    ∷ (44, sign.Comma) ∷ (59, sign.Semicolon) ∷ (58, sign.Colon) ∷ (46, sign.Dot) ∷ (60, sign.Less) ∷ (62, sign.Greater) ∷ (61, sign.Equal)
    ∷ (43, sign.Plus) ∷ (45, sign.Minus) ∷ (42, sign.Star) ∷ (37, sign.Percent) ∷ (64, sign.At) ∷ (36, sign.Dollar) ∷ []

-- the signs of two
abbrev pub doubles : List (ℕ × ℕ × Sign)
doubles =
    (58, 58, sign.Namespace) ∷ (58, 61, sign.Assign) ∷ (45, 62, sign.Arrow) ∷ (46, 60, sign.BackLink) ∷ (60, 61, sign.LessOrEqual)
    ∷ (62, 61, sign.GreaterOrEqual) ∷ (33, 61, sign.NotEqual) ∷ (63, 61, sign.OptionalEqual) ∷ (63, 63, sign.Coalesce)
    ∷ (43, 43, sign.Concat) ∷ (47, 47, sign.FloorDivide) ∷ []

abbrev pub single : ℕ → Option Sign
single b = entry singles b

abbrev pub double : ℕ → ℕ → Option Sign
double b c = entry_of_two doubles b c

-- the sign that is written so
abbrev pub sign_of : List ℕ → Option Sign
sign_of [] = None
sign_of (b ∷ []) = single b
sign_of (b ∷ c ∷ []) = double b c
sign_of (b ∷ c ∷ d ∷ []) = if b == 63 && c == 33 && d == 61 then Some sign.OptionalNotEqual else None
sign_of (b ∷ c ∷ d ∷ e ∷ more) = None

-- the sign that the first bytes are, so many of them
unfoldable pub sign_at : List ℕ → ℕ → Option Sign
sign_at bytes len = if nat_le len (length bytes) then sign_of (take len bytes) else None
