-- Signs found by their characters, the other way round than `sign_text`.
use Rattle.std.specs.Prelude.{ℕ, ◌&&◌, ◌==◌, if◌then◌else◌, List, [], ◌∷◌, Option, Some, None}
use Rattle.sql_lex.specs.declared.token.Sign.{Sign}
use Rattle.sql_lex.specs.declared.token.Sign.TheVariants as sign

-- the first entry at the number
abbrev pub entry : List (ℕ × Sign) → ℕ → Option Sign
entry [] b = None
entry (e ∷ more) b = if b == e.0 then Some e.1 else entry more b

-- the first entry at both numbers
abbrev pub entry_of_two : List (ℕ × ℕ × Sign) → ℕ → ℕ → Option Sign
entry_of_two [] b c = None
entry_of_two (e ∷ more) b c = if b == e.0 && c == e.1 then Some e.2 else entry_of_two more b c

-- the signs of one character
abbrev pub singles : List (ℕ × Sign)
singles =
    (40, sign.LeftParen) ∷ (41, sign.RightParen) ∷ (44, sign.Comma) ∷ (59, sign.Semicolon) ∷ (46, sign.Dot) ∷ (61, sign.Equal) ∷ (60, sign.Less) ∷ (62, sign.Greater) ∷ (43, sign.Plus) ∷ (45, sign.Minus) ∷ (42, sign.Star) ∷ (37, sign.Percent) ∷ []

-- the signs of two
abbrev pub doubles : List (ℕ × ℕ × Sign)
doubles =
    (58, 58, sign.Cast) ∷ (60, 62, sign.NotEqual) ∷ (60, 61, sign.LessOrEqual) ∷ (62, 61, sign.GreaterOrEqual) ∷ (124, 124, sign.Concat) ∷ (47, 47, sign.FloorDivide) ∷ []

abbrev pub single : ℕ → Option Sign
single b = entry singles b

abbrev pub double : ℕ → ℕ → Option Sign
double b c = entry_of_two doubles b c

-- the sign of two characters at the front
abbrev pub double_at : List ℕ → Option Sign
double_at [] = None
double_at (b ∷ []) = None
double_at (b ∷ c ∷ rest) = double b c

-- the sign of one character at the front
abbrev pub single_at : List ℕ → Option Sign
single_at [] = None
single_at (b ∷ rest) = single b
