-- What is cut off the front of some bytes.
use Rattle.std.specs.Prelude.{◌≡◌, ℕ, ◌+◌, ◌≤◌, ◌<◌, Bool, false, List, ◌∷◌, ◌++◌, [], length, take, drop, get_or, Option, Some, None}
use Rattle.std.specs.Char.{is_ascii_digit}
use Rattle.sql_lex.specs.declared.byte.Class.{Class}
use Rattle.sql_lex.specs.declared.byte.Class.TheVariants as class
use Rattle.sql_lex.specs.declared.token.Cut.{Cut}
use Rattle.sql_lex.specs.Byte.{continues_word, is_in_name, is_quote, goes_on}
use Rattle.sql_lex.specs.Token.{Spells, BeginsNoToken, doubled}

-- whether a byte is of the class
abbrev pub is_in : Class → ℕ → Bool
is_in class.Digit = is_ascii_digit
is_in class.Word = continues_word
is_in class.Name = is_in_name

-- It is a token at the front, and not longer than the bytes.
abbrev pub IsToken : List ℕ → Cut → Type 0
IsToken bytes cut = (0 < cut.len) × (cut.len ≤ length bytes) × Spells (take cut.len bytes) (drop cut.len bytes) cut.kind

-- the token at the front, or nothing where none begins the bytes
abbrev pub IsFirstToken : List ℕ → Option Cut → Type 0
IsFirstToken bytes None = BeginsNoToken bytes
IsFirstToken bytes (Some cut) = IsToken bytes cut

-- so many bytes at the place stand for one of the text; none where the closing quote stands there
abbrev pub IsPiece : List ℕ → ℕ → ℕ → Type 0
IsPiece bytes at n =
    (n ≡ 0 → (get_or bytes at 0 ≡ 39) × (goes_on is_quote (drop (at + 1) bytes) ≡ false))
    × (0 < n → (at + n ≤ length bytes) × (take (at + n) bytes ≡ take at bytes ++ doubled (get_or bytes at 0 ∷ [])))

-- the text up to the closing quote and the place of that one, or nothing where no quote closes
abbrev pub IsClosing : List ℕ → Option (List ℕ × ℕ) → Type 0
IsClosing bytes None = (text rest : List ℕ) → goes_on is_quote rest ≡ false → bytes ≡ doubled text ++ 39 ∷ rest → ⊥
IsClosing bytes (Some p) = (p.1 < length bytes) × (bytes ≡ doubled p.0 ++ 39 ∷ drop (p.1 + 1) bytes) × (goes_on is_quote (drop (p.1 + 1) bytes) ≡ false)
