-- What is cut off the front of some bytes.
use Rattle.std.specs.Prelude.{◌≡◌, ℕ, ◌≤◌, ◌<◌, Bool, List, ◌++◌, length, take, drop, Option, Some, None}
use Rattle.std.specs.Char.{is_ascii_digit, IsScalar, encode_utf8}
use Rattle.std.specs.Str.{StartsWithNoChar}
use Rattle.ev_lex.specs.declared.byte.Class.{Class}
use Rattle.ev_lex.specs.declared.byte.Class.TheVariants as class
use Rattle.ev_lex.specs.declared.token.Cut.{Cut}
use Rattle.ev_lex.specs.Byte.{continues_word, is_within_line}
use Rattle.ev_lex.specs.Literal.{IsEscape, IsPiece, Closes}
use Rattle.ev_lex.specs.Separator.{IsSeparator}
use Rattle.ev_lex.specs.Reading.{BeginsNoSeparator}
use Rattle.ev_lex.specs.Token.{IsLongest, BeginsNoToken}

-- whether a byte is of the class
abbrev pub is_in : Class → ℕ → Bool
is_in class.Digit = is_ascii_digit
is_in class.Word = continues_word
is_in class.Line = is_within_line

-- It is the longest token at the front, and not longer than the bytes.
abbrev pub IsToken : List ℕ → Cut → Type 0
IsToken bytes cut = (0 < cut.len) × (cut.len ≤ length bytes) × IsLongest (take cut.len bytes) (drop cut.len bytes) cut.kind

-- the longest token at the front, or nothing where none begins the bytes
abbrev pub IsFirstToken : List ℕ → Option Cut → Type 0
IsFirstToken bytes None = BeginsNoToken bytes
IsFirstToken bytes (Some cut) = IsToken bytes cut

-- the length of the separator at the front, or 0 where none begins the bytes
abbrev pub IsSeparatorLength : List ℕ → ℕ → Type 0
IsSeparatorLength bytes len = (len ≤ length bytes) × (len ≡ 0 → BeginsNoSeparator bytes) × (0 < len → IsSeparator (take len bytes) (drop len bytes))

-- the character of the piece at the front and how many bytes it takes, or nothing where no piece begins the bytes
abbrev pub IsFirstPiece : ℕ → List ℕ → Option (ℕ × ℕ) → Type 0
IsFirstPiece quote bytes None = (piece rest : List ℕ) (c : ℕ) → bytes ≡ piece ++ rest → IsPiece quote piece c → ⊥
IsFirstPiece quote bytes (Some p) = (0 < p.1) × (p.1 ≤ length bytes) × IsPiece quote (take p.1 bytes) p.0

-- the same of an escape alone
abbrev pub IsFirstEscape : List ℕ → Option (ℕ × ℕ) → Type 0
IsFirstEscape bytes None = (piece rest : List ℕ) (c : ℕ) → bytes ≡ piece ++ rest → IsEscape piece c → ⊥
IsFirstEscape bytes (Some p) = (0 < p.1) × (p.1 ≤ length bytes) × IsEscape (take p.1 bytes) p.0

-- and of a character in UTF-8
abbrev pub IsFirstCharacter : List ℕ → Option (ℕ × ℕ) → Type 0
IsFirstCharacter bytes None = StartsWithNoChar bytes
IsFirstCharacter bytes (Some p) = (0 < p.1) × (p.1 ≤ length bytes) × IsScalar p.0 × (take p.1 bytes ≡ encode_utf8 p.0)

-- the text up to the closing quote and how many bytes it takes with that quote, or nothing where no literal goes on so
abbrev pub IsClosing : ℕ → List ℕ → Option (List ℕ × ℕ) → Type 0
IsClosing quote bytes None = (front rest text : List ℕ) → bytes ≡ front ++ rest → Closes quote front text → ⊥
IsClosing quote bytes (Some p) = (0 < p.1) × (p.1 ≤ length bytes) × Closes quote (take p.1 bytes) p.0
