-- Text literals: what may stand between two quotes, and the text that it stands for.
use Rattle.std.specs.Prelude.{◌≡◌, ◌≢◌, ℕ, true, List, [], ◌∷◌, ◌++◌, ◌⊎◌, Option, Some, None, if◌then◌else◌, ◌==◌}
use Rattle.std.specs.Char.{IsScalar, encode_utf8}
use Rattle.std.specs.Str.Parse.{AllDigits, digits_value}
use Rattle.ev_lex.specs.Byte.{is_quote}

-- the character that a byte behind `\` stands for: `\`, `'` and `"` themselves, and a line feed, a return or a tab for `n`, `r` and `t`
abbrev pub escaped : ℕ → Option ℕ
escaped b =
    if b == 92 then Some 92 else (if b == 39 then Some 39 else (if b == 34 then Some 34
    else (if b == 110 then Some 10 else (if b == 114 then Some 13 else (if b == 116 then Some 9 else None)))))

-- `\` and one byte that stands for a character
abbrev pub IsShortEscape : List ℕ → ℕ → Type 0
IsShortEscape bytes c = (b : ℕ) × (bytes ≡ 92 ∷ b ∷ []) × (escaped b ≡ Some c)

-- `\u` and the four hexadecimal digits of a character, so of no surrogate
abbrev pub IsHexEscape : List ℕ → ℕ → Type 0
IsHexEscape bytes c =
    (h : ℕ) × (i : ℕ) × (j : ℕ) × (k : ℕ) × (bytes ≡ 92 ∷ 117 ∷ h ∷ i ∷ j ∷ k ∷ []) × AllDigits 16 (h ∷ i ∷ j ∷ k ∷ [])
    × (c ≡ digits_value 16 (h ∷ i ∷ j ∷ k ∷ [])) × IsScalar c

-- The bytes are an escape that stands for the character.
abbrev pub IsEscape : List ℕ → ℕ → Type 0
IsEscape bytes c = IsShortEscape bytes c ⊎ IsHexEscape bytes c

-- a character other than the quote and `\`, in UTF-8
abbrev pub IsPlain : ℕ → List ℕ → ℕ → Type 0
IsPlain quote bytes c = IsScalar c × (c ≢ quote) × (c ≢ 92) × (bytes ≡ encode_utf8 c)

-- Between such quotes the bytes stand for the character.
abbrev pub IsPiece : ℕ → List ℕ → ℕ → Type 0
IsPiece quote bytes c = IsPlain quote bytes c ⊎ IsEscape bytes c

-- What stands behind an opening quote, the closing one included, and the text that it stands for: that of its pieces in a row.
pub data Closes (quote : ℕ) : List ℕ → List ℕ → Type 0 where
  Close : Closes quote (quote ∷ []) []
  Piece : {bytes text : List ℕ} (piece rest more : List ℕ) (c : ℕ) → IsPiece quote piece c → Closes quote rest more
      → bytes ≡ piece ++ rest → text ≡ encode_utf8 c ++ more → Closes quote bytes text

-- The bytes are a literal of the text.
abbrev pub IsLiteral : List ℕ → List ℕ → Type 0
IsLiteral bytes text = (quote : ℕ) × (rest : List ℕ) × (bytes ≡ quote ∷ rest) × (is_quote quote ≡ true) × Closes quote rest text
