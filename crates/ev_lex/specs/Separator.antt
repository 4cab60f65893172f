-- What stands between tokens.
use Rattle.std.specs.Prelude.{◌≡◌, ℕ, true, false, List, [], ◌∷◌, ◌⊎◌}
use Rattle.std.specs.List.{list_all}
use Rattle.ev_lex.specs.Byte.{is_blank, is_within_line, goes_on}

-- one blank
abbrev pub IsBlank : List ℕ → Type 0
IsBlank bytes = (b : ℕ) × (bytes ≡ b ∷ []) × (is_blank b ≡ true)

-- `#` and whatever follows it, up to the end of the line or of the text
abbrev pub IsComment : List ℕ → List ℕ → Type 0
IsComment bytes follow = (line : List ℕ) × (bytes ≡ 35 ∷ line) × (list_all is_within_line line ≡ true) × (goes_on is_within_line follow ≡ false)

-- The bytes separate tokens, where `follow` stands behind them.
abbrev pub IsSeparator : List ℕ → List ℕ → Type 0
IsSeparator bytes follow = IsBlank bytes ⊎ IsComment bytes follow
