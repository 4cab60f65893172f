-- The first byte of a token tells its kind, and that it is no separator.
use Rattle.std.proofs.Common.{◌≡◌, ℕ, ◌≤◌, Bool, true, false, cond, List, [], ◌∷◌, Some, length, refl, ap, ◌∙◌, arith, inl, inr, ◌||◌, ◌&&◌, ◌==◌}
use Rattle.std.specs.Char.{is_ascii_digit}
use Rattle.std.proofs.lemmas.Bool.Decides.{nat_tests}
use Rattle.ev_lex.specs.declared.token.Sign.{Sign}
use Rattle.ev_lex.specs.declared.token.Sign.TheVariants as sign
use Rattle.ev_lex.specs.declared.token.TokenKind.{TokenKind}
use Rattle.ev_lex.specs.declared.token.TokenKind.TheVariants as kind
use Rattle.ev_lex.specs.Byte.{is_blank, begins_word, is_quote}
use Rattle.ev_lex.specs.Separator.{IsSeparator}
use Rattle.ev_lex.specs.Sign.{sign_text}
use Rattle.ev_lex.specs.SignTable.{sign_of}
use Rattle.ev_lex.specs.Token.{Spells}

-- what a byte begins: 1 a word, 2 a number, 3 a literal, 4 a separator, 0 a sign or nothing
abbrev pub byte_rank : ℕ → ℕ
byte_rank b = cond (begins_word b) 1 (cond (is_ascii_digit b) 2 (cond (is_quote b) 3 (cond (is_blank b || b == 35) 4 0)))

abbrev pub kind_rank : TokenKind → ℕ
kind_rank (kind.Word w) = 1
kind_rank (kind.Int w) = 2
kind_rank (kind.Str w) = 3
kind_rank (kind.Sign w) = 0

abbrev pub first_rank : List ℕ → ℕ
first_rank [] = 9
first_rank (b ∷ more) = byte_rank b

pub word_rank : (b : ℕ) → begins_word b ≡ true → byte_rank b ≡ 1
word_rank b h = rw h

pub digit_rank : (b : ℕ) → is_ascii_digit b ≡ true → byte_rank b ≡ 2
digit_rank b h = grind (arith, nat_tests)

pub quote_rank : (b : ℕ) → is_quote b ≡ true → byte_rank b ≡ 3
quote_rank b h = grind (arith, nat_tests)

pub blank_rank : (b : ℕ) → is_blank b ≡ true → byte_rank b ≡ 4
blank_rank b h = grind (arith, nat_tests)

sign_rank : (s : Sign) → first_rank (sign_text s) ≡ 0
sign_rank sign.Namespace = refl
sign_rank sign.Assign = refl
sign_rank sign.Arrow = refl
sign_rank sign.BackLink = refl
sign_rank sign.LessOrEqual = refl
sign_rank sign.GreaterOrEqual = refl
sign_rank sign.NotEqual = refl
sign_rank sign.OptionalEqual = refl
sign_rank sign.OptionalNotEqual = refl
sign_rank sign.Coalesce = refl
sign_rank sign.Concat = refl
sign_rank sign.FloorDivide = refl
sign_rank sign.LeftParen = refl
sign_rank sign.RightParen = refl
sign_rank sign.LeftBrace = refl
sign_rank sign.RightBrace = refl
sign_rank sign.LeftBracket = refl
sign_rank sign.RightBracket = refl
sign_rank sign.Comma = refl
sign_rank sign.Semicolon = refl
sign_rank sign.Colon = refl
sign_rank sign.Dot = refl
sign_rank sign.Less = refl
sign_rank sign.Greater = refl
sign_rank sign.Equal = refl
sign_rank sign.Plus = refl
sign_rank sign.Minus = refl
sign_rank sign.Star = refl
sign_rank sign.Percent = refl
sign_rank sign.At = refl
sign_rank sign.Dollar = refl

-- a sign has one to three characters
pub sign_short : (s : Sign) → length (sign_text s) ≤ 3
sign_short sign.Namespace = omega arith
sign_short sign.Assign = omega arith
sign_short sign.Arrow = omega arith
sign_short sign.BackLink = omega arith
sign_short sign.LessOrEqual = omega arith
sign_short sign.GreaterOrEqual = omega arith
sign_short sign.NotEqual = omega arith
sign_short sign.OptionalEqual = omega arith
sign_short sign.OptionalNotEqual = omega arith
sign_short sign.Coalesce = omega arith
sign_short sign.Concat = omega arith
sign_short sign.FloorDivide = omega arith
sign_short sign.LeftParen = omega arith
sign_short sign.RightParen = omega arith
sign_short sign.LeftBrace = omega arith
sign_short sign.RightBrace = omega arith
sign_short sign.LeftBracket = omega arith
sign_short sign.RightBracket = omega arith
sign_short sign.Comma = omega arith
sign_short sign.Semicolon = omega arith
sign_short sign.Colon = omega arith
sign_short sign.Dot = omega arith
sign_short sign.Less = omega arith
sign_short sign.Greater = omega arith
sign_short sign.Equal = omega arith
sign_short sign.Plus = omega arith
sign_short sign.Minus = omega arith
sign_short sign.Star = omega arith
sign_short sign.Percent = omega arith
sign_short sign.At = omega arith
sign_short sign.Dollar = omega arith

-- and is found by them
pub sign_found : (s : Sign) → sign_of (sign_text s) ≡ Some s
sign_found sign.Namespace = refl
sign_found sign.Assign = refl
sign_found sign.Arrow = refl
sign_found sign.BackLink = refl
sign_found sign.LessOrEqual = refl
sign_found sign.GreaterOrEqual = refl
sign_found sign.NotEqual = refl
sign_found sign.OptionalEqual = refl
sign_found sign.OptionalNotEqual = refl
sign_found sign.Coalesce = refl
sign_found sign.Concat = refl
sign_found sign.FloorDivide = refl
sign_found sign.LeftParen = refl
sign_found sign.RightParen = refl
sign_found sign.LeftBrace = refl
sign_found sign.RightBrace = refl
sign_found sign.LeftBracket = refl
sign_found sign.RightBracket = refl
sign_found sign.Comma = refl
sign_found sign.Semicolon = refl
sign_found sign.Colon = refl
sign_found sign.Dot = refl
sign_found sign.Less = refl
sign_found sign.Greater = refl
sign_found sign.Equal = refl
sign_found sign.Plus = refl
sign_found sign.Minus = refl
sign_found sign.Star = refl
sign_found sign.Percent = refl
sign_found sign.At = refl
sign_found sign.Dollar = refl

and_left : (x y : Bool) → (x && y) ≡ true → x ≡ true
and_left true y h = refl
and_left false y h = h

pub token_rank : (b : ℕ) (more follow : List ℕ) (k : TokenKind) → Spells (b ∷ more) follow k → byte_rank b ≡ kind_rank k
token_rank b more follow (kind.Word w) s = word_rank b s.1.0
token_rank b more follow (kind.Int w) s = digit_rank b (and_left _ _ s.1.0)
token_rank b more follow (kind.Str w) s = let same : b ≡ s.0 = cc s.2 in rw same (quote_rank s.0 s.3)
token_rank b more follow (kind.Sign w) s = ap first_rank s ∙ sign_rank w

pub token_some : (follow : List ℕ) (k : TokenKind) → Spells [] follow k → ⊥
token_some follow (kind.Word w) s = s.1
token_some follow (kind.Int w) s = s.1
token_some follow (kind.Str w) s = cc s.2
token_some follow (kind.Sign w) s = absurd (omega (arith, ap first_rank s ∙ sign_rank w))

pub separator_rank : (b : ℕ) (more follow : List ℕ) → IsSeparator (b ∷ more) follow → byte_rank b ≡ 4
separator_rank b more follow (inl s) = let same : b ≡ s.0 = cc s.1 in rw same (blank_rank s.0 s.2)
separator_rank b more follow (inr s) = let same : b ≡ 35 = cc s.1 in rw same refl

pub separator_some : (follow : List ℕ) → IsSeparator [] follow → ⊥
separator_some follow (inl s) = cc s.1
separator_some follow (inr s) = cc s.1

pub kind_not_separator : (k : TokenKind) → kind_rank k ≡ 4 → ⊥
kind_not_separator (kind.Word w) h = absurd (omega arith)
kind_not_separator (kind.Int w) h = absurd (omega arith)
kind_not_separator (kind.Str w) h = absurd (omega arith)
kind_not_separator (kind.Sign w) h = absurd (omega arith)
