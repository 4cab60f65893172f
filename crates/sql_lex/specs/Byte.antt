-- The kinds of bytes that a text is made of.
use Rattle.std.specs.Prelude.{ℕ, Bool, false, not, ◌||◌, ◌==◌, List, [], ◌∷◌}
use Rattle.std.specs.Char.{is_ascii_alphabetic, is_ascii_digit}

-- space, tab, line feed or carriage return
abbrev pub is_blank : ℕ → Bool
is_blank b = b == 32 || b == 9 || b == 10 || b == 13

-- a letter or `_`, with which a word begins
abbrev pub begins_word : ℕ → Bool
begins_word b = is_ascii_alphabetic b || b == 95

-- a letter, a digit or `_`, with which a word goes on
abbrev pub continues_word : ℕ → Bool
continues_word b = is_ascii_alphabetic b || b == 95 || is_ascii_digit b

-- `'`, which stands round texts
abbrev pub is_quote : ℕ → Bool
is_quote b = b == 39

-- any byte but `"`, which stands round names
abbrev pub is_in_name : ℕ → Bool
is_in_name b = not (b == 34)

-- whether a word, a number, a text or a name begins with the byte
abbrev pub begins_other : ℕ → Bool
begins_other b = begins_word b || is_ascii_digit b || b == 39 || b == 34

-- whether there is a first byte, and it passes the test
abbrev pub goes_on : (ℕ → Bool) → List ℕ → Bool
goes_on test [] = false
goes_on test (b ∷ rest) = test b
