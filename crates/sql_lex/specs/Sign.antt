-- The characters of each sign.
use Rattle.std.specs.Prelude.{ℕ, Bool, false, ◌||◌, ◌==◌, List, codes}
use Rattle.sql_lex.specs.declared.token.Sign.{Sign}
use Rattle.sql_lex.specs.declared.token.Sign.TheVariants as sign

abbrev pub sign_text : Sign → List ℕ
sign_text sign.LeftParen = codes "("
sign_text sign.RightParen = codes ")"
sign_text sign.Comma = codes ","
sign_text sign.Semicolon = codes ";"
sign_text sign.Dot = codes "."
sign_text sign.Cast = codes "::"
sign_text sign.Equal = codes "="
sign_text sign.NotEqual = codes "<>"
sign_text sign.LessOrEqual = codes "<="
sign_text sign.Less = codes "<"
sign_text sign.GreaterOrEqual = codes ">="
sign_text sign.Greater = codes ">"
sign_text sign.Plus = codes "+"
sign_text sign.Minus = codes "-"
sign_text sign.Concat = codes "||"
sign_text sign.Star = codes "*"
sign_text sign.FloorDivide = codes "//"
sign_text sign.Percent = codes "%"

-- whether the byte, behind the sign, makes a longer one of it
abbrev pub lengthens : Sign → ℕ → Bool
lengthens sign.Less b = b == 62 || b == 61
lengthens sign.Greater b = b == 61
lengthens _ b = false
