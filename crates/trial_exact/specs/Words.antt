-- What single tokens stand for.
use Rattle.std.specs.Prelude.{◌≡◌, ℕ, Bool, true, false, List, Option, Some, None, if◌then◌else◌}
use Rattle.exact.specs.Reading.{Got, heads, has, one}
use denote.Enum.Bare.{sameb}
use Rattle.trial_exact.specs.contracts.token.Sign.{the_type}
use Rattle.trial_exact.specs.declared.token.Token.{Token}
use Rattle.trial_exact.specs.declared.token.Token.TheVariants as token
use Rattle.trial_exact.specs.declared.token.Sign.{Sign}

unfoldable pub same_sign : Sign → Sign → Bool
same_sign = sameb the_type

-- Whether the token is this sign.
abbrev pub is : Sign → Token → Bool
is s (token.Sign t) = same_sign s t
is s _ = false

-- The sign itself stands for no value.
abbrev pub sign_of : Sign → Token → Option (Unit {0})
sign_of s t = if is s t then Some tt else None

abbrev pub name_of : Token → Option ℕ
name_of (token.Name n) = Some n
name_of _ = None

abbrev pub int_of : Token → Option ℕ
int_of (token.Int n) = Some n
int_of _ = None

-- What a function finds at the head, if the head stands for a value. The rest are the tokens after the call.
abbrev pub Finds : {A : Type 0} → (Token → Option A) → List Token → Option A → List Token → Type 0
Finds f old None new = (heads (has f) old ≡ false) × (new ≡ old)
Finds f old (Some a) new = (heads (has f) old ≡ true) × (one f old ≡ Got a new)
