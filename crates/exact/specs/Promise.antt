-- What is promised of a reader: what it finds is spelled, only that is found, and a refusal names the token.
use Rattle.std.specs.Prelude.{◌≡◌, ◌≤◌, ◌<◌, ℕ, suc, Bool, false, List, length, take}
use Rattle.exact.specs.declared.rule.Rule.{Rule}
use Rattle.exact.specs.declared.rule.Rule.TheVariants.{Unexpected, TooDeep}
use Rattle.exact.specs.Language.{Lang}

-- No text of the language agrees with the tokens up to and including number k. The end counts as a token.
abbrev pub IsDead : {T A : Type 0} → (List T → A → Type 0) → List T → ℕ → Type 0
IsDead L ts k = (s : List _) (x : _) → L s x → take (suc k) s ≡ take (suc k) ts → ⊥

-- Some text of the language agrees with the tokens up to and including number k. The end counts as a token.
abbrev pub IsAliveThrough : {T A : Type 0} → (List T → A → Type 0) → List T → ℕ → Type 0
IsAliveThrough L ts k = (s : List _) × (x : _) × L s x × (take (suc k) s ≡ take (suc k) ts)

-- Some text of the language agrees with the tokens before number k.
abbrev pub IsAlive : {T A : Type 0} → (List T → A → Type 0) → List T → ℕ → Type 0
IsAlive L ts k = (s : List _) × (x : _) × L s x × (take k s ≡ take k ts)

-- The union of the languages, one for each number of parts that may be open beyond the limit.
abbrev pub Any : {T A : Type 0} → (ℕ → Lang T A) → Lang T A
Any L n ts x = (spare : ℕ) × L spare n ts x

-- A text and its end, which stands behind the value: where the limits are kept at the end too, the value is not too high.
abbrev pub Ended : {T A : Type 0} → (A → Bool) → Lang T A → Lang T A
Ended tall L n ts x = L n ts x × (length ts < n → tall x ≡ false)

-- The tokens spell the value, and the limits are kept at all of them and at the end.
abbrev pub Spells : {T A : Type 0} → Lang T A → List T → A → Type 0
Spells L ts x = L (suc (length ts)) ts x

-- Where a text is refused. An unexpected token is the first that is dead in the grammar alone, where the limits are kept at no token;
-- and they can be kept at those before it. A token that is too deep is the first at which they cannot be kept, and is not dead.
abbrev pub IsRefused : {T A : Type 0} → Lang T A → List T → Rule → ℕ → Type 0
IsRefused L ts Unexpected k = (k ≤ length ts) × IsDead (L 0) ts k × IsAlive (L k) ts k
IsRefused L ts TooDeep k = (k ≤ length ts) × IsDead (L (suc k)) ts k × IsAliveThrough (L k) ts k

-- The first k tokens spell the value within the limits, and no text of the grammar alone agrees with the tokens up to and including number k.
abbrev pub IsPrefix : {T A : Type 0} → Lang T A → List T → A → ℕ → Type 0
IsPrefix L ts x k = (k ≤ length ts) × L k (take k ts) x × (k < length ts → IsDead (L 0) ts k)
