-- Sets of tokens: those with which an expression goes on, and those that begin one.
use Rattle.std.proofs.Common.{◌≡◌, ℕ, ◌≤◌, Bool, true, false, not, cond, Option, Some, None, refl, sym, ap, ◌∙◌, arith}
use Rattle.std.proofs.Math.Dec.{leb}
use Rattle.std.proofs.lemmas.Bool.{lt-leb, leb-false}
use denote.Enum.Bare.{same_true}
use Rattle.trial_exact.specs.contracts.token.Sign.{the_type}
use Rattle.trial_exact.specs.declared.token.Token.{Token}
use Rattle.trial_exact.specs.declared.token.Token.TheVariants as token
use Rattle.trial_exact.specs.declared.token.Sign.{Sign}
use Rattle.trial_exact.specs.declared.token.Sign.TheVariants as sign
use Rattle.trial_exact.specs.Words.{same_sign, is, sign_of, name_of, int_of}
use Rattle.exact.specs.Language.{Lang, One, OneWithin, Then}
use Rattle.exact.specs.Reading.{inside}
use Rattle.exact.proofs.Heads.{Begins, Avoids, begins_one, begins_one_within, begins_then, avoids_begun}
use Rattle.exact.proofs.Single.{at_kind, covers_kind, lacks_kind, closes_kind}

-- How tightly a token binds behind an expression; 0 where it ends one.
abbrev pub sign_binds : Sign → ℕ
sign_binds sign.If = 5
sign_binds sign.Plus = 7
sign_binds sign.Coalesce = 9
sign_binds _ = 0

abbrev pub binds : Token → ℕ
binds (token.Sign s) = sign_binds s
binds _ = 0

-- The tokens that bind at this level or tighter.
abbrev pub go : ℕ → Token → Bool
go level t = leb level (binds t)

-- The tokens with which an expression begins.
abbrev pub sign_starts : Sign → Bool
sign_starts sign.Minus = true
sign_starts sign.LeftParen = true
sign_starts sign.LeftBrace = true
sign_starts _ = false

abbrev pub starts : Token → Bool
starts (token.Sign s) = sign_starts s
starts _ = true

-- ---- a sign

is_true : (s : Sign) (t : Token) → is s t ≡ true → t ≡ token.Sign s
unfolding same_sign
is_true s (token.Sign u) h = ap (λ (x : Sign). token.Sign x) (sym (same_true the_type _ s u h))
is_true s (token.Name n) h = absurd cc
is_true s (token.Int n) h = absurd cc

pub at_sign : (s : Sign) (set : Token → Bool) (b : Bool) → set (token.Sign s) ≡ b → (t : Token) → is s t ≡ true → set t ≡ b
at_sign s = at_kind (λ t. t) (token.Sign s) (is s) (is_true s)

pub covers_sign : (s : Sign) (set : Token → Bool) → set (token.Sign s) ≡ true → (t : Token) → set t ≡ false → is s t ≡ false
covers_sign s = covers_kind (λ t. t) (token.Sign s) (is s) (is_true s)

pub lacks_sign : (s : Sign) (set : Token → Bool) → set (token.Sign s) ≡ false → (t : Token) → set t ≡ true → is s t ≡ false
lacks_sign s = lacks_kind (λ t. t) (token.Sign s) (is s) (is_true s)

pub closes_sign : (s : Sign) (set : Token → Bool) (b : Bool) → set (token.Sign s) ≡ b → (t : Token) → inside (is s) t ≡ false → set t ≡ b
closes_sign s = closes_kind (λ t. t) (token.Sign s) (is s) (is_true s)

pub sign_some : (s : Sign) (t : Token) (a : Unit {0}) → sign_of s t ≡ Some a → is s t ≡ true
sign_some s t a h = cases (is s t) refl
  where
    cases : (b : Bool) → is s t ≡ b → is s t ≡ true
    cases true so = so
    cases false not_so = let bad : ◌≡◌ {A = Option (Unit {0})} None (Some a) = sym (ap (λ (b : Bool). cond b (Some tt) None) not_so) ∙ h in absurd cc

-- ---- what begins with one token that is known

pub begins_sign : {over : Bool} (s : Sign) {first : Token → Bool} → first (token.Sign s) ≡ true → Begins first (OneWithin over (sign_of s))
begins_sign {over} s {first} h = begins_one_within over (sign_of s) (λ t a e. at_sign s first true h t (sign_some s t a e))

-- what begins with a sign that the set lacks
pub avoids_sign : {over : Bool} {A : Type 0} {M : Unit {0} → Lang Token A} {set : Token → Bool} {go : A → Token → Bool} (s : Sign) → set (token.Sign s) ≡ false → Avoids set (Then (OneWithin over (sign_of s)) M) go
avoids_sign s h = avoids_begun (begins_then (begins_sign s (ap not h)))

pub begins_name : {first : Token → Bool} → ((n : ℕ) → first (token.Name n) ≡ true) → Begins first (One name_of)
begins_name {first} h = begins_one name_of sub
  where
    sub : (t : Token) (n : ℕ) → name_of t ≡ Some n → first t ≡ true
    sub (token.Name m) n e = h m
    sub (token.Int m) n e = absurd cc
    sub (token.Sign s) n e = absurd cc

pub begins_int : {first : Token → Bool} → ((n : ℕ) → first (token.Int n) ≡ true) → Begins first (One int_of)
begins_int {first} h = begins_one int_of sub
  where
    sub : (t : Token) (n : ℕ) → int_of t ≡ Some n → first t ≡ true
    sub (token.Int m) n e = h m
    sub (token.Name m) n e = absurd cc
    sub (token.Sign s) n e = absurd cc

-- ---- levels

pub tighter : (least level : ℕ) → least ≤ level → (t : Token) → go least t ≡ false → go level t ≡ false
tighter least level le t h = lt-leb level (binds t) (let lt = leb-false least (binds t) h in omega arith)

-- no expression begins with a sign that is not among `starts`
pub in_starts : (s : Sign) → starts (token.Sign s) ≡ false → (t : Token) → starts t ≡ true → inside (is s) t ≡ true
in_starts s h t e = ap not (lacks_sign s starts h t e)
