-- Reading from left to right, with one token to look at.
use Rattle.std.specs.Prelude.{◌≡◌, ℕ, zero, suc, Bool, true, false, not, List, [], ◌∷◌, length, Option, Some, None, Result, Ok, Err, if◌then◌else◌}
use Rattle.exact.specs.Language.{Step, More, Done}
use Rattle.exact.specs.declared.rule.Rule.{Rule}
use Rattle.exact.specs.declared.rule.Rule.TheVariants.{Unexpected, TooDeep}
use Rattle.exact.specs.declared.rule.ReadError.{ReadError}
use Rattle.exact.specs.declared.rule.ReadError.TheVariants.{Memory, Refused}

-- A value and the tokens behind it, or a rule and the tokens from the refused one on.
pub data Outcome (T A : Type 0) : Type 0 where
  Got : A → List T → Outcome T A
  Stop : Rule → List T → Outcome T A

-- What is read from the front of a list of tokens.
abbrev pub Reader : Type 0 → Type 0 → Type 0
Reader T A = List T → Outcome T A

-- What goes on where a value was read.
abbrev pub and_then : {T A B : Type 0} → Outcome T A → (A → Reader T B) → Outcome T B
and_then (Got a rest) next = next a rest
and_then (Stop rule rest) next = Stop rule rest

infixl 10 ◌>>=◌
abbrev pub ◌>>=◌ : {T A B : Type 0} → Reader T A → (A → Reader T B) → Reader T B
p >>= q = λ ts. and_then (p ts) q

infixl 10 ◌>>◌
abbrev pub ◌>>◌ : {T A B : Type 0} → Reader T A → Reader T B → Reader T B
p >> q = p >>= (λ _. q)

-- A value, with no token read.
abbrev pub pure : {T A : Type 0} → A → Reader T A
pure a = λ ts. Got a ts

-- Whatever comes next is refused.
abbrev pub refuse : {T A : Type 0} → Rule → Reader T A
refuse rule = λ ts. Stop rule ts

-- Whether there is a next token, and it is one of these.
abbrev pub heads : {T : Type 0} → (T → Bool) → List T → Bool
heads set [] = false
heads set (t ∷ ts) = set t

-- Whether the token stands for a value.
abbrev pub has : {T A : Type 0} → (T → Option A) → T → Bool
has f t = elim (f t) [ None ↦ false | Some a ↦ true ]

-- What becomes of the token t: it is taken, or it passes a limit, or it is not one of those that may stand here.
abbrev pub taken : {T A : Type 0} → Bool → Option A → T → Reader T A
taken over None t = λ ts. Stop Unexpected (t ∷ ts)
taken true (Some a) t = λ ts. Stop TooDeep (t ∷ ts)
taken false (Some a) t = pure a

-- One token that stands for a value. Where it would pass a limit it is too deep.
abbrev pub one_within : {T A : Type 0} → Bool → (T → Option A) → Reader T A
one_within over f [] = Stop Unexpected []
one_within over f (t ∷ ts) = taken over (f t) t ts

-- One token that stands for a value.
abbrev pub one : {T A : Type 0} → (T → Option A) → Reader T A
one f = one_within false f

-- One of two, by the next token.
abbrev pub choose : {T A : Type 0} → (T → Bool) → Reader T A → Reader T A → Reader T A
choose first p q = λ ts. if heads first ts then p ts else q ts

-- Steps, as long as the next token begins one. The number bounds the turns, and each turn takes a token.
unfoldable pub chain_from : {T A : Type 0} → (T → Bool) → (A → Reader T A) → ℕ → A → Reader T A
chain_from first step zero a = pure a
chain_from first step (suc n) a = choose first (step a >>= chain_from first step n) (pure a)

-- Steps, as long as the next token begins one.
abbrev pub chain : {T A : Type 0} → (T → Bool) → (A → Reader T A) → A → Reader T A
chain first step a = λ ts. chain_from first step (length ts) a ts

-- What follows a step: the rest of the loop, or nothing.
abbrev pub onward : {T A R : Type 0} → (A → Reader T R) → Step A R → Reader T R
onward p (More a) = p a
onward p (Done r) = pure r

-- Steps until one says that the loop is over. The number bounds the turns, and each turn but the last takes a token.
-- `last` is what is read where no token is left.
unfoldable pub loop_from : {T A R : Type 0} → (A → Reader T R) → (A → Reader T (Step A R)) → ℕ → A → Reader T R
loop_from last step zero a = last a
loop_from last step (suc n) a = step a >>= onward (loop_from last step n)

-- Steps until one says that the loop is over.
abbrev pub loop : {T A R : Type 0} → (A → Reader T R) → (A → Reader T (Step A R)) → A → Reader T R
loop last step a = λ ts. loop_from last step (length ts) a ts

-- Whether a token does not close.
abbrev pub inside : {T : Type 0} → (T → Bool) → T → Bool
inside closes t = not (closes t)

-- Behind the items so far: a comma and an item, a comma that ends the list since the list is closed behind it, or nothing.
abbrev pub item : {T A B : Type 0} → (B → Bool) → (T → Bool) → (T → Option (Unit {0})) → (T → Bool) → Reader T A → (B → A → B) → B → Reader T (Step B B)
item over is_comma comma closes p add all =
    choose is_comma (one_within (over all) comma >> choose (inside closes) (p >>= λ a. pure (More (add all a))) (pure (Done all))) (pure (Done all))

-- Further items, up to a token that closes.
abbrev pub more_items : {T A B : Type 0} → (B → Bool) → (T → Bool) → (T → Option (Unit {0})) → (T → Bool) → Reader T A → (B → A → B) → B → Reader T B
more_items over is_comma comma closes p add = loop pure (item over is_comma comma closes p add)

-- Items with commas between them, and maybe a last comma, up to a token that closes.
abbrev pub items : {T A B : Type 0} → (B → Bool) → (T → Bool) → (T → Option (Unit {0})) → (T → Bool) → Reader T A → (A → B) → (B → A → B) → Reader T B
items over is_comma comma closes p start add = p >>= λ a. more_items over is_comma comma closes p add (start a)

-- What a function that reads ensures: the reader's outcome, unless memory fails. At an error the tokens stand at the refused one.
abbrev pub Reads : {T A : Type 0} → Outcome T A → Result A ReadError → List T → Type 0
Reads outcome (Ok a) new = outcome ≡ Got a new
Reads outcome (Err Memory) new = Unit {0}
Reads outcome (Err (Refused rule)) new = outcome ≡ Stop rule new

-- What a function that reads and asks for no memory ensures: the reader's outcome. At an error the tokens stand at the refused one.
abbrev pub Takes : {T A : Type 0} → Outcome T A → Result A Rule → List T → Type 0
Takes outcome (Ok a) new = outcome ≡ Got a new
Takes outcome (Err rule) new = outcome ≡ Stop rule new

-- The end of the text, behind a value: it is too deep where the value is too high.
abbrev pub end_behind : {T A : Type 0} → (A → Bool) → A → Reader T A
end_behind tall a [] = if tall a then Stop TooDeep [] else Got a []
end_behind tall a (t ∷ ts) = Stop Unexpected (t ∷ ts)

-- All of the tokens.
abbrev pub whole : {T A : Type 0} → (A → Bool) → Reader T A → Reader T A
whole tall p = p >>= end_behind tall
