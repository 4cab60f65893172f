-- Which lists of tokens spell which values, and how such languages are put together.
use Rattle.std.specs.Prelude.{◌≡◌, ◌-◌, ◌<◌, ℕ, zero, suc, Bool, false, List, [], ◌∷◌, ◌++◌, length, Option, Some, ◌⊎◌}

-- A language says which tokens spell which value, where the limits are kept at the first so many tokens.
abbrev pub Lang : Type 0 → Type 0 → Type 1
Lang T A = ℕ → List T → A → Type 0

-- No token at all spells the value.
abbrev pub Empty : {T A : Type 0} → A → Lang T A
Empty a n ts b = (ts ≡ []) × (b ≡ a)

-- Nothing is spelled.
abbrev pub Never : {T A : Type 0} → Lang T A
Never n ts a = ⊥

-- One token that stands for a value.
abbrev pub One : {T A : Type 0} → (T → Option A) → Lang T A
One f n ts a = (t : _) × (ts ≡ t ∷ []) × (f t ≡ Some a)

-- One token that stands for a value. Where it passes a limit, as `over` says, the limits are not kept here.
abbrev pub OneWithin : {T A : Type 0} → Bool → (T → Option A) → Lang T A
OneWithin over f n ts a = (0 < n → over ≡ false) × One f n ts a

-- First a value of L, and behind it what M says of that value.
pub record Then {T A B : Type 0} (L : Lang T A) (M : A → Lang T B) (n : ℕ) (ts : List T) (b : B) : Type 0 where
  pub front : List T
  pub back : List T
  pub value : A
  pub parts : ts ≡ front ++ back
  pub first : L n front value
  pub second : M value (n - length front) back b

infixl 10 ◌>>=◌
abbrev pub ◌>>=◌ : {T A B : Type 0} → Lang T A → (A → Lang T B) → Lang T B
L >>= M = Then L M

infixl 10 ◌>>◌
abbrev pub ◌>>◌ : {T A B : Type 0} → Lang T A → Lang T B → Lang T B
L >> M = Then L (λ _. M)

-- One of two.
abbrev pub Either : {T A : Type 0} → Lang T A → Lang T A → Lang T A
Either L M n ts a = L n ts a ⊎ M n ts a

-- So many steps, each from the value so far.
abbrev pub Links : {T A : Type 0} → (A → Lang T A) → ℕ → A → Lang T A
Links S zero a = Empty a
Links S (suc k) a = Then (S a) (Links S k)

-- Any number of steps, each from the value so far: what is grouped from the left.
abbrev pub Chain : {T A : Type 0} → (A → Lang T A) → A → Lang T A
Chain S a n ts e = (k : ℕ) × Links S k a n ts e

-- What a step of a loop gives: a value to go on from, or the loop's own.
pub data Step (A R : Type 0) : Type 0 where
  More : A → Step A R
  Done : R → Step A R

-- What follows a step: the rest of the loop, or nothing.
abbrev pub Onward : {T A R : Type 0} → (A → Lang T R) → Step A R → Lang T R
Onward L (More a) = L a
Onward L (Done r) = Empty r

-- So many steps, of which only the last says that the loop is over.
abbrev pub Turns : {T A R : Type 0} → (A → Lang T (Step A R)) → ℕ → A → Lang T R
Turns S zero a = Never
Turns S (suc k) a = Then (S a) (Onward (Turns S k))

-- Steps, of which only the last says that the loop is over.
abbrev pub Loop : {T A R : Type 0} → (A → Lang T (Step A R)) → A → Lang T R
Loop S a n ts r = (k : ℕ) × Turns S k a n ts r

-- Behind the items so far: a comma and an item, a comma that ends the list, or nothing.
abbrev pub Item : {T A B : Type 0} → (B → Bool) → (T → Option (Unit {0})) → Lang T A → (B → A → B) → B → Lang T (Step B B)
Item over comma L add all = Either (OneWithin (over all) comma >> Either (do item ← L; Empty (More (add all item))) (Empty (Done all))) (Empty (Done all))

-- Items with commas between them, and maybe a last comma. `start` takes the first item, and `add` each further one.
-- A comma passes a limit where `over` says so of the items before it.
abbrev pub Items : {T A B : Type 0} → (B → Bool) → (T → Option (Unit {0})) → Lang T A → (A → B) → (B → A → B) → Lang T B
Items over comma L start add = do
  first ← L
  Loop (Item over comma L add) (start first)
