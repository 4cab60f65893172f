-- What a list of tokens begins with, and what a text of a language begins with.
use Rattle.std.proofs.Common.{◌≡◌, ℕ, zero, suc, ◌-◌, ◌<◌, Bool, true, false, not, ◌||◌, List, [], ◌∷◌, ◌++◌, length, Option, Some, refl, sym, ap, subst, ◌∙◌, append_assoc, arith, inl, inr, ◌⊎◌}
use Rattle.exact.specs.Language.{Lang, Empty, Never, One, OneWithin, Then, Either, Links, Chain, Step, More, Done, Onward, Turns, Loop}
use Rattle.exact.specs.Reading.{heads, inside}

-- Both lists begin with the same token, or both are at their end.
abbrev pub SameHead : {T : Type 0} → List T → List T → Type 0
SameHead [] [] = Unit {0}
SameHead [] (y ∷ b) = ⊥
SameHead (x ∷ a) [] = ⊥
SameHead (x ∷ a) (y ∷ b) = x ≡ y

-- Both lists begin with the same token.
abbrev pub SameToken : {T : Type 0} → List T → List T → Type 0
SameToken [] b = ⊥
SameToken (x ∷ a) [] = ⊥
SameToken (x ∷ a) (y ∷ b) = x ≡ y

pub same_head_refl : {T : Type 0} (r : List T) → SameHead r r
same_head_refl [] = tt
same_head_refl (x ∷ r) = refl

pub same_head_behind : {T : Type 0} (front r s : List T) → SameHead r s → SameHead (front ++ r) (front ++ s)
same_head_behind [] r s h = h
same_head_behind (x ∷ front) r s h = refl

pub same_head_of : {T : Type 0} (a b : List T) (r : List T) → a ≡ b → SameHead b r → SameHead a r
same_head_of a b r e h = subst (λ (z : List _). SameHead z r) (sym e) h

pub same_token_longer : {T : Type 0} (a b s : List T) → SameToken a b → SameToken a (b ++ s)
same_token_longer [] b s h = absurd h
same_token_longer (x ∷ a) [] s h = absurd h
same_token_longer (x ∷ a) (y ∷ b) s h = h

pub heads_same : {T : Type 0} (set : T → Bool) (r s : List T) → SameHead r s → heads set r ≡ heads set s
heads_same set [] [] h = refl
heads_same set [] (y ∷ s) h = absurd h
heads_same set (x ∷ r) [] h = absurd h
heads_same set (x ∷ r) (y ∷ s) h = ap set h

-- the head behind the same front
pub heads_again : {T : Type 0} (set : T → Bool) (b : Bool) (ts front rest r : List T) → heads set ts ≡ b → ts ≡ front ++ rest → SameHead rest r → heads set (front ++ r) ≡ b
heads_again set b ts front rest r h parts same =
    sym (heads_same set (front ++ rest) (front ++ r) (same_head_behind front rest r same)) ∙ sym (ap (λ (z : List _). heads set z) parts) ∙ h

-- The list begins with a token of the set.
abbrev pub BeginsIn : {T : Type 0} → (T → Bool) → List T → Type 0
BeginsIn first [] = ⊥
BeginsIn first (t ∷ ts) = first t ≡ true

-- Each text of the language begins with a token of the set.
pub record Begins {T A : Type 0} (first : T → Bool) (L : Lang T A) : Type 0 where
  pub at : (n : ℕ) (x : List T) (a : A) → L n x a → BeginsIn first x

-- No text of the language, with what may stand behind it, begins with a token of the set. What may stand behind it is not in go.
pub record Avoids {T A : Type 0} (set : T → Bool) (L : Lang T A) (go : A → T → Bool) : Type 0 where
  pub at : (n : ℕ) (y : List T) (a : A) (rest : List T) → L n y a → heads (go a) rest ≡ false → heads set (y ++ rest) ≡ false

-- Each token of the one set is missing from the other.
abbrev pub Apart : {T : Type 0} → (T → Bool) → (T → Bool) → Type 0
Apart one other = (t : _) → one t ≡ true → other t ≡ false

-- What is missing from the one set is missing from the other.
abbrev pub Covers : {T : Type 0} → (T → Bool) → (T → Bool) → Type 0
Covers one other = (t : _) → one t ≡ false → other t ≡ false

-- No token.
abbrev pub never : {T : Type 0} → T → Bool
never t = false

pub heads_never : {T : Type 0} (r : List T) → heads never r ≡ false
heads_never [] = refl
heads_never (t ∷ r) = refl

pub begins_long : {T : Type 0} (first : T → Bool) (x : List T) → BeginsIn first x → 0 < length x
begins_long first [] h = absurd h
begins_long first (t ∷ x) h = omega arith

pub begins_longer : {T : Type 0} (first : T → Bool) (x y : List T) → BeginsIn first x → BeginsIn first (x ++ y)
begins_longer first [] y h = absurd h
begins_longer first (t ∷ x) y h = h

pub heads_begins : {T : Type 0} (first : T → Bool) (x r : List T) → BeginsIn first x → heads first (x ++ r) ≡ true
heads_begins first [] r h = absurd h
heads_begins first (t ∷ x) r h = h

pub heads_apart : {T : Type 0} (first set : T → Bool) → Apart first set → (x r : List T) → BeginsIn first x → heads set (x ++ r) ≡ false
heads_apart first set none [] r h = absurd h
heads_apart first set none (t ∷ x) r h = none t h

pub heads_less : {T : Type 0} (set less : T → Bool) → Covers set less → (r : List T) → heads set r ≡ false → heads less r ≡ false
heads_less set less sub [] h = refl
heads_less set less sub (t ∷ r) h = sub t h

-- ---- what texts begin with

pub begins_one : {T A : Type 0} {first : T → Bool} (f : T → Option A) → ((t : T) (a : A) → f t ≡ Some a → first t ≡ true) → Begins first (One f)
begins_one f sub = record { at = λ n x a l. rw l.1 (sub l.0 a l.2) }

pub begins_one_within : {T A : Type 0} {first : T → Bool} (over : Bool) (f : T → Option A) → ((t : T) (a : A) → f t ≡ Some a → first t ≡ true) → Begins first (OneWithin over f)
begins_one_within over f sub = record { at = λ n x a l. rw l.1.1 (sub l.1.0 a l.1.2) }

pub begins_then : {T A B : Type 0} {first : T → Bool} {L : Lang T A} {M : A → Lang T B} → Begins first L → Begins first (Then L M)
begins_then {T} {A} {B} {first} {L} {M} l = record { at = λ n x b t. rw t.parts (begins_longer first t.front t.back (l.at n t.front t.value t.first)) }

pub begins_either : {T A : Type 0} {first : T → Bool} {L M : Lang T A} → Begins first L → Begins first M → Begins first (Either L M)
begins_either {T} {A} {first} {L} {M} l m = record { at = at }
  where
    at : (n : ℕ) (x : List T) (a : A) → Either L M n x a → BeginsIn first x
    at n x a (inl h) = l.at n x a h
    at n x a (inr h) = m.at n x a h

pub begins_never : {T A : Type 0} {first : T → Bool} → Begins first (Never {T = T} {A = A})
begins_never = record { at = λ n x a l. absurd l }

pub begins_in : {T A : Type 0} {first more : T → Bool} {L : Lang T A} → ((t : T) → first t ≡ true → more t ≡ true) → Begins first L → Begins more L
begins_in {T} {A} {first} {more} {L} sub l = record { at = λ n x a h. widen x (l.at n x a h) }
  where
    widen : (x : List T) → BeginsIn first x → BeginsIn more x
    widen [] h = absurd h
    widen (t ∷ x) h = sub t h

-- The texts of the one begin in a set, those of the other in another.
pub begins_or : {T A : Type 0} {first second : T → Bool} {L M : Lang T A} → Begins first L → Begins second M → Begins (λ t. first t || second t) (Either L M)
begins_or {T} {A} {first} {second} {L} {M} l m =
    begins_either (begins_in (λ t h. or_of (first t) (second t) (inl h)) l) (begins_in (λ t h. or_of (first t) (second t) (inr h)) m)
  where
    or_of : (a b : Bool) → (a ≡ true) ⊎ (b ≡ true) → (a || b) ≡ true
    or_of true b h = refl
    or_of false b (inl h) = absurd (let bad : false ≡ true = h in cc)
    or_of false b (inr h) = h

pub begins_loop : {T A R : Type 0} {first : T → Bool} {S : A → Lang T (Step A R)} → ((a : A) → Begins first (S a)) → (a : A) → Begins first (Loop S a)
begins_loop {T} {A} {R} {first} {S} s a = record { at = λ n x r l. turns l.0 n x r l.1 }
  where
    turns : (k n : ℕ) (x : List T) (r : R) → Turns S k a n x r → BeginsIn first x
    turns zero n x r t = absurd t
    turns (suc k) n x r t = (begins_then (s a)).at n x r t

-- ---- what texts and what stands behind them do not begin with

pub avoids_begins : {T A : Type 0} {first set : T → Bool} {L : Lang T A} {go : A → T → Bool} → Begins first L → Apart first set → Avoids set L go
avoids_begins {T} {A} {first} {set} {L} {go} l none = record { at = λ n y a rest h stop. heads_apart first set none y rest (l.at n y a h) }

pub not_in : {T : Type 0} (set : T → Bool) → Apart (inside set) set
not_in {T} set t h = cases (set t) refl
  where
    cases : (b : Bool) → set t ≡ b → set t ≡ false
    cases true so = let bad : false ≡ true = sym (ap not so) ∙ h in absurd cc
    cases false so = so

-- What begins with no token of the set.
pub avoids_begun : {T A : Type 0} {set : T → Bool} {L : Lang T A} {go : A → T → Bool} → Begins (inside set) L → Avoids set L go
avoids_begun {T} {A} {set} {L} {go} l = avoids_begins l (not_in set)

pub avoids_none : {T A : Type 0} {L : Lang T A} {go : A → T → Bool} → Avoids never L go
avoids_none = record { at = λ n y a rest h stop. heads_never (y ++ rest) }

pub avoids_empty : {T A : Type 0} {set : T → Bool} {go : A → T → Bool} (v : A) → Covers (go v) set → Avoids set (Empty v) go
avoids_empty {T} {A} {set} {go} v sub = record { at = λ n y a rest m stop. rw m.0 (heads_less (go v) set sub rest (subst (λ (z : A). heads (go z) rest ≡ false) m.1 stop)) }

pub avoids_never : {T A : Type 0} {set : T → Bool} {go : A → T → Bool} → Avoids set (Never {T = T} {A = A}) go
avoids_never = record { at = λ n y a rest m stop. absurd m }

pub avoids_either : {T A : Type 0} {set : T → Bool} {L M : Lang T A} {go : A → T → Bool} → Avoids set L go → Avoids set M go → Avoids set (Either L M) go
avoids_either {T} {A} {set} {L} {M} {go} l m = record { at = at }
  where
    at : (n : ℕ) (y : List T) (a : A) (rest : List T) → Either L M n y a → heads (go a) rest ≡ false → heads set (y ++ rest) ≡ false
    at n y a rest (inl h) stop = l.at n y a rest h stop
    at n y a rest (inr h) stop = m.at n y a rest h stop

pub avoids_then : {T A B : Type 0} {set : T → Bool} {L : Lang T A} {M : A → Lang T B} {go : B → T → Bool} → Avoids set L (λ _. set) → ((a : A) → Avoids set (M a) go) → Avoids set (Then L M) go
avoids_then {T} {A} {B} {set} {L} {M} {go} l m = record {
  at = λ n y b rest t stop.
      ap (λ (z : List T). heads set (z ++ rest)) t.parts ∙ ap (λ (z : List T). heads set z) (append_assoc t.front t.back rest)
      ∙ l.at n t.front t.value (t.back ++ rest) t.first ((m t.value).at (n - length t.front) t.back b rest t.second stop);
}

pub avoids_chain : {T A : Type 0} {set : T → Bool} {S : A → Lang T A} {go : A → T → Bool} → ((a : A) → Avoids set (S a) (λ _. set)) → ((a : A) → Covers (go a) set) → (a : A) → Avoids set (Chain S a) go
avoids_chain {T} {A} {set} {S} {go} s sub a = record { at = λ n y e rest l stop. (links l.0 a).at n y e rest l.1 stop }
  where
    links : (k : ℕ) (a : A) → Avoids set (Links S k a) go
    links zero a = avoids_empty a (sub a)
    links (suc k) a = avoids_then (s a) (links k)

pub avoids_loop : {T A R : Type 0} {set : T → Bool} {S : A → Lang T (Step A R)} {go : R → T → Bool} → ((a : A) → Avoids set (S a) (λ _. set)) → ((r : R) → Covers (go r) set) → (a : A) → Avoids set (Loop S a) go
avoids_loop {T} {A} {R} {set} {S} {go} s sub a = record { at = λ n y e rest l stop. (turns l.0 a).at n y e rest l.1 stop }
  where
    onwards : (k : ℕ) → ((a : A) → Avoids set (Turns S k a) go) → (o : Step A R) → Avoids set (Onward (Turns S k) o) go
    onwards k rest (More b) = rest b
    onwards k rest (Done r) = avoids_empty r (sub r)

    turns : (k : ℕ) (a : A) → Avoids set (Turns S k a) go
    turns zero a = avoids_never
    turns (suc k) a = avoids_then (s a) (onwards k (turns k))
