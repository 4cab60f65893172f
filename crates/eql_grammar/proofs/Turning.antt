-- Languages one behind the other, taken apart and put together again; and a loop as its first step and the rest.
use Rattle.std.proofs.Common.{◌≡◌, ℕ, zero, suc, ◌+◌, ◌-◌, Bool, List, [], ◌∷◌, ◌++◌, length, Option, Some, refl, sym, ap, subst, ◌∙◌, append_assoc, arith}
use Rattle.std.proofs.lemmas.List.{length-append}
use Rattle.exact.specs.Language.{Lang, Empty, OneWithin, Then, Step, More, Done, Onward, Turns, Loop}
use Rattle.exact.proofs.Heads.{Begins, BeginsIn, begins_then}
use Rattle.exact.proofs.Exact.{Inhabited}

-- What the one language spells the other does.
abbrev pub Within : {T A : Type 0} → Lang T A → Lang T A → Type 0
Within L M = (n : ℕ) (x : List _) (a : _) → L n x a → M n x a

pub then_within : {T A B : Type 0} {L : Lang T A} {M N : A → Lang T B} → ((a : A) → Within (M a) (N a)) → Within (Then L M) (Then L N)
then_within sub n x b t = record { front = t.front; back = t.back; value = t.value; parts = t.parts; first = t.first; second = sub t.value (n - length t.front) t.back b t.second }

pub first_within : {T A B : Type 0} {L K : Lang T A} {M : A → Lang T B} → Within L K → Within (Then L M) (Then K M)
first_within sub n x b t = record { front = t.front; back = t.back; value = t.value; parts = t.parts; first = sub n t.front t.value t.first; second = t.second }

left_twice : (n a b : ℕ) → n - (a + b) ≡ n - a - b
left_twice n a b = omega arith

pub regroup_right : {T A B C : Type 0} (L : Lang T A) (M : A → Lang T B) (K : B → Lang T C) → Within (Then (Then L M) K) (Then L (λ a. Then (M a) K))
regroup_right L M K n x c t = record {
  front = t.first.front;
  back = t.first.back ++ t.back;
  value = t.first.value;
  parts = t.parts ∙ ap (λ (z : List _). z ++ t.back) t.first.parts ∙ append_assoc t.first.front t.first.back t.back;
  first = t.first.first;
  second = record {
    front = t.first.back;
    back = t.back;
    value = t.value;
    parts = refl;
    first = t.first.second;
    second = subst (λ (k : ℕ). K t.value k t.back c) (ap (λ (z : List _). n - length z) t.first.parts ∙ ap (λ (k : ℕ). n - k) (length-append t.first.front t.first.back) ∙ left_twice n (length t.first.front) (length t.first.back)) t.second;
  };
}

pub regroup_left : {T A B C : Type 0} (L : Lang T A) (M : A → Lang T B) (K : B → Lang T C) → Within (Then L (λ a. Then (M a) K)) (Then (Then L M) K)
regroup_left L M K n x c t = record {
  front = t.front ++ t.second.front;
  back = t.second.back;
  value = t.second.value;
  parts = t.parts ∙ ap (λ (z : List _). t.front ++ z) t.second.parts ∙ sym (append_assoc t.front t.second.front t.second.back);
  first = record { front = t.front; back = t.second.front; value = t.value; parts = refl; first = t.first; second = t.second.first };
  second = subst (λ (k : ℕ). K t.second.value k t.second.back c) (sym (ap (λ (k : ℕ). n - k) (length-append t.front t.second.front) ∙ left_twice n (length t.front) (length t.second.front))) t.second.second;
}

none_left : (n : ℕ) → n - 0 ≡ n
none_left n = omega arith

pub empty_before : {T A B : Type 0} (a : A) (K : A → Lang T B) → Within (K a) (Then (Empty a) K)
empty_before a K n x b k = record { front = []; back = x; value = a; parts = refl; first = (refl, refl); second = subst (λ (m : ℕ). K a m x b) (sym (none_left n)) k }

pub empty_gone : {T A B : Type 0} (a : A) (K : A → Lang T B) → Within (Then (Empty a) K) (K a)
empty_gone {T} {A} {B} a K n x b t =
    subst (λ (z : List T). K a n z b) (sym (t.parts ∙ ap (λ (z : List T). z ++ t.back) t.first.0))
    (subst (λ (m : ℕ). K a m t.back b) (ap (λ (z : List T). n - length z) t.first.0 ∙ none_left n) (subst (λ (v : A). K v (n - length t.front) t.back b) t.first.1 t.second))

-- ---- loops

module _ {T A R : Type 0} (S : A → Lang T (Step A R)) where
  onward_turns : (v : Step A R) → Within (Onward (Loop S) v) (λ n x r. (k : ℕ) × Onward (Turns S k) v n x r)
  onward_turns (More a) n x r l = l
  onward_turns (Done d) n x r l = (zero, l)

  turns_onward : (k : ℕ) (v : Step A R) → Within (Onward (Turns S k) v) (Onward (Loop S) v)
  turns_onward k (More a) n x r l = (k, l)
  turns_onward k (Done d) n x r l = l

  -- a step and the rest are a loop
  pub loop_fold : (a : A) → Within (Then (S a) (Onward (Loop S))) (Loop S a)
  loop_fold a n x r t =
      let s = onward_turns t.value (n - length t.front) t.back r t.second in
      (suc s.0, record { front = t.front; back = t.back; value = t.value; parts = t.parts; first = t.first; second = s.1 })

  -- What begins its first step begins the loop.
  pub loop_begins : {first : T → Bool} (a : A) → Begins first (S a) → Begins first (Loop S a)
  loop_begins {first} a s = record { at = λ n x r l. turns l.0 n x r l.1 }
    where
      turns : (k n : ℕ) (x : List T) (r : R) → Turns S k a n x r → BeginsIn first x
      turns zero n x r t = absurd t
      turns (suc k) n x r t = (begins_then s).at n x r t

  -- Some text of a step, and some of what follows it.
  pub some_turn : (a : A) (x : List T) (v : Step A R) → S a 0 x v → Inhabited (Onward (Loop S) v) → Inhabited (Loop S a)
  some_turn a x v s rest = record {
    text = x ++ rest.text;
    value = rest.value;
    spelled = loop_fold a 0 (x ++ rest.text) rest.value (record { front = x; back = rest.text; value = v; parts = refl; first = s; second = subst (λ (k : ℕ). Onward (Loop S) v k rest.text rest.value) (sym (nothing (length x))) rest.spelled });
  }
    where
      nothing : (k : ℕ) → 0 - k ≡ 0
      nothing k = omega arith

-- some text, and another value for its value
pub mapped : {T A B : Type 0} {L : Lang T A} (f : A → B) (l : Inhabited L) → Then L (λ a. Empty (f a)) 0 (l.text ++ []) (f l.value)
mapped f l = record { front = l.text; back = []; value = l.value; parts = refl; first = l.spelled; second = (refl, refl) }

-- a token, and some text
pub led : {T A B : Type 0} {over : Bool} {M : A → Lang T B} (f : T → Option A) (t : T) (a : A) (x : List T) (b : B) → f t ≡ Some a → M a 0 x b → Then (OneWithin over f) M 0 (t ∷ x) b
led f t a x b known m = record { front = t ∷ []; back = x; value = a; parts = refl; first = (λ lt. absurd (omega arith), (t, refl, known)); second = m }
