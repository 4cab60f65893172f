-- Two languages that spell the same, and the ways to put languages together that do.
use Rattle.std.proofs.Common.{◌≡◌, ℕ, ◌-◌, List, [], ◌∷◌, ◌++◌, length, Option, Some, refl, sym, ap, subst, ◌∙◌, append_assoc, arith, inl, inr}
use Rattle.std.proofs.lemmas.List.{length-append}
use Rattle.exact.specs.Language.{Lang, Empty, One, Then, Either}
use Rattle.exact.proofs.Heads.{Begins}

-- Each text that the one spells for a value the other spells for it, and the other way round.
pub record Alike {T A : Type 0} (L M : Lang T A) : Type 0 where
  pub to : (n : ℕ) (x : List T) (a : A) → L n x a → M n x a
  pub back : (n : ℕ) (x : List T) (a : A) → M n x a → L n x a

pub alike_same : {T A : Type 0} {L : Lang T A} → Alike L L
alike_same = record { to = λ n x a l. l; back = λ n x a l. l }

pub alike_chain : {T A : Type 0} {L M N : Lang T A} → Alike L M → Alike M N → Alike L N
alike_chain p q = record { to = λ n x a l. q.to n x a (p.to n x a l); back = λ n x a l. p.back n x a (q.back n x a l) }

pub begins_alike : {T A : Type 0} {first : T → _} {L M : Lang T A} → Alike L M → Begins first L → Begins first M
begins_alike p b = record { at = λ n x a l. b.at n x a (p.back n x a l) }

either_to : {T A : Type 0} {L M P Q : Lang T A} → ((n : ℕ) (x : List T) (a : A) → L n x a → P n x a) → ((n : ℕ) (x : List T) (a : A) → M n x a → Q n x a) → (n : ℕ) (x : List T) (a : A) → Either L M n x a → Either P Q n x a
either_to p q n x a (inl l) = inl (p n x a l)
either_to p q n x a (inr m) = inr (q n x a m)

pub alike_either : {T A : Type 0} {L M P Q : Lang T A} → Alike L P → Alike M Q → Alike (Either L M) (Either P Q)
alike_either p q = record { to = either_to p.to q.to; back = either_to p.back q.back }

behind_to : {T A B : Type 0} {L : Lang T A} {M N : A → Lang T B} → ((a : A) (n : ℕ) (x : List T) (b : B) → M a n x b → N a n x b) → (n : ℕ) (x : List T) (b : B) → Then L M n x b → Then L N n x b
behind_to p n x b t = record { front = t.front; back = t.back; value = t.value; parts = t.parts; first = t.first; second = p t.value (n - length t.front) t.back b t.second }

-- Behind the same value the same may stand.
pub alike_behind : {T A B : Type 0} {L : Lang T A} {M N : A → Lang T B} → ((a : A) → Alike (M a) (N a)) → Alike (Then L M) (Then L N)
alike_behind p = record { to = behind_to (λ a. (p a).to); back = behind_to (λ a. (p a).back) }

rest_of_rest : {T : Type 0} (n : ℕ) (x y : List T) → n - length (x ++ y) ≡ n - length x - length y
rest_of_rest n x y = omega (arith, length-append x y)

nothing_before : (n : ℕ) → n - 0 ≡ n
nothing_before n = omega arith

module _ {T A B C : Type 0} (L : Lang T A) (M : A → Lang T B) (N : B → Lang T C) where
  assoc_to : (n : ℕ) (x : List T) (c : C) → Then (Then L M) N n x c → Then L (λ a. Then (M a) N) n x c
  assoc_to n x c t =
      let s = t.first in
      record {
        front = s.front;
        back = s.back ++ t.back;
        value = s.value;
        parts = t.parts ∙ ap (λ (z : List T). z ++ t.back) s.parts ∙ append_assoc s.front s.back t.back;
        first = s.first;
        second = record {
          front = s.back;
          back = t.back;
          value = t.value;
          parts = refl;
          first = s.second;
          second = subst (λ (k : ℕ). N t.value k t.back c) (ap (λ (z : List T). n - length z) s.parts ∙ rest_of_rest n s.front s.back) t.second;
        };
      }

  assoc_back : (n : ℕ) (x : List T) (c : C) → Then L (λ a. Then (M a) N) n x c → Then (Then L M) N n x c
  assoc_back n x c t =
      let s = t.second in
      record {
        front = t.front ++ s.front;
        back = s.back;
        value = s.value;
        parts = t.parts ∙ ap (λ (z : List T). t.front ++ z) s.parts ∙ sym (append_assoc t.front s.front s.back);
        first = record { front = t.front; back = s.front; value = t.value; parts = refl; first = t.first; second = s.first };
        second = subst (λ (k : ℕ). N s.value k s.back c) (sym (rest_of_rest n t.front s.front)) s.second;
      }

  -- Brackets round three parts.
  pub alike_assoc : Alike (Then (Then L M) N) (Then L (λ a. Then (M a) N))
  alike_assoc = record { to = assoc_to; back = assoc_back }

module _ {T A B : Type 0} (v : A) (M : A → Lang T B) where
  unit_to : (n : ℕ) (x : List T) (b : B) → Then (Empty v) M n x b → M v n x b
  unit_to n x b t =
      let at : M v (n - length t.front) t.back b = subst (λ (a : A). M a (n - length t.front) t.back b) t.first.1 t.second in
      let all : x ≡ t.back = t.parts ∙ ap (λ (z : List T). z ++ t.back) t.first.0 in
      let number : n - length t.front ≡ n = ap (λ (z : List T). n - length z) t.first.0 ∙ nothing_before n in
      subst (λ (z : List T). M v n z b) (sym all) (subst (λ (k : ℕ). M v k t.back b) number at)

  unit_back : (n : ℕ) (x : List T) (b : B) → M v n x b → Then (Empty v) M n x b
  unit_back n x b m = record { front = []; back = x; value = v; parts = refl; first = (refl, refl); second = subst (λ (k : ℕ). M v k x b) (sym (nothing_before n)) m }

  -- No token before what stands behind it.
  pub alike_unit : Alike (Then (Empty v) M) (M v)
  alike_unit = record { to = unit_to; back = unit_back }

module _ {T A B : Type 0} (L P : Lang T A) (M : A → Lang T B) where
  split_to : (n : ℕ) (x : List T) (b : B) (f k : List T) (a : A) → x ≡ f ++ k → Either L P n f a → M a (n - length f) k b → Either (Then L M) (Then P M) n x b
  split_to n x b f k a parts (inl l) m = inl (record { front = f; back = k; value = a; parts = parts; first = l; second = m })
  split_to n x b f k a parts (inr p) m = inr (record { front = f; back = k; value = a; parts = parts; first = p; second = m })

  split_back : (n : ℕ) (x : List T) (b : B) → Either (Then L M) (Then P M) n x b → Then (Either L P) M n x b
  split_back n x b (inl t) = record { front = t.front; back = t.back; value = t.value; parts = t.parts; first = inl t.first; second = t.second }
  split_back n x b (inr t) = record { front = t.front; back = t.back; value = t.value; parts = t.parts; first = inr t.first; second = t.second }

  -- One of two, and what stands behind it.
  pub alike_split : Alike (Then (Either L P) M) (Either (Then L M) (Then P M))
  alike_split = record { to = λ n x b t. split_to n x b t.front t.back t.value t.parts t.first t.second; back = split_back }

-- Another value for each value, and what stands behind it.
pub alike_map : {T A B C : Type 0} (L : Lang T A) (f : A → B) (N : B → Lang T C) → Alike (Then (Then L (λ a. Empty (f a))) N) (Then L (λ a. N (f a)))
alike_map L f N = alike_chain (alike_assoc L (λ a. Empty (f a)) N) (alike_behind (λ a. alike_unit (f a) N))

-- The first token may be read as something else, where the same may stand behind it.
pub swapped : {T A B C : Type 0} {f : T → Option A} {g : T → Option B} {M : A → Lang T C} {N : B → Lang T C}
    → ((t : T) (a : A) → f t ≡ Some a → (b : B) × (g t ≡ Some b) × ((n : ℕ) (x : List T) (c : C) → M a n x c → N b n x c)) → (n : ℕ) (x : List T) (c : C) → Then (One f) M n x c → Then (One g) N n x c
swapped {T} {A} {B} {C} {f} {g} {M} {N} p n x c t =
    let one = t.first in let other = p one.0 t.value one.2 in
    record { front = t.front; back = t.back; value = other.0; parts = t.parts; first = (one.0, one.1, other.1); second = other.2 (n - length t.front) t.back c t.second }

-- The same with the first token at hand.
pub led : {T A C : Type 0} (f : T → Option A) (M : A → Lang T C) (n : ℕ) (x front back : List T) (c : C) (t : T) (a : A) → x ≡ front ++ back → front ≡ t ∷ [] → f t ≡ Some a → M a (n - length front) back c → Then (One f) M n x c
led f M n x front back c t a parts one known m = record { front = front; back = back; value = a; parts = parts; first = (t, one, known); second = m }
