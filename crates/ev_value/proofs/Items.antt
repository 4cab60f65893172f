-- The laws of lists of items, over any type of values.
use Rattle.std.proofs.Common.{◌≡◌, List, [], ◌∷◌, ◌++◌, Bool, true, false, cond, ◌||◌, refl, sym, ap, ◌∙◌, append_assoc}
use Rattle.ev_value.specs.Item.{bind, one, all_of, has_fault, faults, values, only_faults, collect, EachValue}
use Rattle.ev_value.specs.declared.item.Fault.{Fault}
use Rattle.ev_value.specs.declared.item.Item.{Item}
use Rattle.ev_value.specs.declared.item.Item.TheVariants.{Value}
use Rattle.ev_value.specs.declared.item.Item.TheVariants as item

pub append_nil : {A : Type 0} (xs : List A) → xs ++ [] ≡ xs
append_nil [] = refl
append_nil (x ∷ xs) = ap (λ ys. x ∷ ys) (append_nil xs)

pub or_true : (b : Bool) → (b || true) ≡ true
or_true true = refl
or_true false = refl

-- ---- bind

pub bind_append : {A B : Type 0} (xs ys : List (Item A)) (f : A → List (Item B)) → bind (xs ++ ys) f ≡ bind xs f ++ bind ys f
bind_append [] ys f = refl
bind_append (Value a ∷ xs) ys f = ap (λ l. f a ++ l) (bind_append xs ys f) ∙ sym (append_assoc (f a) (bind xs f) (bind ys f))
bind_append (item.Fault e ∷ xs) ys f = ap (λ l. item.Fault e ∷ l) (bind_append xs ys f)

pub bind_assoc : {A B C : Type 0} (xs : List (Item A)) (f : A → List (Item B)) (g : B → List (Item C)) → bind (bind xs f) g ≡ bind xs (λ a. bind (f a) g)
bind_assoc [] f g = refl
bind_assoc (Value a ∷ xs) f g = bind_append (f a) (bind xs f) g ∙ ap (λ l. bind (f a) g ++ l) (bind_assoc xs f g)
bind_assoc (item.Fault e ∷ xs) f g = ap (λ l. item.Fault e ∷ l) (bind_assoc xs f g)

pub bind_one : {A B : Type 0} (a : A) (f : A → List (Item B)) → bind (one a) f ≡ f a
bind_one a f = append_nil (f a)

pub bind_unit : {A : Type 0} (xs : List (Item A)) → bind xs one ≡ xs
bind_unit [] = refl
bind_unit (Value a ∷ xs) = ap (λ l. Value a ∷ l) (bind_unit xs)
bind_unit (item.Fault e ∷ xs) = ap (λ l. item.Fault e ∷ l) (bind_unit xs)

pub bind_same : {A B : Type 0} (xs : List (Item A)) (f g : A → List (Item B)) → ((a : A) → f a ≡ g a) → bind xs f ≡ bind xs g
bind_same xs f g h = ap (bind xs) (λ i a. h a i)

pub bind_only_faults : {A B : Type 0} (es : List Fault) (f : A → List (Item B)) → bind (only_faults es) f ≡ only_faults es
bind_only_faults [] f = refl
bind_only_faults (e ∷ es) f = ap (λ l. item.Fault e ∷ l) (bind_only_faults es f)

-- ---- faults and values

pub has_fault_append : {A : Type 0} (xs ys : List (Item A)) → has_fault (xs ++ ys) ≡ (has_fault xs || has_fault ys)
has_fault_append [] ys = refl
has_fault_append (Value a ∷ xs) ys = has_fault_append xs ys
has_fault_append (item.Fault e ∷ xs) ys = refl

pub faults_append : {A : Type 0} (xs ys : List (Item A)) → faults (xs ++ ys) ≡ faults xs ++ faults ys
faults_append [] ys = refl
faults_append (Value a ∷ xs) ys = faults_append xs ys
faults_append (item.Fault e ∷ xs) ys = ap (λ l. e ∷ l) (faults_append xs ys)

pub values_append : {A : Type 0} (xs ys : List (Item A)) → values (xs ++ ys) ≡ values xs ++ values ys
values_append [] ys = refl
values_append (Value a ∷ xs) ys = ap (λ l. a ∷ l) (values_append xs ys)
values_append (item.Fault e ∷ xs) ys = values_append xs ys

pub values_all_of : {A : Type 0} (as' : List A) → values (all_of as') ≡ as'
values_all_of [] = refl
values_all_of (a ∷ as') = ap (λ l. a ∷ l) (values_all_of as')

pub all_of_clean : {A : Type 0} (as' : List A) → has_fault (all_of as') ≡ false
all_of_clean [] = refl
all_of_clean (a ∷ as') = all_of_clean as'

pub all_of_values : {A : Type 0} (xs : List (Item A)) → has_fault xs ≡ false → all_of (values xs) ≡ xs
all_of_values [] h = refl
all_of_values (Value a ∷ xs) h = ap (λ l. Value a ∷ l) (all_of_values xs h)
all_of_values (item.Fault e ∷ xs) h = cc

pub faults_only : (A : Type 0) (es : List Fault) → faults (only_faults {A = A} es) ≡ es
faults_only A [] = refl
faults_only A (e ∷ es) = ap (λ l. e ∷ l) (faults_only A es)

pub has_fault_only : {A : Type 0} (B : Type 0) (xs : List (Item A)) → has_fault (only_faults {A = B} (faults xs)) ≡ has_fault xs
has_fault_only B [] = refl
has_fault_only B (Value a ∷ xs) = has_fault_only B xs
has_fault_only B (item.Fault e ∷ xs) = refl

pub faults_clean : {A : Type 0} (xs : List (Item A)) → has_fault xs ≡ false → faults xs ≡ []
faults_clean [] h = refl
faults_clean (Value a ∷ xs) h = faults_clean xs h
faults_clean (item.Fault e ∷ xs) h = cc

-- a fault of a list is told by what is made of it
pub bind_faulty : {A B : Type 0} (xs : List (Item A)) (f : A → List (Item B)) → has_fault xs ≡ true → has_fault (bind xs f) ≡ true
bind_faulty [] f h = h
bind_faulty (Value a ∷ xs) f h = has_fault_append (f a) (bind xs f) ∙ ap (λ b. has_fault (f a) || b) (bind_faulty xs f h) ∙ or_true (has_fault (f a))
bind_faulty (item.Fault e ∷ xs) f h = refl

-- ---- a function that makes no fault

module _ {A B : Type 0} (f : A → List (Item B)) (clean : (a : A) → has_fault (f a) ≡ false) where
  pub clean_has_fault : (xs : List (Item A)) → has_fault (bind xs f) ≡ has_fault xs
  clean_has_fault [] = refl
  clean_has_fault (Value a ∷ xs) = has_fault_append (f a) (bind xs f) ∙ ap (λ b. b || has_fault (bind xs f)) (clean a) ∙ clean_has_fault xs
  clean_has_fault (item.Fault e ∷ xs) = refl

  pub clean_faults : (xs : List (Item A)) → faults (bind xs f) ≡ faults xs
  clean_faults [] = refl
  clean_faults (Value a ∷ xs) = faults_append (f a) (bind xs f) ∙ ap (λ l. l ++ faults (bind xs f)) (faults_clean (f a) (clean a)) ∙ clean_faults xs
  clean_faults (item.Fault e ∷ xs) = ap (λ l. e ∷ l) (clean_faults xs)

pub values_bind : {A B : Type 0} (f : A → List (Item B)) (xs : List (Item A)) → values (bind xs f) ≡ values (bind (all_of (values xs)) f)
values_bind f [] = refl
values_bind f (Value a ∷ xs) = values_append (f a) (bind xs f) ∙ ap (λ l. values (f a) ++ l) (values_bind f xs) ∙ sym (values_append (f a) (bind (all_of (values xs)) f))
values_bind f (item.Fault e ∷ xs) = values_bind f xs

pub collect_bind : {A B C : Type 0} (g : List B → List (Item C)) (f : A → List (Item B)) (clean : (a : A) → has_fault (f a) ≡ false) (xs : List (Item A))
    → collect g (bind xs f) ≡ collect (λ vs. g (values (bind (all_of vs) f))) xs
collect_bind g f clean xs = λ i. cond (clean_has_fault f clean xs i) (only_faults (clean_faults f clean xs i)) (g (values_bind f xs i))

pub collect_all_of : {A B : Type 0} (f : List A → List (Item B)) (as' : List A) → collect f (all_of as') ≡ f as'
collect_all_of f as' = ap (λ b. cond b (only_faults (faults (all_of as'))) (f (values (all_of as')))) (all_of_clean as') ∙ ap f (values_all_of as')

-- ---- what holds of each value

module _ {A : Type 0} (P : A → Type 0) where
  pub each_append : (xs ys : List (Item A)) → EachValue P xs → EachValue P ys → EachValue P (xs ++ ys)
  each_append [] ys h k = k
  each_append (Value a ∷ xs) ys h k = (h.0, each_append xs ys h.1 k)
  each_append (item.Fault e ∷ xs) ys h k = each_append xs ys h k

  pub each_only_faults : (es : List Fault) → EachValue P (only_faults es)
  each_only_faults [] = tt
  each_only_faults (e ∷ es) = each_only_faults es

pub each_bind : {A B : Type 0} (P : A → Type 0) (Q : B → Type 0) (xs : List (Item A)) (f : A → List (Item B)) → EachValue P xs → ((a : A) → P a → EachValue Q (f a)) → EachValue Q (bind xs f)
each_bind P Q [] f h k = tt
each_bind P Q (Value a ∷ xs) f h k = each_append Q (f a) (bind xs f) (k a h.0) (each_bind P Q xs f h.1 k)
each_bind P Q (item.Fault e ∷ xs) f h k = each_bind P Q xs f h k

pub bind_same_where : {A B : Type 0} (P : A → Type 0) (xs : List (Item A)) (f g : A → List (Item B)) → EachValue P xs → ((a : A) → P a → f a ≡ g a) → bind xs f ≡ bind xs g
bind_same_where P [] f g h k = refl
bind_same_where P (Value a ∷ xs) f g h k = λ i. k a h.0 i ++ bind_same_where P xs f g h.1 k i
bind_same_where P (item.Fault e ∷ xs) f g h k = ap (λ l. item.Fault e ∷ l) (bind_same_where P xs f g h k)
