-- The laws of lists that stand for others, over any types of values.
use Rattle.std.proofs.Common.{◌≡◌, ℕ, zero, suc, List, [], ◌∷◌, ◌++◌, Bool, true, false, cond, ◌||◌, take, drop, length, refl, sym, ap, ◌∙◌, subst, true≢false}
use Rattle.ev_value.specs.Item.{bind, one, all_of, has_fault, faults, values, only_faults, collect, both, EachValue}
use Rattle.ev_value.specs.Stands.{InPlace, in_end, in_value, in_fault, left_out, StandsFor, Alike}
use Rattle.ev_value.specs.declared.item.Fault.{Fault}
use Rattle.ev_value.specs.declared.item.Item.{Item}
use Rattle.ev_value.specs.declared.item.Item.TheVariants.{Value}
use Rattle.ev_value.specs.declared.item.Item.TheVariants as item
use Rattle.ev_value.proofs.Items.{append_nil, has_fault_append, has_fault_only, bind_faulty}

module _ {A B : Type 0} (may : Bool) (R : A → B → Type 0) where
  in_append : {xs more : List (Item A)} {ys rest : List (Item B)} → InPlace may R xs ys → InPlace may R more rest → InPlace may R (xs ++ more) (ys ++ rest)
  in_append in_end q = q
  in_append (in_value r p) q = in_value r (in_append p q)
  in_append (in_fault p) q = in_fault (in_append p q)
  in_append (left_out m p) q = left_out m (in_append p q)

  pub stands_nil : StandsFor may R [] []
  stands_nil = record { in_place = in_end; told = refl }

  pub stands_one : {a : A} {b : B} → R a b → StandsFor may R (one a) (one b)
  stands_one r = record { in_place = in_value r in_end; told = refl }

  pub stands_fault : (e : Fault) → StandsFor may R (item.Fault e ∷ []) (item.Fault e ∷ [])
  stands_fault e = record { in_place = in_fault in_end; told = refl }

  pub stands_append : {xs more : List (Item A)} {ys rest : List (Item B)} → StandsFor may R xs ys → StandsFor may R more rest → StandsFor may R (xs ++ more) (ys ++ rest)
  stands_append {xs = xs} {more = more} {ys = ys} {rest = rest} p q = record {
    in_place = in_append p.in_place q.in_place;
    told = has_fault_append xs more ∙ ap (λ b. b || has_fault more) p.told ∙ ap (λ b. has_fault ys || b) q.told ∙ sym (has_fault_append ys rest);
  }

-- ---- bind

in_bind : {A B C D : Type 0} (may : Bool) (R : A → B → Type 0) (S : C → D → Type 0) {xs : List (Item A)} {ys : List (Item B)} (f : A → List (Item C)) (g : B → List (Item D))
    → InPlace may R xs ys → ((a : A) (b : B) → R a b → InPlace may S (f a) (g b)) → InPlace may S (bind xs f) (bind ys g)
in_bind may R S f g in_end h = in_end
in_bind may R S f g (in_value r p) h = in_append may S (h _ _ r) (in_bind may R S f g p h)
in_bind may R S f g (in_fault p) h = in_fault (in_bind may R S f g p h)
in_bind may R S f g (left_out m p) h = left_out m (in_bind may R S f g p h)

told_bind : {A B C D : Type 0} (may : Bool) (R : A → B → Type 0) {xs : List (Item A)} {ys : List (Item B)} (f : A → List (Item C)) (g : B → List (Item D))
    → InPlace may R xs ys → has_fault ys ≡ false → ((a : A) (b : B) → R a b → has_fault (f a) ≡ has_fault (g b)) → has_fault (bind xs f) ≡ has_fault (bind ys g)
told_bind may R f g in_end e h = refl
told_bind may R f g (in_value {a = a} {b = b} {xs = xs} {ys = ys} r p) e h =
    has_fault_append (f a) (bind xs f) ∙ ap (λ c. c || has_fault (bind xs f)) (h a b r) ∙ ap (λ c. has_fault (g b) || c) (told_bind may R f g p e h) ∙ sym (has_fault_append (g b) (bind ys g))
told_bind may R f g (in_fault p) e h = cc
told_bind may R f g (left_out m p) e h = cc

pub stands_bind : {A B C D : Type 0} (may : Bool) (R : A → B → Type 0) (S : C → D → Type 0) {xs : List (Item A)} {ys : List (Item B)} (f : A → List (Item C)) (g : B → List (Item D))
    → StandsFor may R xs ys → ((a : A) (b : B) → R a b → StandsFor may S (f a) (g b)) → StandsFor may S (bind xs f) (bind ys g)
stands_bind may R S {xs = xs} {ys = ys} f g p h = record {
  in_place = in_bind may R S f g p.in_place (λ a b r. (h a b r).in_place);
  told = by_case (has_fault ys) refl;
}
  where
    by_case : (b : Bool) → has_fault ys ≡ b → has_fault (bind xs f) ≡ has_fault (bind ys g)
    by_case true e = bind_faulty xs f (p.told ∙ e) ∙ sym (bind_faulty ys g e)
    by_case false e = told_bind may R f g p.in_place e (λ a b r. (h a b r).told)

-- ---- another relation

in_weaken : {A B : Type 0} (may : Bool) (R S : A → B → Type 0) {xs : List (Item A)} {ys : List (Item B)} → ((a : A) (b : B) → R a b → S a b) → InPlace may R xs ys → InPlace may S xs ys
in_weaken may R S h in_end = in_end
in_weaken may R S h (in_value r p) = in_value (h _ _ r) (in_weaken may R S h p)
in_weaken may R S h (in_fault p) = in_fault (in_weaken may R S h p)
in_weaken may R S h (left_out m p) = left_out m (in_weaken may R S h p)

pub stands_weaken : {A B : Type 0} (may : Bool) (R S : A → B → Type 0) {xs : List (Item A)} {ys : List (Item B)} → ((a : A) (b : B) → R a b → S a b) → StandsFor may R xs ys → StandsFor may S xs ys
stands_weaken may R S h p = record { in_place = in_weaken may R S h p.in_place; told = p.told }

in_and : {A B : Type 0} (may : Bool) (R : A → B → Type 0) (P : B → Type 0) {xs : List (Item A)} {ys : List (Item B)} → InPlace may R xs ys → EachValue P ys → InPlace may (λ a b. R a b × P b) xs ys
in_and may R P in_end h = in_end
in_and may R P (in_value r p) h = in_value (r, h.0) (in_and may R P p h.1)
in_and may R P (in_fault p) h = in_fault (in_and may R P p h)
in_and may R P (left_out m p) h = left_out m (in_and may R P p h)

-- with what holds of each value of the second list
pub stands_and : {A B : Type 0} (may : Bool) (R : A → B → Type 0) (P : B → Type 0) {xs : List (Item A)} {ys : List (Item B)} → StandsFor may R xs ys → EachValue P ys → StandsFor may (λ a b. R a b × P b) xs ys
stands_and may R P p h = record { in_place = in_and may R P p.in_place h; told = p.told }

in_permit : {A B : Type 0} (may : Bool) (R : A → B → Type 0) {xs : List (Item A)} {ys : List (Item B)} → InPlace may R xs ys → InPlace true R xs ys
in_permit may R in_end = in_end
in_permit may R (in_value r p) = in_value r (in_permit may R p)
in_permit may R (in_fault p) = in_fault (in_permit may R p)
in_permit may R (left_out m p) = left_out refl (in_permit may R p)

-- what stands for a list with no fault left out stands for it where that may be
pub stands_permit : {A B : Type 0} (may : Bool) (R : A → B → Type 0) {xs : List (Item A)} {ys : List (Item B)} → StandsFor may R xs ys → StandsFor true R xs ys
stands_permit may R p = record { in_place = in_permit may R p.in_place; told = p.told }

in_chain : {A B C : Type 0} (may : Bool) (R : A → B → Type 0) (S : B → C → Type 0) (T : A → C → Type 0) {xs : List (Item A)} {ys : List (Item B)} {zs : List (Item C)}
    → ((a : A) (b : B) (c : C) → R a b → S b c → T a c) → InPlace may R xs ys → InPlace may S ys zs → InPlace may T xs zs
in_chain may R S T h in_end in_end = in_end
in_chain may R S T h in_end (left_out m q) = left_out m (in_chain may R S T h in_end q)
in_chain may R S T h (in_value r p) (in_value s q) = in_value (h _ _ _ r s) (in_chain may R S T h p q)
in_chain may R S T h (in_value r p) (left_out m q) = left_out m (in_chain may R S T h (in_value r p) q)
in_chain may R S T h (in_fault p) (in_fault q) = in_fault (in_chain may R S T h p q)
in_chain may R S T h (in_fault p) (left_out m q) = left_out m (in_chain may R S T h (in_fault p) q)
in_chain may R S T h (left_out m p) (in_fault q) = left_out m (in_chain may R S T h p q)
in_chain may R S T h (left_out m p) (left_out n q) = left_out n (in_chain may R S T h (left_out m p) q)

-- what stands for a list that stands for a third stands for the third
pub stands_chain : {A B C : Type 0} (may : Bool) (R : A → B → Type 0) (S : B → C → Type 0) (T : A → C → Type 0) {xs : List (Item A)} {ys : List (Item B)} {zs : List (Item C)}
    → ((a : A) (b : B) (c : C) → R a b → S b c → T a c) → StandsFor may R xs ys → StandsFor may S ys zs → StandsFor may T xs zs
stands_chain may R S T h p q = record { in_place = in_chain may R S T h p.in_place q.in_place; told = p.told ∙ q.told }

-- ---- no fault left out

in_equal : {A : Type 0} {xs ys : List (Item A)} → InPlace false (λ (a b : A). a ≡ b) xs ys → xs ≡ ys
in_equal in_end = refl
in_equal (in_value r p) = λ i. Value (r i) ∷ in_equal p i
in_equal (in_fault {e = e} p) = ap (λ l. item.Fault e ∷ l) (in_equal p)
in_equal (left_out m p) = absurd (true≢false (sym m))

-- with no fault left out and equal values the lists are equal
pub stands_equal : {A : Type 0} {xs ys : List (Item A)} → StandsFor false (λ (a b : A). a ≡ b) xs ys → xs ≡ ys
stands_equal p = in_equal p.in_place

pub stands_itself : {A : Type 0} (may : Bool) (R : A → A → Type 0) → ((a : A) → R a a) → (xs : List (Item A)) → StandsFor may R xs xs
stands_itself {A = A} may R h xs = record { in_place = itself xs; told = refl }
  where
    itself : (xs : List (Item A)) → InPlace may R xs xs
    itself [] = in_end
    itself (Value a ∷ xs) = in_value (h a) (itself xs)
    itself (item.Fault e ∷ xs) = in_fault (itself xs)

-- ---- values and faults apart

pub alike_values : {A B : Type 0} (may : Bool) (R : A → B → Type 0) {xs : List (Item A)} {ys : List (Item B)} → InPlace may R xs ys → Alike R (values xs) (values ys)
alike_values may R in_end = tt
alike_values may R (in_value r p) = (r, alike_values may R p)
alike_values may R (in_fault p) = alike_values may R p
alike_values may R (left_out m p) = alike_values may R p

in_faults : {A B C D : Type 0} (may : Bool) (R : A → B → Type 0) (S : C → D → Type 0) {xs : List (Item A)} {ys : List (Item B)} → InPlace may R xs ys → InPlace may S (only_faults (faults xs)) (only_faults (faults ys))
in_faults may R S in_end = in_end
in_faults may R S (in_value r p) = in_faults may R S p
in_faults may R S (in_fault p) = in_fault (in_faults may R S p)
in_faults may R S (left_out m p) = left_out m (in_faults may R S p)

-- the faults alone stand for the faults alone
pub stands_faults : {A B C D : Type 0} (may : Bool) (R : A → B → Type 0) (S : C → D → Type 0) {xs : List (Item A)} {ys : List (Item B)} → StandsFor may R xs ys → StandsFor may S (only_faults (faults xs)) (only_faults (faults ys))
stands_faults may R S {xs = xs} {ys = ys} p = record { in_place = in_faults may R S p.in_place; told = has_fault_only _ xs ∙ p.told ∙ sym (has_fault_only _ ys) }

stands_cond : {C D : Type 0} (may : Bool) (S : C → D → Type 0) (c d : Bool) {xs more : List (Item C)} {ys rest : List (Item D)} → c ≡ d → StandsFor may S xs ys → StandsFor may S more rest → StandsFor may S (cond c xs more) (cond d ys rest)
stands_cond may S c d {xs = xs} {more = more} {ys = ys} {rest = rest} e p q = subst (λ d. StandsFor may S (cond c xs more) (cond d ys rest)) e (same c)
  where
    same : (c : Bool) → StandsFor may S (cond c xs more) (cond c ys rest)
    same true = p
    same false = q

pub stands_collect : {A B C D : Type 0} (may : Bool) (R : A → B → Type 0) (S : C → D → Type 0) {xs : List (Item A)} {ys : List (Item B)} (f : List A → List (Item C)) (g : List B → List (Item D))
    → StandsFor may R xs ys → (Alike R (values xs) (values ys) → StandsFor may S (f (values xs)) (g (values ys))) → StandsFor may S (collect f xs) (collect g ys)
stands_collect may R S {xs = xs} {ys = ys} f g p h = stands_cond may S (has_fault xs) (has_fault ys) p.told (stands_faults may R S p) (h (alike_values may R p.in_place))

pub stands_all_of : {A B : Type 0} (may : Bool) (R : A → B → Type 0) (as' : List A) (bs : List B) → Alike R as' bs → StandsFor may R (all_of as') (all_of bs)
stands_all_of may R [] [] h = stands_nil may R
stands_all_of may R [] (b ∷ bs) h = absurd h
stands_all_of may R (a ∷ as') [] h = absurd h
stands_all_of may R (a ∷ as') (b ∷ bs) h = stands_append may R (stands_one may R h.0) (stands_all_of may R as' bs h.1)

-- ---- faults left out

all_left_out : {A B : Type 0} (R : A → B → Type 0) (es : List Fault) → InPlace true R [] (only_faults es)
all_left_out R [] = in_end
all_left_out R (e ∷ es) = left_out refl (all_left_out R es)

-- the first fault stands for all
pub stands_first : {A B : Type 0} (R : A → B → Type 0) (e : Fault) (es : List Fault) → StandsFor true R (item.Fault e ∷ []) (only_faults (e ∷ es))
stands_first R e es = record { in_place = in_fault (all_left_out R es); told = refl }

-- further faults may be told beside a fault
pub stands_beside : {A B : Type 0} (R : A → B → Type 0) (b : Bool) {xs : List (Item A)} {ys : List (Item B)} (es : List Fault) → (b ≡ true → has_fault ys ≡ true) → StandsFor true R xs ys → StandsFor true R xs (ys ++ cond b (only_faults es) [])
stands_beside {B = B} R true {xs = xs} {ys = ys} es h p = record {
  in_place = subst (λ l. InPlace true R l (ys ++ only_faults es)) (append_nil xs) (in_append true R p.in_place (all_left_out R es));
  told = p.told ∙ (h refl ∙ sym (has_fault_append ys (only_faults es) ∙ ap (λ c. c || has_fault (only_faults {A = B} es)) (h refl)));
}
stands_beside {B = B} R false {xs = xs} {ys = ys} es h p = subst (StandsFor true R xs) (sym (append_nil ys)) p

-- a loop stands for two lists whose faults are both told
pub stands_both : {A B C D E : Type 0} (R : A → B → Type 0) (S : C → D → Type 0) {xs : List (Item A)} {ys : List (Item B)} (zs : List (Item E)) (f : A → List (Item C)) (g : B → E → List (Item D))
    → StandsFor true R xs ys → ((a : A) (b : B) → R a b → StandsFor true S (f a) (bind zs (g b))) → StandsFor true S (bind xs f) (both ys zs g)
stands_both R S {ys = ys} zs f g p h = stands_beside S (has_fault ys) (faults zs) (bind_faulty ys (λ b. bind zs (g b))) (stands_bind true R S f (λ b. bind zs (g b)) p h)

-- two lists whose faults are both told, on both sides
pub both_stands : {A B C D E F : Type 0} (may : Bool) (R : A → B → Type 0) (Q : E → F → Type 0) (S : C → D → Type 0) {xs : List (Item A)} {ys : List (Item B)} {us : List (Item E)} {vs : List (Item F)} (f : A → E → List (Item C)) (g : B → F → List (Item D))
    → StandsFor may R xs ys → StandsFor may Q us vs → ((a : A) (b : B) (e : E) (k : F) → R a b → Q e k → StandsFor may S (f a e) (g b k)) → StandsFor may S (both xs us f) (both ys vs g)
both_stands may R Q S {xs = xs} {ys = ys} {us = us} {vs = vs} f g p q h =
    stands_append may S
    (stands_bind may R S (λ a. bind us (f a)) (λ b. bind vs (g b)) p (λ a b r. stands_bind may Q S (f a) (g b) q (λ e k s. h a b e k r s)))
    (stands_cond may S (has_fault xs) (has_fault ys) p.told (stands_faults may Q S q) (stands_nil may S))

-- ---- lists that are alike

module _ {A B : Type 0} (R : A → B → Type 0) where
  pub alike_length : (as' : List A) (bs : List B) → Alike R as' bs → length as' ≡ length bs
  alike_length [] [] h = refl
  alike_length [] (b ∷ bs) h = absurd h
  alike_length (a ∷ as') [] h = absurd h
  alike_length (a ∷ as') (b ∷ bs) h = ap suc (alike_length as' bs h.1)

  pub alike_append : (as' more : List A) (bs rest : List B) → Alike R as' bs → Alike R more rest → Alike R (as' ++ more) (bs ++ rest)
  alike_append [] more [] rest h k = k
  alike_append [] more (b ∷ bs) rest h k = absurd h
  alike_append (a ∷ as') more [] rest h k = absurd h
  alike_append (a ∷ as') more (b ∷ bs) rest h k = (h.0, alike_append as' more bs rest h.1 k)

  pub alike_drop : (n : ℕ) (as' : List A) (bs : List B) → Alike R as' bs → Alike R (drop n as') (drop n bs)
  alike_drop zero as' bs h = h
  alike_drop (suc n) [] [] h = tt
  alike_drop (suc n) [] (b ∷ bs) h = absurd h
  alike_drop (suc n) (a ∷ as') [] h = absurd h
  alike_drop (suc n) (a ∷ as') (b ∷ bs) h = alike_drop n as' bs h.1

  pub alike_take : (n : ℕ) (as' : List A) (bs : List B) → Alike R as' bs → Alike R (take n as') (take n bs)
  alike_take zero as' bs h = tt
  alike_take (suc n) [] [] h = tt
  alike_take (suc n) [] (b ∷ bs) h = absurd h
  alike_take (suc n) (a ∷ as') [] h = absurd h
  alike_take (suc n) (a ∷ as') (b ∷ bs) h = (h.0, alike_take n as' bs h.1)
