-- Objects in order of id.
use Rattle.std.proofs.Common.{◌≡◌, ◌≢◌, ℕ, ◌==◌, nat_lt, Bool, true, false, List, [], ◌∷◌, Some, cond, length, suc, refl, ap, ◌∙◌, arith}
use Rattle.std.proofs.lemmas.Bool.Decides.{nat_tests}
use Rattle.std.specs.Cmp.{nat_cmp_total}
use Rattle.std.specs.Ordering.{nat_cmp, is_gt, is_lt, ordering_then, ordering_reverse}
use Rattle.std.specs.declared.cmp.Ordering.{Ordering}
use Rattle.std.specs.declared.cmp.Ordering.TheVariants.{Less, Equal, Greater}
use Rattle.ev_value.specs.Order.{val_cmp}
use Rattle.ev_value.specs.declared.value.Val.TheVariants as made
use Rattle.ev_list.specs.Order.{placed, is_behind, in_order, keyless}
use Rattle.ev_list.specs.declared.order.Keyed.{Keyed}
use Rattle.ev_schema.specs.Policies.{by_name}
use Rattle.db_store.specs.Fits.{Each, Ascend}
use Rattle.db_store.specs.declared.object.Object.{Object}
use Rattle.db_check.specs.Check.{keyed_objects, ordered}

-- an object in its place among others, which stand in order of id
abbrev pub put : Object → List Object → List Object
put o [] = o ∷ []
put o (p ∷ more) = cond (nat_lt p.id o.id) (p ∷ put o more) (o ∷ p ∷ more)

-- objects in order of id
abbrev pub by_id : List Object → List Object
by_id [] = []
by_id (o ∷ more) = put o (by_id more)

-- ---- this is the order of the store

pub then_equal : (o : Ordering) → ordering_then o Equal ≡ o
then_equal Less = refl
then_equal Equal = refl
then_equal Greater = refl

gt_turned : (o : Ordering) → is_gt (ordering_reverse o) ≡ is_lt o
gt_turned Less = refl
gt_turned Equal = refl
gt_turned Greater = refl

pub lt_is : (m n : ℕ) → is_lt (nat_cmp m n) ≡ nat_lt m n
lt_is m n = by_tests (nat_lt m n) (m == n)
  where
    by_tests : (b e : Bool) → is_lt (cond b Less (cond e Equal Greater)) ≡ b
    by_tests true e = refl
    by_tests false true = refl
    by_tests false false = refl

pub ids_cmp : (m n : ℕ) → val_cmp (made.Id m) (made.Id n) ≡ nat_cmp m n
unfolding val_cmp
ids_cmp m n = refl

abbrev keyed : Object → Keyed Object
keyed o = record { keys = Some (made.Id o.id) ∷ []; value = o }

behind_is : (o p : Object) → is_behind by_name (keyed o) (keyed p) ≡ nat_lt p.id o.id
behind_is o p =
    ap is_gt (then_equal (val_cmp (made.Id o.id) (made.Id p.id)) ∙ ids_cmp o.id p.id ∙ nat_cmp_total.antisymm o.id p.id)
    ∙ gt_turned (nat_cmp p.id o.id) ∙ lt_is p.id o.id

placed_is : (o : Object) (os : List Object) → placed by_name (keyed o) (keyed_objects os) ≡ keyed_objects (put o os)
placed_is o [] = refl
placed_is o (p ∷ more) =
    ap (λ b. cond b (keyed p ∷ placed by_name (keyed o) (keyed_objects more)) (keyed o ∷ keyed p ∷ keyed_objects more)) (behind_is o p)
    ∙ by_test (placed_is o more) (nat_lt p.id o.id)
  where
    by_test : placed by_name (keyed o) (keyed_objects more) ≡ keyed_objects (put o more) → (b : Bool)
        → cond b (keyed p ∷ placed by_name (keyed o) (keyed_objects more)) (keyed o ∷ keyed p ∷ keyed_objects more) ≡ keyed_objects (cond b (p ∷ put o more) (o ∷ p ∷ more))
    by_test is true = ap (λ l. keyed p ∷ l) is
    by_test is false = refl

order_is : (os : List Object) → in_order by_name (keyed_objects os) ≡ keyed_objects (by_id os)
order_is [] = refl
order_is (o ∷ more) = ap (placed by_name (keyed o)) (order_is more) ∙ placed_is o (by_id more)

keyless_is : (os : List Object) → keyless (keyed_objects os) ≡ os
keyless_is [] = refl
keyless_is (o ∷ more) = ap (λ l. o ∷ l) (keyless_is more)

pub ordered_is : (os : List Object) → ordered os ≡ by_id os
ordered_is os = ap keyless (order_is os) ∙ keyless_is (by_id os)

-- ---- it keeps what holds of each, and ascends where ids differ

pub each_more : {A : Type 0} (P Q : A → Type 0) → ((x : A) → P x → Q x) → (xs : List A) → Each P xs → Each Q xs
each_more P Q f [] h = tt
each_more P Q f (x ∷ xs) h = (f x h.0, each_more P Q f xs h.1)

pub ascend_more : {A : Type 0} (early late : A → A → Bool) → ((x y : A) → early x y ≡ true → late x y ≡ true) → (xs : List A) → Ascend early xs → Ascend late xs
ascend_more early late f [] h = tt
ascend_more early late f (x ∷ xs) h = (each_more (λ y. early x y ≡ true) (λ y. late x y ≡ true) (f x) xs h.0, ascend_more early late f xs h.1)

pub each_put : (P : Object → Type 0) (o : Object) (os : List Object) → P o → Each P os → Each P (put o os)
each_put P o [] h hs = (h, tt)
each_put P o (p ∷ more) h hs = by_test (each_put P o more h hs.1) (nat_lt p.id o.id)
  where
    by_test : Each P (put o more) → (b : Bool) → Each P (cond b (p ∷ put o more) (o ∷ p ∷ more))
    by_test is true = (hs.0, is)
    by_test is false = (h, hs)

pub each_by_id : (P : Object → Type 0) (os : List Object) → Each P os → Each P (by_id os)
each_by_id P [] h = tt
each_by_id P (o ∷ more) h = each_put P o (by_id more) h.0 (each_by_id P more h.1)

-- no id stands twice
abbrev pub IdsDiffer : List Object → Type 0
IdsDiffer [] = Unit {0}
IdsDiffer (o ∷ more) = Each (λ (p : Object). o.id ≢ p.id) more × IdsDiffer more

abbrev pub before : Object → Object → Bool
before a b = nat_lt a.id b.id

not_behind : (m n : ℕ) → nat_lt n m ≡ false → m ≢ n → nat_lt m n ≡ true
not_behind m n h d = grind (arith, nat_tests)

lt_through : (k m n : ℕ) → nat_lt k m ≡ true → nat_lt m n ≡ true → nat_lt k n ≡ true
lt_through k m n h g = grind (arith, nat_tests)

ascend_put : (o : Object) (os : List Object) → Each (λ (p : Object). o.id ≢ p.id) os → Ascend before os → Ascend before (put o os)
ascend_put o [] d up = (tt, tt)
ascend_put o (p ∷ more) d up = by_test (ascend_put o more d.1 up.1) (nat_lt p.id o.id) refl
  where
    by_test : Ascend before (put o more) → (b : Bool) → nat_lt p.id o.id ≡ b → Ascend before (cond b (p ∷ put o more) (o ∷ p ∷ more))
    by_test is true e = (each_put (λ q. before p q ≡ true) o more e up.0, is)
    by_test is false e =
        let first : nat_lt o.id p.id ≡ true = not_behind o.id p.id e d.0 in
        ((first, each_more (λ q. before p q ≡ true) (λ q. before o q ≡ true) (λ q h. lt_through o.id p.id q.id first h) more up.0), up)

pub ascend_by_id : (os : List Object) → IdsDiffer os → Ascend before (by_id os)
ascend_by_id [] d = tt
ascend_by_id (o ∷ more) d = ascend_put o (by_id more) (each_by_id (λ (p : Object). o.id ≢ p.id) more d.0) (ascend_by_id more d.1)

-- ---- it keeps how many there are

length_put : (o : Object) (os : List Object) → length (put o os) ≡ suc (length os)
length_put o [] = refl
length_put o (p ∷ more) = by_test (length_put o more) (nat_lt p.id o.id)
  where
    by_test : length (put o more) ≡ suc (length more) → (b : Bool) → length (cond b (p ∷ put o more) (o ∷ p ∷ more)) ≡ suc (suc (length more))
    by_test is true = ap suc is
    by_test is false = refl

length_by_id : (os : List Object) → length (by_id os) ≡ length os
length_by_id [] = refl
length_by_id (o ∷ more) = length_put o (by_id more) ∙ ap suc (length_by_id more)

pub length_ordered : (os : List Object) → length (ordered os) ≡ length os
length_ordered os = ap length (ordered_is os) ∙ length_by_id os
