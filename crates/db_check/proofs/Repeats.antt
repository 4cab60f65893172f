-- Lists of values without a repeat, list by list.
use Rattle.std.proofs.Common.{◌≡◌, nat_lt, Bool, true, false, List, [], ◌∷◌, ◌++◌, cond, filter, flat_map, refl, sym}
use Rattle.std.specs.List.{list_any}
use Rattle.ev_list.specs.Occurrence.{has_repeat}
use Rattle.ev_list.specs.Sames.{val_exact}
use Rattle.ev_value.specs.declared.value.Val.{Val}
use Rattle.db_store.specs.Fits.{Each}
use Rattle.db_store.specs.Limits.{same}
use Rattle.db_store.specs.declared.object.Object.{Object}
use Rattle.db_check.proofs.IdOrder.{each_more, each_put, each_by_id, put, by_id}
use Rattle.db_check.proofs.NoFlaw.{neither, no_either}

same_turned : (v w : Val) → same v w ≡ false → same w v ≡ false
same_turned v w h = by_case (same w v) refl
  where
    no_both : (b : Bool) → b ≡ false → b ≡ true → ⊥
    no_both b e f = cc

    by_case : (b : Bool) → same w v ≡ b → same w v ≡ false
    by_case false e = e
    by_case true e = absurd (no_both (same v w) h ((val_exact v w).1 (sym ((val_exact w v).0 e))))

-- no value of the one is a value of the other
abbrev pub Apart : List Val → List Val → Type 0
Apart xs ys = Each (λ w. Each (λ v. same v w ≡ false) xs) ys

pub apart_turned : (xs ys : List Val) → Apart xs ys → Apart ys xs
apart_turned [] ys h = tt
apart_turned (x ∷ xs) ys h = (
  each_more (λ w. Each (λ v. same v w ≡ false) (x ∷ xs)) (λ w. same w x ≡ false) (λ w g. same_turned x w g.0) ys h,
  apart_turned xs ys (each_more (λ w. Each (λ v. same v w ≡ false) (x ∷ xs)) (λ w. Each (λ v. same v w ≡ false) xs) (λ w g. g.1) ys h),
)

none_of : (x : Val) (ys : List Val) → Each (λ w. same x w ≡ false) ys → list_any (same x) ys ≡ false
none_of x [] h = refl
none_of x (y ∷ ys) h = no_either (same x y) (list_any (same x) ys) h.0 (none_of x ys h.1)

none_joined : (x : Val) (xs ys : List Val) → list_any (same x) xs ≡ false → list_any (same x) ys ≡ false → list_any (same x) (xs ++ ys) ≡ false
none_joined x [] ys h g = g
none_joined x (z ∷ xs) ys h g =
    let both = neither (same x z) (list_any (same x) xs) h in
    no_either (same x z) (list_any (same x) (xs ++ ys)) both.0 (none_joined x xs ys both.1 g)

pub joined : (xs ys : List Val) → has_repeat same xs ≡ false → has_repeat same ys ≡ false → Apart xs ys → has_repeat same (xs ++ ys) ≡ false
joined [] ys h g a = g
joined (x ∷ xs) ys h g a =
    let both = neither (list_any (same x) xs) (has_repeat same xs) h in
    no_either (list_any (same x) (xs ++ ys)) (has_repeat same (xs ++ ys))
    (none_joined x xs ys both.0 (none_of x ys (each_more (λ w. Each (λ v. same v w ≡ false) (x ∷ xs)) (λ w. same x w ≡ false) (λ w k. k.0) ys a)))
    (joined xs ys both.1 g (each_more (λ w. Each (λ v. same v w ≡ false) (x ∷ xs)) (λ w. Each (λ v. same v w ≡ false) xs) (λ w k. k.1) ys a))

pub each_joined : {A : Type 0} (P : A → Type 0) (xs ys : List A) → Each P xs → Each P ys → Each P (xs ++ ys)
each_joined P [] ys h g = g
each_joined P (x ∷ xs) ys h g = (h.0, each_joined P xs ys h.1 g)

-- ---- objects, of each of which some values are taken

module _ (values : Object → List Val) where
  -- of each object no value stands twice, and no two objects have one value
  abbrev pub Single : List Object → Type 0
  Single [] = Unit {0}
  Single (o ∷ more) = (has_repeat same (values o) ≡ false) × Each (λ q. Apart (values o) (values q)) more × Single more

  single_put : (o : Object) (os : List Object) → has_repeat same (values o) ≡ false → Each (λ q. Apart (values o) (values q)) os → Single os → Single (put o os)
  single_put o [] h a s = (h, tt, tt)
  single_put o (p ∷ more) h a s = by_test (single_put o more h a.1 s.2) (nat_lt p.id o.id)
    where
      by_test : Single (put o more) → (b : Bool) → Single (cond b (p ∷ put o more) (o ∷ p ∷ more))
      by_test is true = (s.0, each_put (λ q. Apart (values p) (values q)) o more (apart_turned (values o) (values p) a.0) s.1, is)
      by_test is false = (h, a, s)

  pub single_by_id : (os : List Object) → Single os → Single (by_id os)
  single_by_id [] s = tt
  single_by_id (o ∷ more) s = single_put o (by_id more) s.0 (each_by_id (λ q. Apart (values o) (values q)) more s.1) (single_by_id more s.2)

  each_kept : (P : Object → Type 0) (f : Object → Bool) (os : List Object) → Each P os → Each P (filter f os)
  each_kept P f [] h = tt
  each_kept P f (o ∷ more) h = by_test (each_kept P f more h.1) (f o)
    where
      by_test : Each P (filter f more) → (b : Bool) → Each P (cond b (o ∷ filter f more) (filter f more))
      by_test is true = (h.0, is)
      by_test is false = is

  pub single_kept : (f : Object → Bool) (os : List Object) → Single os → Single (filter f os)
  single_kept f [] s = tt
  single_kept f (o ∷ more) s = by_test (single_kept f more s.2) (f o)
    where
      by_test : Single (filter f more) → (b : Bool) → Single (cond b (o ∷ filter f more) (filter f more))
      by_test is true = (s.0, each_kept (λ q. Apart (values o) (values q)) f more s.1, is)
      by_test is false = is

  apart_from_all : (xs : List Val) (os : List Object) → Each (λ q. Apart xs (values q)) os → Apart xs (flat_map values os)
  apart_from_all xs [] h = tt
  apart_from_all xs (o ∷ more) h = each_joined (λ w. Each (λ v. same v w ≡ false) xs) (values o) (flat_map values more) h.0 (apart_from_all xs more h.1)

  -- so none stands twice among the values of all
  pub none_twice : (os : List Object) → Single os → has_repeat same (flat_map values os) ≡ false
  none_twice [] s = refl
  none_twice (o ∷ more) s = joined (values o) (flat_map values more) s.0 (none_twice more s.2) (apart_from_all (values o) more s.1)
