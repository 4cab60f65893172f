-- Parts of lists, and what is kept of them.
use Rattle.std.proofs.Common.{◌≡◌, ◌≤◌, Bool, true, false, ◌||◌, List, [], ◌∷◌, ◌++◌, length, map, filter, refl, ap, arith, if◌then◌else◌}
use Rattle.std.specs.List.{list_any}
use Rattle.ev_list.specs.Occurrence.{has_repeat}
use Rattle.db_store.specs.Fits.{Each, Ascend}

-- ---- each element, of those that are kept

each_kept_at : {A B : Type 0} (Q : B → Type 0) (f : A → B) (p : A → Bool) (x : A) (xs : List A) (b : Bool) → (b ≡ true → Q (f x)) → Each Q (map f (filter p xs)) → Each Q (map f (if b then x ∷ filter p xs else filter p xs))
each_kept_at Q f p x xs true here more = (here refl, more)
each_kept_at Q f p x xs false here more = more

-- what is said of each element is said of what f makes of those that are kept
pub each_kept : {A B : Type 0} (P : A → Type 0) (Q : B → Type 0) (f : A → B) (p : A → Bool) → ((x : A) → p x ≡ true → P x → Q (f x)) → (xs : List A) → Each P xs → Each Q (map f (filter p xs))
each_kept P Q f p h [] all = tt
each_kept P Q f p h (x ∷ xs) all = each_kept_at Q f p x xs (p x) (λ e. h x e all.0) (each_kept P Q f p h xs all.1)

each_made_at : {A B : Type 0} (Q : B → Type 0) (f : A → B) (p : B → Bool) (x : A) (xs : List A) (b : Bool) → (b ≡ true → Q (f x)) → Each Q (filter p (map f xs)) → Each Q (if b then f x ∷ filter p (map f xs) else filter p (map f xs))
each_made_at Q f p x xs true here more = (here refl, more)
each_made_at Q f p x xs false here more = more

-- and of those that are kept of what f makes
pub each_made : {A B : Type 0} (P : A → Type 0) (Q : B → Type 0) (f : A → B) (p : B → Bool) → ((x : A) → p (f x) ≡ true → P x → Q (f x)) → (xs : List A) → Each P xs → Each Q (filter p (map f xs))
each_made P Q f p h [] all = tt
each_made P Q f p h (x ∷ xs) all = each_made_at Q f p x xs (p (f x)) (λ e. h x e all.0) (each_made P Q f p h xs all.1)

-- ---- what stands in order

ascend_kept_at : {A B : Type 0} (after : B → B → Bool) (f : A → B) (p : A → Bool) (x : A) (xs : List A) (b : Bool) → Each (λ z. after (f x) z ≡ true) (map f (filter p xs)) → Ascend after (map f (filter p xs)) → Ascend after (map f (if b then x ∷ filter p xs else filter p xs))
ascend_kept_at after f p x xs true first more = (first, more)
ascend_kept_at after f p x xs false first more = more

pub ascend_kept : {A B : Type 0} (before : A → A → Bool) (after : B → B → Bool) (f : A → B) (p : A → Bool) → ((x y : A) → before x y ≡ true → after (f x) (f y) ≡ true) → (xs : List A) → Ascend before xs → Ascend after (map f (filter p xs))
ascend_kept before after f p h [] up = tt
ascend_kept before after f p h (x ∷ xs) up =
    ascend_kept_at after f p x xs (p x) (each_kept (λ y. before x y ≡ true) (λ z. after (f x) z ≡ true) f p (λ y e b. h x y b) xs up.0) (ascend_kept before after f p h xs up.1)

ascend_made_at : {A B : Type 0} (after : B → B → Bool) (f : A → B) (p : B → Bool) (x : A) (xs : List A) (b : Bool) → Each (λ z. after (f x) z ≡ true) (filter p (map f xs)) → Ascend after (filter p (map f xs)) → Ascend after (if b then f x ∷ filter p (map f xs) else filter p (map f xs))
ascend_made_at after f p x xs true first more = (first, more)
ascend_made_at after f p x xs false first more = more

pub ascend_made : {A B : Type 0} (before : A → A → Bool) (after : B → B → Bool) (f : A → B) (p : B → Bool) → ((x y : A) → before x y ≡ true → after (f x) (f y) ≡ true) → (xs : List A) → Ascend before xs → Ascend after (filter p (map f xs))
ascend_made before after f p h [] up = tt
ascend_made before after f p h (x ∷ xs) up =
    ascend_made_at after f p x xs (p (f x)) (each_made (λ y. before x y ≡ true) (λ z. after (f x) z ≡ true) f p (λ y e b. h x y b) xs up.0) (ascend_made before after f p h xs up.1)

-- ---- parts

-- the one list is the other without some elements
pub data Part {A : Type 0} : List A → List A → Type 0 where
  Nothing : Part [] []
  Kept : (x : A) (xs ys : List A) → Part xs ys → Part (x ∷ xs) (x ∷ ys)
  Left : (y : A) (xs ys : List A) → Part xs ys → Part xs (y ∷ ys)

pub part_none : {A : Type 0} (ys : List A) → Part [] ys
part_none [] = Nothing
part_none (y ∷ ys) = Left y [] ys (part_none ys)

pub part_all : {A : Type 0} (ys : List A) → Part ys ys
part_all [] = Nothing
part_all (y ∷ ys) = Kept y ys ys (part_all ys)

pub part_append : {A : Type 0} (xs ys vs ws : List A) → Part xs ys → Part vs ws → Part (xs ++ vs) (ys ++ ws)
part_append xs ys vs ws Nothing q = q
part_append xs ys vs ws (Kept x xs' ys' p) q = Kept x (xs' ++ vs) (ys' ++ ws) (part_append xs' ys' vs ws p q)
part_append xs ys vs ws (Left y xs' ys' p) q = Left y (xs' ++ vs) (ys' ++ ws) (part_append xs' ys' vs ws p q)

pub part_map : {A B : Type 0} (f : A → B) (xs ys : List A) → Part xs ys → Part (map f xs) (map f ys)
part_map f xs ys Nothing = Nothing
part_map f xs ys (Kept x xs' ys' p) = Kept (f x) (map f xs') (map f ys') (part_map f xs' ys' p)
part_map f xs ys (Left y xs' ys' p) = Left (f y) (map f xs') (map f ys') (part_map f xs' ys' p)

part_filter_at : {A : Type 0} (p : A → Bool) (x : A) (xs : List A) (b : Bool) → Part (filter p xs) xs → Part (if b then x ∷ filter p xs else filter p xs) (x ∷ xs)
part_filter_at p x xs true more = Kept x (filter p xs) xs more
part_filter_at p x xs false more = Left x (filter p xs) xs more

pub part_filter : {A : Type 0} (p : A → Bool) (xs : List A) → Part (filter p xs) xs
part_filter p [] = Nothing
part_filter p (x ∷ xs) = part_filter_at p x xs (p x) (part_filter p xs)

pub part_length : {A : Type 0} (xs ys : List A) → Part xs ys → length xs ≤ length ys
part_length xs ys Nothing = omega arith
part_length xs ys (Kept x xs' ys' p) = omega (arith, part_length xs' ys' p)
part_length xs ys (Left y xs' ys' p) = omega (arith, part_length xs' ys' p)

pub or_left : (a b : Bool) → a || b ≡ false → a ≡ false
or_left false b e = refl
or_left true b e = e

pub or_right : (a b : Bool) → a || b ≡ false → b ≡ false
or_right false b e = e
or_right true b e = let clash : true ≡ false = e in absurd cc

none_or : (a b : Bool) → a ≡ false → b ≡ false → a || b ≡ false
none_or false b e h = h
none_or true b e h = e

-- what no element passes, no element of a part passes
pub any_part : {A : Type 0} (p : A → Bool) (xs ys : List A) → Part xs ys → list_any p ys ≡ false → list_any p xs ≡ false
any_part p xs ys Nothing e = e
any_part p xs ys (Kept x xs' ys' q) e = none_or (p x) (list_any p xs') (or_left (p x) (list_any p ys') e) (any_part p xs' ys' q (or_right (p x) (list_any p ys') e))
any_part p xs ys (Left y xs' ys' q) e = any_part p xs' ys' q (or_right (p y) (list_any p ys') e)

-- where no element stands twice, none does in a part
pub repeat_part : {A : Type 0} (same : A → A → Bool) (xs ys : List A) → Part xs ys → has_repeat same ys ≡ false → has_repeat same xs ≡ false
repeat_part same xs ys Nothing e = e
repeat_part same xs ys (Kept x xs' ys' q) e =
    none_or (list_any (same x) xs') (has_repeat same xs') (any_part (same x) xs' ys' q (or_left (list_any (same x) ys') (has_repeat same ys') e)) (repeat_part same xs' ys' q (or_right (list_any (same x) ys') (has_repeat same ys') e))
repeat_part same xs ys (Left y xs' ys' q) e = repeat_part same xs' ys' q (or_right (list_any (same y) ys') (has_repeat same ys') e)

-- where each element passes, all are kept
filter_all_at : {A : Type 0} (p : A → Bool) (x : A) (xs : List A) (b : Bool) → b ≡ true → filter p xs ≡ xs → (if b then x ∷ filter p xs else filter p xs) ≡ x ∷ xs
filter_all_at p x xs true e more = ap (λ l. x ∷ l) more
filter_all_at p x xs false e more = let clash : false ≡ true = e in absurd cc

pub filter_all : {A : Type 0} (p : A → Bool) (xs : List A) → Each (λ x. p x ≡ true) xs → filter p xs ≡ xs
filter_all p [] all = refl
filter_all p (x ∷ xs) all = filter_all_at p x xs (p x) all.0 (filter_all p xs all.1)

pub each_weaker : {A : Type 0} (P Q : A → Type 0) → ((x : A) → P x → Q x) → (xs : List A) → Each P xs → Each Q xs
each_weaker P Q h [] all = tt
each_weaker P Q h (x ∷ xs) all = (h x all.0, each_weaker P Q h xs all.1)

each_filter_at : {A : Type 0} (Q : A → Type 0) (p : A → Bool) (x : A) (xs : List A) (b : Bool) → (b ≡ true → Q x) → Each Q (filter p xs) → Each Q (if b then x ∷ filter p xs else filter p xs)
each_filter_at Q p x xs true here more = (here refl, more)
each_filter_at Q p x xs false here more = more

pub each_filter : {A : Type 0} (P Q : A → Type 0) (p : A → Bool) → ((x : A) → p x ≡ true → P x → Q x) → (xs : List A) → Each P xs → Each Q (filter p xs)
each_filter P Q p h [] all = tt
each_filter P Q p h (x ∷ xs) all = each_filter_at Q p x xs (p x) (λ e. h x e all.0) (each_filter P Q p h xs all.1)

ascend_filter_at : {A : Type 0} (before : A → A → Bool) (p : A → Bool) (x : A) (xs : List A) (b : Bool) → Each (λ y. before x y ≡ true) (filter p xs) → Ascend before (filter p xs) → Ascend before (if b then x ∷ filter p xs else filter p xs)
ascend_filter_at before p x xs true first more = (first, more)
ascend_filter_at before p x xs false first more = more

pub ascend_filter : {A : Type 0} (before : A → A → Bool) (p : A → Bool) (xs : List A) → Ascend before xs → Ascend before (filter p xs)
ascend_filter before p [] up = tt
ascend_filter before p (x ∷ xs) up =
    ascend_filter_at before p x xs (p x) (each_filter (λ y. before x y ≡ true) (λ y. before x y ≡ true) p (λ y e b. b) xs up.0) (ascend_filter before p xs up.1)

-- a part of a list is a part of that list behind others
pub part_behind : {A : Type 0} (zs xs ys : List A) → Part xs ys → Part xs (zs ++ ys)
part_behind [] xs ys p = p
part_behind (z ∷ zs) xs ys p = Left z xs (zs ++ ys) (part_behind zs xs ys p)
