-- Places of elements that pass a test.
use Rattle.std.proofs.Common.{◌≡◌, ◌≤◌, ℕ, suc, ◌==◌, ◌&&◌, Bool, true, false, List, [], ◌∷◌, ◌++◌, length, map, filter, Option, Some, None, slice_get, if◌then◌else◌, refl, sym, ap, ◌∙◌, arith, append_assoc, length-append}
use Rattle.std.proofs.lemmas.Option.{slice_get_past}
use Rattle.db_store.specs.declared.object.Object.{Object}
use Rattle.db_store.specs.Objects.{find, as_value}
use Rattle.eql_steps.specs.ById.{nothing, with_one}
use Rattle.eql_steps.specs.Index.{places_where, placed, at_first, if_kept, kept_at}

-- ---- the lists that the code makes

-- the places of objects by their ids, once objects from the place k on are there too
abbrev pub with_places : ℕ → (ℕ → List ℕ) → List Object → ℕ → List ℕ
with_places k lists [] = lists
with_places k lists (o ∷ more) = with_places (suc k) (with_one lists o.id k) more

one_more : (b : Bool) (xs rest : List ℕ) (k : ℕ) → (if b then xs ++ k ∷ [] else xs) ++ rest ≡ xs ++ (if b then k ∷ rest else rest)
one_more true xs rest k = append_assoc xs (k ∷ []) rest
one_more false xs rest k = refl

placed_from : (k : ℕ) (lists : ℕ → List ℕ) (os : List Object) (id : ℕ) → with_places k lists os id ≡ lists id ++ places_where (λ (o : Object). o.id == id) k os
placed_from k lists [] id = append_nil (lists id)
  where
    append_nil : (xs : List ℕ) → xs ≡ xs ++ []
    append_nil [] = refl
    append_nil (x ∷ xs) = ap (λ l. x ∷ l) (append_nil xs)
placed_from k lists (o ∷ more) id =
    placed_from (suc k) (with_one lists o.id k) more id ∙ one_more (o.id == id) (lists id) (places_where (λ (o : Object). o.id == id) (suc k) more) k

pub all_placed : (os : List Object) → with_places 0 nothing os ≡ placed os
all_placed os = λ i id. placed_from 0 nothing os id i

-- ---- what stands at a place

at_length : {A : Type 0} (xs ys : List A) (x : A) → slice_get (xs ++ x ∷ ys) (length xs) ≡ Some x
at_length [] ys x = refl
at_length (y ∷ xs) ys x = at_length xs ys x

next_place : {A : Type 0} (front : List A) (x : A) → length (front ++ x ∷ []) ≡ suc (length front)
next_place front x = omega (arith, length-append front (x ∷ []))

found_at : (front more : List Object) (o : Object) (id : ℕ) (b : Bool)
    → at_first (front ++ o ∷ more) (places_where (λ (o : Object). o.id == id) (suc (length front)) more) ≡ find more id
    → at_first (front ++ o ∷ more) (if b then length front ∷ places_where (λ (o : Object). o.id == id) (suc (length front)) more else places_where (λ (o : Object). o.id == id) (suc (length front)) more) ≡ (if b then Some o else find more id)
found_at front more o id true later = at_length front more o
found_at front more o id false later = later

found_from : (front os : List Object) (id : ℕ) → at_first (front ++ os) (places_where (λ (o : Object). o.id == id) (length front) os) ≡ find os id
found_from front [] id = refl
found_from front (o ∷ more) id =
    found_at front more o id (o.id == id)
    (sym (λ i. at_first (append_assoc front (o ∷ []) more i) (places_where (λ (o : Object). o.id == id) (next_place front o i) more)) ∙ found_from (front ++ o ∷ []) more id)

-- the first object with an id stands at the first of the places of that id
pub found : (os : List Object) (id : ℕ) → at_first os (placed os id) ≡ find os id
found os id = found_from [] os id

first_of_one : {A : Type 0} (xs : List A) (ks : List ℕ) (k : ℕ) → Some k ≡ slice_get ks 0 → slice_get xs k ≡ at_first xs ks
first_of_one xs [] k e = absurd (cc)
first_of_one xs (n ∷ ks) k e = ap (slice_get xs) (some_is k n e)
  where
    some_is : (a b : ℕ) → ◌≡◌ {A = Option ℕ} (Some a) (Some b) → a ≡ b
    some_is a b e = cc

first_of_none : {A : Type 0} (xs : List A) (ks : List ℕ) → None ≡ slice_get ks 0 → None ≡ at_first xs ks
first_of_none xs [] e = refl
first_of_none xs (n ∷ ks) e = absurd (cc)

pub found_there : (os : List Object) (id k : ℕ) → Some k ≡ slice_get (placed os id) 0 → slice_get os k ≡ find os id
found_there os id k e = first_of_one os (placed os id) k e ∙ found os id

pub found_nowhere : (os : List Object) (id : ℕ) → None ≡ slice_get (placed os id) 0 → None ≡ find os id
found_nowhere os id e = first_of_none os (placed os id) e ∙ found os id

-- ---- what stands beside the first element that passes a test

-- what stands beside the first element that passes a test
abbrev pub beside : {A B : Type 0} → (A → Bool) → List A → List B → Option B
beside test (x ∷ xs) (y ∷ ys) = if test x then Some y else beside test xs ys
beside test _ _ = None

past : {A B : Type 0} (test : A → Bool) (xs : List A) (ys : List B) (k : ℕ) → length ys ≤ k → at_first ys (places_where test k xs) ≡ None
past test [] ys k far = refl
past test (x ∷ xs) ys k far = by_test (test x) (past test xs ys (suc k) (omega (arith, far)))
  where
    by_test : (b : Bool) → at_first ys (places_where test (suc k) xs) ≡ None → at_first ys (if b then k ∷ places_where test (suc k) xs else places_where test (suc k) xs) ≡ None
    by_test true later = slice_get_past ys k far
    by_test false later = later

beside_at : {A B : Type 0} (test : A → Bool) (xs : List A) (front ys : List B) (y : B) (b : Bool)
    → at_first (front ++ y ∷ ys) (places_where test (suc (length front)) xs) ≡ beside test xs ys
    → at_first (front ++ y ∷ ys) (if b then length front ∷ places_where test (suc (length front)) xs else places_where test (suc (length front)) xs) ≡ (if b then Some y else beside test xs ys)
beside_at test xs front ys y true later = at_length front ys y
beside_at test xs front ys y false later = later

beside_from : {A B : Type 0} (test : A → Bool) (xs : List A) (front ys : List B) → at_first (front ++ ys) (places_where test (length front) xs) ≡ beside test xs ys
beside_from test [] front ys = refl
beside_from test (x ∷ xs) front [] = past test (x ∷ xs) (front ++ []) (length front) (omega (arith, length-append front []))
beside_from test (x ∷ xs) front (y ∷ ys) =
    beside_at test xs front ys y (test x)
    (sym (λ i. at_first (append_assoc front (y ∷ []) ys i) (places_where test (next_place front y i) xs)) ∙ beside_from test xs (front ++ y ∷ []) ys)

-- what stands at the first place of an id, in a list beside the objects
pub beside_first : {B : Type 0} (os : List Object) (ys : List B) (id : ℕ) → at_first ys (placed os id) ≡ beside (λ (o : Object). o.id == id) os ys
beside_first os ys id = beside_from (λ (o : Object). o.id == id) os [] ys

-- ---- the objects at some places

kept_here : (keep test : Object → Bool) (all : List Object) (k : ℕ) (o : Object) (more : List Object) (b : Bool) → slice_get all k ≡ Some o
    → kept_at keep all (places_where test (suc k) more) ≡ map as_value (filter (λ (o : Object). keep o && test o) more)
    → kept_at keep all (if b then k ∷ places_where test (suc k) more else places_where test (suc k) more) ≡ map as_value (if keep o && b then o ∷ filter (λ (o : Object). keep o && test o) more else filter (λ (o : Object). keep o && test o) more)
kept_here keep test all k o more true is later = (λ i. if_kept keep (is i) ++ later i) ∙ by_keep (keep o)
  where
    rest : List Object
    rest = filter (λ (o : Object). keep o && test o) more

    by_keep : (b : Bool) → (if b then as_value o ∷ [] else []) ++ map as_value rest ≡ map as_value (if b && true then o ∷ rest else rest)
    by_keep true = refl
    by_keep false = refl
kept_here keep test all k o more false is later = later ∙ by_keep (keep o)
  where
    rest : List Object
    rest = filter (λ (o : Object). keep o && test o) more

    by_keep : (b : Bool) → map as_value rest ≡ map as_value (if b && false then o ∷ rest else rest)
    by_keep true = refl
    by_keep false = refl

kept_from : (keep test : Object → Bool) (front os : List Object) → kept_at keep (front ++ os) (places_where test (length front) os) ≡ map as_value (filter (λ (o : Object). keep o && test o) os)
kept_from keep test front [] = refl
kept_from keep test front (o ∷ more) =
    kept_here keep test (front ++ o ∷ more) (length front) o more (test o) (at_length front more o)
    (sym (λ i. kept_at keep (append_assoc front (o ∷ []) more i) (places_where test (next_place front o i) more)) ∙ kept_from keep test (front ++ o ∷ []) more)

-- the objects at the places of those that pass a test are those that pass it
pub kept_where : (keep test : Object → Bool) (os : List Object) → kept_at keep os (places_where test 0 os) ≡ map as_value (filter (λ (o : Object). keep o && test o) os)
kept_where keep test os = kept_from keep test [] os

pub beside_there : {B : Type 0} (os : List Object) (ys : List B) (id k : ℕ) → Some k ≡ slice_get (placed os id) 0 → slice_get ys k ≡ beside (λ (o : Object). o.id == id) os ys
beside_there os ys id k e = first_of_one ys (placed os id) k e ∙ beside_first os ys id

pub beside_nowhere : {B : Type 0} (os : List Object) (ys : List B) (id : ℕ) → None ≡ slice_get (placed os id) 0 → None ≡ beside (λ (o : Object). o.id == id) os ys
beside_nowhere os ys id e = first_of_none ys (placed os id) e ∙ beside_first os ys id
