-- A map to first places, as one more name is put last.
use Rattle.std.proofs.Common.{◌≡◌, ℕ, suc, List, [], ◌∷◌, ◌++◌, length, Option, Some, None, option_map, is_eq, is_some, cond, Bool, true, false, if◌then◌else◌, Result, Ok, Err, OnOk, OnErr, rules, refl, sym, ap, subst, ◌∙◌}
use Rattle.std.proofs.lemmas.Slice.Eq.{bytes_eq-Decides}
use Rattle.std.specs.BTreeMap.{BTreeMap}
use Rattle.std.specs.BTreeMap as tree
use Rattle.std.specs.Cmp.Lexicographic.{slice_cmp, texts_ties}
use Rattle.std.specs.Ordering.{nat_cmp}
use Rattle.std.specs.Str.{bytes_eq}
use Rattle.ev_names.specs.Names.{place_of, is_among, FindsFirst}

-- the first of two places
abbrev first : Option ℕ → Option ℕ → Option ℕ
first (Some n) later = Some n
first None later = later

last_of_none : (b : Bool) → (if b then Some 0 else option_map suc None) ≡ first None (if b then Some 0 else None)
last_of_none true = refl
last_of_none false = refl

later : (o : Option ℕ) (b : Bool) (n : ℕ) → option_map suc (first o (if b then Some n else None)) ≡ first (option_map suc o) (if b then Some (suc n) else None)
later None true n = refl
later None false n = refl
later (Some x) b n = refl

here_or_later : (here : Bool) (o : Option ℕ) (b : Bool) (n : ℕ)
    → (if here then Some 0 else option_map suc (first o (if b then Some n else None))) ≡ first (if here then Some 0 else option_map suc o) (if b then Some (suc n) else None)
here_or_later true o b n = refl
here_or_later false o b n = later o b n

place_of-last : (x k : List ℕ) (names : List (List ℕ)) → place_of x (names ++ k ∷ []) ≡ first (place_of x names) (if bytes_eq k x then Some (length names) else None)
place_of-last x k [] = last_of_none (bytes_eq k x)
place_of-last x k (y ∷ ys) = rw (place_of-last x k ys) (here_or_later (bytes_eq y x) (place_of x ys) (bytes_eq k x) (length ys))

joined : (b : Bool) (n : ℕ) (o : Option ℕ) → (b ≡ true → o ≡ None) → cond b (Some n) o ≡ first o (if b then Some n else None)
joined true n o none = rw (none refl)
joined false n None none = refl
joined false n (Some x) none = refl

-- equal names have one place
same_place : (k x : List ℕ) (names : List (List ℕ)) → bytes_eq k x ≡ true → place_of x names ≡ place_of k names
same_place k x names e = ap (λ y. place_of y names) (sym ((bytes_eq-Decides k x).0 e))

-- A new name is put into the map with the number of names before it.
pub finds_new : (m n : BTreeMap (List ℕ) ℕ) (names : List (List ℕ)) (k : List ℕ) → FindsFirst m names → place_of k names ≡ None
    → ((x : List ℕ) → tree.get (slice_cmp nat_cmp) n x ≡ cond (is_eq (slice_cmp nat_cmp k x)) (Some (length names)) (tree.get (slice_cmp nat_cmp) m x)) → FindsFirst n (names ++ k ∷ [])
finds_new m n names k finds new updates x =
    updates x ∙ rw (sym (texts_ties k x), finds x)
    (joined (bytes_eq k x) (length names) (place_of x names) (λ e. same_place k x names e ∙ new)
    ∙ sym (place_of-last x k names))

kept : (b : Bool) (n : ℕ) (o : Option ℕ) → (b ≡ true → is_some o ≡ true) → o ≡ first o (if b then Some n else None)
kept true n None some = absurd (search rules)
kept false n None some = refl
kept b n (Some x) some = refl

-- A name that is there needs no change of the map.
pub finds_again : (m : BTreeMap (List ℕ) ℕ) (names : List (List ℕ)) (k : List ℕ) → FindsFirst m names → is_among k names ≡ true → FindsFirst m (names ++ k ∷ [])
finds_again m names k finds there x =
    finds x ∙ kept (bytes_eq k x) (length names) (place_of x names) (λ e. ap is_some (same_place k x names e) ∙ there)
    ∙ sym (place_of-last x k names)

-- The map and the list go on together where a new name is put into both.
pub finds_more : (m n : BTreeMap (List ℕ) ℕ) (names now : List (List ℕ)) (k name kept : List ℕ) (place : ℕ) → FindsFirst m names → place_of name names ≡ None
    → k ≡ name → kept ≡ name → place ≡ length names → now ≡ names ++ kept ∷ []
    → ((x : List ℕ) → tree.get (slice_cmp nat_cmp) n x ≡ cond (is_eq (slice_cmp nat_cmp k x)) (Some place) (tree.get (slice_cmp nat_cmp) m x)) → FindsFirst n now
finds_more m n names now k name kept place finds new key copy at is updates =
    subst (λ (x : List (List ℕ)). FindsFirst n x) (sym (is ∙ ap (λ z. names ++ z ∷ []) (copy ∙ sym key)))
    (finds_new m n names k finds (ap (λ z. place_of z names) key ∙ new)
    (λ x. updates x ∙ ap (λ p. cond (is_eq (slice_cmp nat_cmp k x)) (Some p) (tree.get (slice_cmp nat_cmp) m x)) at))

-- Where a name that is there is put into the list, or is not for want of memory, the map stays.
pub finds_after : {T E : Type 0} (r : Result T E) (m : BTreeMap (List ℕ) ℕ) (names now : List (List ℕ)) (name kept : List ℕ) → FindsFirst m names → is_among name names ≡ true
    → kept ≡ name → OnOk r (now ≡ names ++ kept ∷ []) → OnErr r (now ≡ names) → FindsFirst m now
finds_after (Ok v) m names now name kept finds there copy ok err =
    subst (λ (x : List (List ℕ)). FindsFirst m x) (sym (ok ∙ ap (λ z. names ++ z ∷ []) copy)) (finds_again m names name finds there)
finds_after (Err e) m names now name kept finds there copy ok err = subst (λ (x : List (List ℕ)). FindsFirst m x) (sym err) finds
