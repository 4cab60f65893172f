-- The order by keys is an order, and a sort by it is stable.
use Rattle.std.proofs.Common.{◌≡◌, ◌↔◌, ℕ, zero, suc, ◌+◌, ◌<◌, ◌≤◌, List, [], ◌∷◌, ◌++◌, Bool, true, false, not, ◌&&◌, cond, length, filter, get_or, Option, Some, None, Ordering, Less, Equal, Greater, refl, sym, ap, ◌∙◌, subst, true≢false, arith}
use Rattle.std.proofs.lemmas.Cmp.{upto, on_total, then_total, tied_itself}
use Rattle.std.proofs.lemmas.Fn.{always_returns_same}
use Rattle.std.proofs.lemmas.List.MinMax.{ranks_by}
use Rattle.std.specs.Fn.{Called, ComparesAs}
use denote.Param.Members.{Mut}
use denote.Ref.{Bor}
use Rattle.std.specs.Cmp.{IsTotalOrder, IsStrictWeakOrder}
use Rattle.std.specs.Cmp.Lexicographic.{pointwise}
use Rattle.std.specs.List.Sorted.{IsSortedBy, IsStableBy, ties}
use Rattle.std.specs.Ordering.{is_eq, is_gt, is_lt, ordering_then, ordering_reverse}
use Rattle.ev_value.specs.Order.{val_cmp}
use Rattle.ev_value.specs.declared.value.Val.{Val}
use Rattle.ev_value.proofs.Orders.{values_ordered}
use Rattle.ev_list.specs.Laws.{key_same, StandInOrder, SortIsStable}
use Rattle.ev_list.specs.Order.{absent_cmp, directed, key_cmp, keys_cmp, first_key, later_keys, is_behind, placed, in_order}
use Rattle.ev_list.specs.Sames.{val_exact, list_exact}
use Rattle.ev_list.specs.declared.order.Absent.{Absent}
use Rattle.ev_list.specs.declared.order.Absent.TheVariants as absent
use Rattle.ev_list.specs.declared.order.Direction.{Direction}
use Rattle.ev_list.specs.declared.order.Direction.TheVariants as direction
use Rattle.ev_list.specs.declared.order.KeyOrder.{KeyOrder}
use Rattle.ev_list.specs.declared.order.Keyed.{Keyed}

-- ---- the order of keys

turned_less : (o p : Ordering) → o ≡ ordering_reverse p → o ≡ Greater → p ≡ Less
turned_less o Less e h = refl
turned_less o Equal e h = cc
turned_less o Greater e h = cc

turned_greater : (o p : Ordering) → o ≡ ordering_reverse p → p ≡ Less → o ≡ Greater
turned_greater o Less e h = e
turned_greater o Equal e h = cc
turned_greater o Greater e h = cc

reverse_less : (o : Ordering) → ordering_reverse o ≡ Less → o ≡ Greater
reverse_less Less h = cc
reverse_less Equal h = cc
reverse_less Greater h = refl

reverse_equal : (o : Ordering) → ordering_reverse o ≡ Equal → o ≡ Equal
reverse_equal Less h = cc
reverse_equal Equal h = refl
reverse_equal Greater h = cc

total : IsTotalOrder val_cmp
total = values_ordered.0

-- an order turned round
directed_total : (d : Direction) → IsTotalOrder (λ v w. directed d (val_cmp v w))
directed_total direction.Ascending = total
directed_total direction.Descending = record {
  antisymm = λ v w. ap ordering_reverse (total.antisymm v w);
  trans = λ u v w e f.
      let g : val_cmp v u ≡ Less = turned_less (val_cmp u v) (val_cmp v u) (total.antisymm u v) (reverse_less (val_cmp u v) e) in
      let h : val_cmp w v ≡ Less = turned_less (val_cmp v w) (val_cmp w v) (total.antisymm v w) (reverse_less (val_cmp v w) f) in
      ap ordering_reverse (turned_greater (val_cmp u w) (val_cmp w u) (total.antisymm u w) (total.trans w v u h g));
  congr = λ u v w e. ap ordering_reverse (total.congr u v w (reverse_equal (val_cmp u v) e));
}

key_turned : (k : KeyOrder) (v w : Option Val) → key_cmp k v w ≡ ordering_reverse (key_cmp k w v)
key_turned k None None = refl
key_turned k None (Some w) = twice (absent_cmp k.absent)
  where
    twice : (o : Ordering) → o ≡ ordering_reverse (ordering_reverse o)
    twice Less = refl
    twice Equal = refl
    twice Greater = refl
key_turned k (Some v) None = refl
key_turned k (Some v) (Some w) = (directed_total k.direction).antisymm v w

-- an absent key never stands between: it is first or last
apart : (a : Absent) → absent_cmp a ≡ Less → ordering_reverse (absent_cmp a) ≡ Less → ⊥
apart absent.First e f = cc
apart absent.Last e f = cc

never_equal : (a : Absent) → absent_cmp a ≡ Equal → ⊥
never_equal absent.First e = cc
never_equal absent.Last e = cc

never_equal_back : (a : Absent) → ordering_reverse (absent_cmp a) ≡ Equal → ⊥
never_equal_back absent.First e = cc
never_equal_back absent.Last e = cc

key_through : (k : KeyOrder) (u v w : Option Val) → key_cmp k u v ≡ Less → key_cmp k v w ≡ Less → key_cmp k u w ≡ Less
key_through k None None w e f = f
key_through k None (Some v) None e f = absurd (apart k.absent e f)
key_through k None (Some v) (Some w) e f = e
key_through k (Some u) None None e f = cc
key_through k (Some u) None (Some w) e f = absurd (apart k.absent f e)
key_through k (Some u) (Some v) None e f = f
key_through k (Some u) (Some v) (Some w) e f = (directed_total k.direction).trans u v w e f

key_alike : (k : KeyOrder) (u v w : Option Val) → key_cmp k u v ≡ Equal → key_cmp k u w ≡ key_cmp k v w
key_alike k None None w e = refl
key_alike k None (Some v) w e = absurd (never_equal k.absent e)
key_alike k (Some u) None w e = absurd (never_equal_back k.absent e)
key_alike k (Some u) (Some v) None e = refl
key_alike k (Some u) (Some v) (Some w) e = (directed_total k.direction).congr u v w e

key_total : (k : KeyOrder) → IsTotalOrder (key_cmp k)
key_total k = record { antisymm = key_turned k; trans = key_through k; congr = key_alike k }

none_total : IsTotalOrder (λ (vs ws : List (Option Val)). Equal)
none_total = record { antisymm = λ u v. refl; trans = λ u v w e f. e; congr = λ u v w e. refl }

pub keys_total : (ks : List KeyOrder) → IsTotalOrder (keys_cmp ks)
keys_total [] = none_total
keys_total (k ∷ ks) = then_total (on_total first_key (key_total k)) (on_total later_keys (keys_total ks))

-- ---- a list that rises, and one that has the same elements in each tie, are one

module _ {X : Type 0} (lt : X → X → Bool) (w : IsStrictWeakOrder lt) where
  abbrev Rises : List X → Type 0
  Rises [] = Unit {0}
  Rises (x ∷ []) = Unit {0}
  Rises (x ∷ y ∷ more) = (lt y x ≡ false) × Rises (y ∷ more)

  rest_rises : (x : X) (xs : List X) → Rises (x ∷ xs) → Rises xs
  rest_rises x [] h = tt
  rest_rises x (y ∷ ys) h = h.1

  not_itself : (x : X) → lt x x ≡ false
  not_itself x = by_case (lt x x) refl
    where
      by_case : (b : Bool) → lt x x ≡ b → b ≡ false
      by_case false e = refl
      by_case true e = sym e ∙ w.one_way x x e

  tie_itself : (x : X) → ties lt x x ≡ true
  tie_itself x = ap (λ b. not b && not b) (not_itself x)

  -- what is before the first ties with none
  none_tied : (z x : X) (ys : List X) → lt z x ≡ true → Rises (x ∷ ys) → filter (ties lt z) (x ∷ ys) ≡ []
  none_tied z x [] h r = ap (λ b. cond (not b && not (lt x z)) (x ∷ []) []) h
  none_tied z x (y ∷ ys) h r =
      ap (λ b. cond (not b && not (lt x z)) (x ∷ filter (ties lt z) (y ∷ ys)) (filter (ties lt z) (y ∷ ys))) h ∙ none_tied z y ys (by_case (lt z y) refl) r.1
    where
      by_case : (b : Bool) → lt z y ≡ b → lt z y ≡ true
      by_case true e = e
      by_case false e = absurd (true≢false (sym h ∙ w.chain z y x e r.0))

  first_tied : (y : X) (ys : List X) → filter (ties lt y) (y ∷ ys) ≡ y ∷ filter (ties lt y) ys
  first_tied y ys = ap (λ b. cond b (y ∷ filter (ties lt y) ys) (filter (ties lt y) ys)) (tie_itself y)

  same_rest : (b : Bool) (y z : X) (ys zs : List X) → y ≡ z → cond b (y ∷ ys) ys ≡ cond b (z ∷ zs) zs → ys ≡ zs
  same_rest true y z ys zs e h = cc
  same_rest false y z ys zs e h = h

  unique : (ys zs : List X) → Rises ys → Rises zs → ((x : X) → filter (ties lt x) ys ≡ filter (ties lt x) zs) → ys ≡ zs
  unique [] [] r s h = refl
  unique [] (z ∷ zs) r s h = let e : [] ≡ z ∷ filter (ties lt z) zs = h z ∙ first_tied z zs in cc
  unique (y ∷ ys) [] r s h = let e : y ∷ filter (ties lt y) ys ≡ [] = sym (first_tied y ys) ∙ h y in cc
  unique (y ∷ ys) (z ∷ zs) r s h = by_case (lt y z) (lt z y) refl refl (unique ys zs (rest_rises y ys r) (rest_rises z zs s))
    where
      by_case : (a b : Bool) → lt y z ≡ a → lt z y ≡ b → (((x : X) → filter (ties lt x) ys ≡ filter (ties lt x) zs) → ys ≡ zs) → y ∷ ys ≡ z ∷ zs
      by_case true b e f more = let g : y ∷ filter (ties lt y) ys ≡ [] = sym (first_tied y ys) ∙ h y ∙ none_tied y z zs e s in cc
      by_case false true e f more = let g : [] ≡ z ∷ filter (ties lt z) zs = sym (none_tied z y ys f r) ∙ h z ∙ first_tied z zs in cc
      by_case false false e f more =
          let first : y ∷ filter (ties lt y) ys ≡ z ∷ filter (ties lt y) zs =
          sym (first_tied y ys) ∙ h y ∙ (λ i. cond (not (e i) && not (f i)) (z ∷ filter (ties lt y) zs) (filter (ties lt y) zs)) in
          let same : y ≡ z = cc in
          (λ i. same i ∷ more (λ x. same_rest (ties lt x y) y z (filter (ties lt x) ys) (filter (ties lt x) zs) same (h x ∙ ap (λ u. cond (ties lt x u) (z ∷ filter (ties lt x) zs) (filter (ties lt x) zs)) (sym same))) i)

  -- a sorted list rises
  rises : (xs : List X) → IsSortedBy lt xs → Rises xs
  rises [] h = tt
  rises (x ∷ []) h = tt
  rises (x ∷ y ∷ more) h = (h 0 x (omega arith) (omega arith), rises (y ∷ more) (λ k d low high. subst (λ n. lt (get_or (x ∷ y ∷ more) n d) (get_or (y ∷ more) k d) ≡ false) (one_more k) (h (suc k) d (omega arith) (omega arith))))
    where
      one_more : (k : ℕ) → suc k + 1 ≡ suc (k + 1)
      one_more k = omega arith

both_not : (a b : Bool) → (not a && not b) ≡ true → (a ≡ false) × (b ≡ false)
both_not true b h = cc
both_not false true h = cc
both_not false false h = (refl, refl)

module _ {A : Type 0} (ks : List KeyOrder) where
  turned : (x y : Keyed A) → is_behind ks x y ≡ true → is_behind ks y x ≡ false
  turned x y h = not_both (keys_cmp ks x.keys y.keys) (keys_cmp ks y.keys x.keys) ((keys_total ks).antisymm x.keys y.keys) h
    where
      not_both : (o p : Ordering) → o ≡ ordering_reverse p → is_gt o ≡ true → is_gt p ≡ false
      not_both o Less e h = refl
      not_both o Equal e h = refl
      not_both o Greater e h = absurd (true≢false (sym h ∙ ap is_gt e))

  -- ---- each as often

  one_more : (test : Keyed A → Bool) (x : Keyed A) (ys : List (Keyed A)) → length (filter test (placed ks x ys)) ≡ length (filter test (x ∷ ys))
  one_more test x [] = refl
  one_more test x (y ∷ ys) = by_case (one_more test x ys) (is_behind ks x y)
    where
      swap : (a b : Bool) (l : List (Keyed A)) → length (cond a (y ∷ cond b (x ∷ l) l) (cond b (x ∷ l) l)) ≡ length (cond b (x ∷ cond a (y ∷ l) l) (cond a (y ∷ l) l))
      swap true true l = refl
      swap true false l = refl
      swap false true l = refl
      swap false false l = refl

      more : (a : Bool) (l m : List (Keyed A)) → length l ≡ length m → length (cond a (y ∷ l) l) ≡ length (cond a (y ∷ m) m)
      more true l m e = ap suc e
      more false l m e = e

      by_case : length (filter test (placed ks x ys)) ≡ length (filter test (x ∷ ys)) → (b : Bool) → length (filter test (cond b (y ∷ placed ks x ys) (x ∷ y ∷ ys))) ≡ length (filter test (x ∷ y ∷ ys))
      by_case e true = more (test y) (filter test (placed ks x ys)) (filter test (x ∷ ys)) e ∙ swap (test y) (test x) (filter test ys)
      by_case e false = refl

  as_often : (xs : List (Keyed A)) (test : Keyed A → Bool) → length (filter test (in_order ks xs)) ≡ length (filter test xs)
  as_often [] test = refl
  as_often (x ∷ xs) test = one_more test x (in_order ks xs) ∙ more (test x) (filter test (in_order ks xs)) (filter test xs) (as_often xs test)
    where
      more : (a : Bool) (l m : List (Keyed A)) → length l ≡ length m → length (cond a (x ∷ l) l) ≡ length (cond a (x ∷ m) m)
      more true l m e = ap suc e
      more false l m e = e

  -- ---- in order

  placed_stands : (x : Keyed A) (ys : List (Keyed A)) → StandInOrder ks ys → StandInOrder ks (placed ks x ys)
  placed_stands x [] h = tt
  placed_stands x (y ∷ []) h = by_case (is_behind ks x y) refl
    where
      by_case : (b : Bool) → is_behind ks x y ≡ b → StandInOrder ks (cond b (y ∷ x ∷ []) (x ∷ y ∷ []))
      by_case true e = (turned x y e, tt)
      by_case false e = (e, tt)
  placed_stands x (y ∷ z ∷ ys) h = by_case (placed_stands x (z ∷ ys) h.1) (is_behind ks x y) refl
    where
      first : (c : Bool) → is_behind ks x y ≡ true → StandInOrder ks (cond c (z ∷ placed ks x ys) (x ∷ z ∷ ys)) → StandInOrder ks (y ∷ cond c (z ∷ placed ks x ys) (x ∷ z ∷ ys))
      first true e s = (h.0, s)
      first false e s = (turned x y e, s)

      by_case : StandInOrder ks (placed ks x (z ∷ ys)) → (b : Bool) → is_behind ks x y ≡ b → StandInOrder ks (cond b (y ∷ placed ks x (z ∷ ys)) (x ∷ y ∷ z ∷ ys))
      by_case s true e = first (is_behind ks x z) e s
      by_case s false e = (e, h)

  ordered : (xs : List (Keyed A)) → StandInOrder ks (in_order ks xs)
  ordered [] = tt
  ordered (x ∷ xs) = placed_stands x (in_order ks xs) (ordered xs)

  -- ---- stable: elements of which none stands behind another stay as they stood

  module _ (chosen : Keyed A → Bool) (tied : (x y : Keyed A) → chosen x ≡ true → chosen y ≡ true → is_behind ks x y ≡ false) where
    kept : (x : Keyed A) (ys : List (Keyed A)) → filter chosen (placed ks x ys) ≡ filter chosen (x ∷ ys)
    kept x [] = refl
    kept x (y ∷ ys) = by_case (kept x ys) (is_behind ks x y) refl
      where
        swap : (a b : Bool) (l : List (Keyed A)) → chosen x ≡ a → chosen y ≡ b → is_behind ks x y ≡ true → cond b (y ∷ cond a (x ∷ l) l) (cond a (x ∷ l) l) ≡ cond a (x ∷ cond b (y ∷ l) l) (cond b (y ∷ l) l)
        swap true true l e f g = absurd (true≢false (sym g ∙ tied x y e f))
        swap true false l e f g = refl
        swap false true l e f g = refl
        swap false false l e f g = refl

        by_case : filter chosen (placed ks x ys) ≡ filter chosen (x ∷ ys) → (b : Bool) → is_behind ks x y ≡ b → filter chosen (cond b (y ∷ placed ks x ys) (x ∷ y ∷ ys)) ≡ filter chosen (x ∷ y ∷ ys)
        by_case e true g = ap (λ l. cond (chosen y) (y ∷ l) l) e ∙ swap (chosen x) (chosen y) (filter chosen ys) refl refl g
        by_case e false g = refl

    stays : (xs : List (Keyed A)) → filter chosen (in_order ks xs) ≡ filter chosen xs
    stays [] = refl
    stays (x ∷ xs) = kept x (in_order ks xs) ∙ ap (λ l. cond (chosen x) (x ∷ l) l) (stays xs)

  -- ---- a stable sort gives just this list

  abbrev pub less : Keyed A → Keyed A → Bool
  less x y = is_lt (keys_cmp ks x.keys y.keys)

  pub weak : IsStrictWeakOrder less
  weak = ranks_by (keys_total ks) (λ x. x.keys)

  back : (x y : Keyed A) → is_behind ks x y ≡ less y x
  back x y = by_case (keys_cmp ks x.keys y.keys) (keys_cmp ks y.keys x.keys) ((keys_total ks).antisymm x.keys y.keys)
    where
      by_case : (o p : Ordering) → o ≡ ordering_reverse p → is_gt o ≡ is_lt p
      by_case o Less e = ap is_gt e
      by_case o Equal e = ap is_gt e
      by_case o Greater e = ap is_gt e

  tie_stands : (x y z : Keyed A) → ties less x y ≡ true → ties less x z ≡ true → is_behind ks y z ≡ false
  tie_stands x y z h k =
      let p : (less x y ≡ false) × (less y x ≡ false) = both_not (less x y) (less y x) h in
      let q : (less x z ≡ false) × (less z x ≡ false) = both_not (less x z) (less z x) k in
      upto (keys_total ks) y.keys x.keys z.keys (back y x ∙ p.0) (back x z ∙ q.1)

  stands_rises : (xs : List (Keyed A)) → StandInOrder ks xs → Rises less weak xs
  stands_rises [] h = tt
  stands_rises (x ∷ []) h = tt
  stands_rises (x ∷ y ∷ more) h = (sym (back x y) ∙ h.0, stands_rises (y ∷ more) h.1)

  pub sorted_is : (xs ys : List (Keyed A)) → IsSortedBy less ys → IsStableBy less xs ys → ys ≡ in_order ks xs
  sorted_is xs ys s t =
      unique less weak ys (in_order ks xs) (rises less weak ys s) (stands_rises (in_order ks xs) (ordered xs))
      (λ x. t x ∙ sym (stays (ties less x) (λ y z h k. tie_stands x y z h k) xs))

-- ---- the same keys

key_exact : (v w : Option Val) → (key_same v w ≡ true) ↔ (v ≡ w)
key_exact None None = ((λ h. refl), (λ e. refl))
key_exact None (Some w) = ((λ h. cc), (λ e. cc))
key_exact (Some v) None = ((λ h. cc), (λ e. cc))
key_exact (Some v) (Some w) = ((λ h. ap Some ((val_exact v w).0 h)), (λ e. (val_exact v w).1 (let f : v ≡ w = cc in f)))

-- of two elements with the same keys none stands behind the other
tied : {A : Type 0} (ks : List KeyOrder) (keys : List (Option Val)) (x y : Keyed A) → pointwise key_same keys x.keys ≡ true → pointwise key_same keys y.keys ≡ true → is_behind ks x y ≡ false
tied ks keys x y h k =
    let e : keys ≡ x.keys = (list_exact key_same key_exact keys x.keys).0 h in
    let f : keys ≡ y.keys = (list_exact key_same key_exact keys y.keys).0 k in
    ap is_gt (sym (λ i. keys_cmp ks (e i) (f i)) ∙ tied_itself (keys_total ks) keys)

pub sort_is_stable : (A : Type 0) → SortIsStable A
sort_is_stable A = record {
  as_often = λ ks xs test. as_often ks xs test;
  ordered = λ ks xs. ordered ks xs;
  stable = λ ks xs keys. stays ks (λ x. pointwise key_same keys x.keys) (tied ks keys) xs;
}

-- ---- a closure that compares by keys

pub compares : {A : Type 0} (ks : List KeyOrder) {F : Type 0} {g : Mut F (Bor (Keyed A) × (Bor (Keyed A) × Unit {0})) Ordering} {f : F}
    → ((a : Bor (Keyed A) × (Bor (Keyed A) × Unit {0})) (r : Ordering) (f' : F) → Called g f a r f' → (r ≡ keys_cmp ks a.0.now.keys a.1.0.now.keys) × (f' ≡ f)) → ComparesAs g (less ks) f
compares ks {g = g} {f = f} h = always_returns_same g (λ a r. is_lt r ≡ less ks a.0.now a.1.0.now) f (λ a r f' k. (ap is_lt (h a r f' k).0, (h a r f' k).1))
