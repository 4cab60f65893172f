-- What is the same is equal.
use Rattle.std.proofs.Common.{◌≡◌, ◌↔◌, List, [], ◌∷◌, Bool, true, false, ◌&&◌, refl, ap, ◌∙◌, subst, Equal, Less, Greater, Ordering}
use Rattle.std.specs.Cmp.Lexicographic.{pointwise}
use Rattle.std.specs.Ordering.{is_eq}
use Rattle.ev_value.specs.Order.{val_cmp}
use Rattle.ev_value.specs.declared.value.Val.{Val}
use Rattle.ev_value.proofs.Orders.{values_ordered}

equal_is : (o : Ordering) → is_eq o ≡ true → o ≡ Equal
equal_is Less h = cc
equal_is Equal h = refl
equal_is Greater h = cc

pub val_exact : (v w : Val) → (is_eq (val_cmp v w) ≡ true) ↔ (v ≡ w)
val_exact v w = ((λ h. (values_ordered.1 v w).0 (equal_is (val_cmp v w) h)), (λ h. ap is_eq ((values_ordered.1 v w).1 h)))

and_both : (a b : Bool) → (a && b) ≡ true → (a ≡ true) × (b ≡ true)
and_both true b h = (refl, h)
and_both false b h = cc

module _ {A : Type 0} (same : A → A → Bool) (exact : (x y : A) → (same x y ≡ true) ↔ (x ≡ y)) where
  pub same_itself : (x : A) → same x x ≡ true
  same_itself x = (exact x x).1 refl

  all_same : (xs ys : List A) → pointwise same xs ys ≡ true → xs ≡ ys
  all_same [] [] h = refl
  all_same [] (y ∷ ys) h = cc
  all_same (x ∷ xs) [] h = cc
  all_same (x ∷ xs) (y ∷ ys) h =
      let both : (same x y ≡ true) × (pointwise same xs ys ≡ true) = and_both (same x y) (pointwise same xs ys) h in
      λ i. (exact x y).0 both.0 i ∷ all_same xs ys both.1 i

  all_itself : (xs : List A) → pointwise same xs xs ≡ true
  all_itself [] = refl
  all_itself (x ∷ xs) = ap (λ b. b && pointwise same xs xs) (same_itself x) ∙ all_itself xs

  pub list_exact : (xs ys : List A) → (pointwise same xs ys ≡ true) ↔ (xs ≡ ys)
  list_exact xs ys = (all_same xs ys, λ e. subst (λ l. pointwise same xs l ≡ true) e (all_itself xs))
