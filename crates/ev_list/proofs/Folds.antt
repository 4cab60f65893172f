-- Loops that take a list from its end.
use Rattle.std.proofs.Common.{◌≡◌, List, [], ◌∷◌, ◌++◌, None, refl, sym, ap, ◌∙◌}
use Rattle.ev_value.specs.declared.value.Val.{Val}
use Rattle.ev_list.specs.Aggregate.{with_rest, lesser, greater, least, greatest}
use Rattle.ev_list.specs.declared.order.KeyOrder.{KeyOrder}
use Rattle.ev_list.specs.declared.order.Keyed.{Keyed}

-- what f makes of the elements from the last to the first, on top of what is there
abbrev pub onto : {A B : Type 0} → (A → B → B) → List A → B → B
onto f [] b = b
onto f (x ∷ xs) b = f x (onto f xs b)

pub onto_last : {A B : Type 0} (f : A → B → B) (xs : List A) (x : A) (b : B) → onto f (xs ++ x ∷ []) b ≡ onto f xs (f x b)
onto_last f [] x b = refl
onto_last f (y ∷ ys) x b = ap (f y) (onto_last f ys x b)

-- one turn: what was left is what is left now and one more
pub onto_turn : {A B : Type 0} (f : A → B → B) (whole next : B) (old new : List A) (x : A) (b : B) → onto f old b ≡ whole → old ≡ new ++ x ∷ [] → next ≡ f x b → onto f new next ≡ whole
onto_turn f whole next old new x b is e n = ap (onto f new) n ∙ sym (onto_last f new x b) ∙ ap (λ l. onto f l b) (sym e) ∙ is

pub onto_end : {A B : Type 0} (f : A → B → B) (whole : B) (old : List A) (b : B) → onto f old b ≡ whole → old ≡ [] → b ≡ whole
onto_end f whole old b is e = sym (ap (λ l. onto f l b) e) ∙ is

pub least_onto : (vs : List Val) → onto (with_rest lesser) vs None ≡ least vs
least_onto [] = refl
least_onto (v ∷ vs) = ap (with_rest lesser v) (least_onto vs)

pub greatest_onto : (vs : List Val) → onto (with_rest greater) vs None ≡ greatest vs
greatest_onto [] = refl
greatest_onto (v ∷ vs) = ap (with_rest greater v) (greatest_onto vs)
