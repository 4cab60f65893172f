-- What holds of lists holds of what is made of them.
use Rattle.std.proofs.Common.{◌≡◌, ◌⊎◌, inl, inr, ℕ, suc, Option, Some, None, ◌+◌, ◌*◌, ◌≤◌, true, false, List, [], ◌∷◌, ◌++◌, length, length-append, refl, sym, subst, arith}
use Rattle.ev_value.specs.Item.{bind, has_fault, EachValue}
use Rattle.ev_value.specs.declared.item.Item.{Item}
use Rattle.ev_value.specs.declared.item.Item.TheVariants as item
use Rattle.core_ir.specs.Card.{Within, least, most, times, plus, either}
use Rattle.core_ir.specs.declared.card.Card.{Card}
use Rattle.core_ir.specs.declared.card.Card.TheVariants as card
use Rattle.eql_holds.specs.Holds.{HoldsOf, HoldingIsKept}

fault_first : {A : Type 0} (xs ys : List (Item A)) → has_fault xs ≡ true → has_fault (xs ++ ys) ≡ true
fault_first [] ys e = let clash : false ≡ true = e in absurd cc
fault_first (item.Value a ∷ xs) ys e = fault_first xs ys e
fault_first (item.Fault f ∷ xs) ys e = refl

fault_second : {A : Type 0} (xs ys : List (Item A)) → has_fault ys ≡ true → has_fault (xs ++ ys) ≡ true
fault_second [] ys e = e
fault_second (item.Value a ∷ xs) ys e = fault_second xs ys e
fault_second (item.Fault f ∷ xs) ys e = refl

-- ---- bounds

sum_within : (c d : Card) (m n : ℕ) → Within c m → Within d n → Within (plus c d) (m + n)
sum_within card.Empty card.Empty m n v w = (omega (arith, v.0, v.1, w.0, w.1), omega (arith, v.0, v.1, w.0, w.1))
sum_within card.Empty card.AtMostOne m n v w = (omega (arith, v.0, v.1, w.0, w.1), omega (arith, v.0, v.1, w.0, w.1))
sum_within card.Empty card.One m n v w = (omega (arith, v.0, v.1, w.0, w.1), omega (arith, v.0, v.1, w.0, w.1))
sum_within card.Empty card.AtLeastOne m n v w = (omega (arith, v.0, v.1, w.0), tt)
sum_within card.Empty card.Many m n v w = (omega (arith, v.0, v.1, w.0), tt)
sum_within card.AtMostOne card.Empty m n v w = (omega (arith, v.0, v.1, w.0, w.1), omega (arith, v.0, v.1, w.0, w.1))
sum_within card.AtMostOne card.AtMostOne m n v w = (omega (arith, v.0, v.1, w.0, w.1), tt)
sum_within card.AtMostOne card.One m n v w = (omega (arith, v.0, v.1, w.0, w.1), tt)
sum_within card.AtMostOne card.AtLeastOne m n v w = (omega (arith, v.0, v.1, w.0), tt)
sum_within card.AtMostOne card.Many m n v w = (omega (arith, v.0, v.1, w.0), tt)
sum_within card.One card.Empty m n v w = (omega (arith, v.0, v.1, w.0, w.1), omega (arith, v.0, v.1, w.0, w.1))
sum_within card.One card.AtMostOne m n v w = (omega (arith, v.0, v.1, w.0, w.1), tt)
sum_within card.One card.One m n v w = (omega (arith, v.0, v.1, w.0, w.1), tt)
sum_within card.One card.AtLeastOne m n v w = (omega (arith, v.0, v.1, w.0), tt)
sum_within card.One card.Many m n v w = (omega (arith, v.0, v.1, w.0), tt)
sum_within card.AtLeastOne card.Empty m n v w = (omega (arith, v.0, w.0, w.1), tt)
sum_within card.AtLeastOne card.AtMostOne m n v w = (omega (arith, v.0, w.0, w.1), tt)
sum_within card.AtLeastOne card.One m n v w = (omega (arith, v.0, w.0, w.1), tt)
sum_within card.AtLeastOne card.AtLeastOne m n v w = (omega (arith, v.0, w.0), tt)
sum_within card.AtLeastOne card.Many m n v w = (omega (arith, v.0, w.0), tt)
sum_within card.Many card.Empty m n v w = (omega (arith, v.0, w.0, w.1), tt)
sum_within card.Many card.AtMostOne m n v w = (omega (arith, v.0, w.0, w.1), tt)
sum_within card.Many card.One m n v w = (omega (arith, v.0, w.0, w.1), tt)
sum_within card.Many card.AtLeastOne m n v w = (omega (arith, v.0, w.0), tt)
sum_within card.Many card.Many m n v w = (omega (arith, v.0, w.0), tt)

first_within : (c d : Card) (n : ℕ) → Within c n → Within (either c d) n
first_within card.Empty card.Empty n v = (omega (arith, v.0, v.1), omega (arith, v.0, v.1))
first_within card.Empty card.AtMostOne n v = (omega (arith, v.0, v.1), omega (arith, v.0, v.1))
first_within card.Empty card.One n v = (omega (arith, v.0, v.1), omega (arith, v.0, v.1))
first_within card.Empty card.AtLeastOne n v = (omega (arith, v.0, v.1), tt)
first_within card.Empty card.Many n v = (omega (arith, v.0, v.1), tt)
first_within card.AtMostOne card.Empty n v = (omega (arith, v.0, v.1), omega (arith, v.0, v.1))
first_within card.AtMostOne card.AtMostOne n v = (omega (arith, v.0, v.1), omega (arith, v.0, v.1))
first_within card.AtMostOne card.One n v = (omega (arith, v.0, v.1), omega (arith, v.0, v.1))
first_within card.AtMostOne card.AtLeastOne n v = (omega (arith, v.0, v.1), tt)
first_within card.AtMostOne card.Many n v = (omega (arith, v.0, v.1), tt)
first_within card.One card.Empty n v = (omega (arith, v.0, v.1), omega (arith, v.0, v.1))
first_within card.One card.AtMostOne n v = (omega (arith, v.0, v.1), omega (arith, v.0, v.1))
first_within card.One card.One n v = (omega (arith, v.0, v.1), omega (arith, v.0, v.1))
first_within card.One card.AtLeastOne n v = (omega (arith, v.0, v.1), tt)
first_within card.One card.Many n v = (omega (arith, v.0, v.1), tt)
first_within card.AtLeastOne card.Empty n v = (omega (arith, v.0), tt)
first_within card.AtLeastOne card.AtMostOne n v = (omega (arith, v.0), tt)
first_within card.AtLeastOne card.One n v = (omega (arith, v.0), tt)
first_within card.AtLeastOne card.AtLeastOne n v = (omega (arith, v.0), tt)
first_within card.AtLeastOne card.Many n v = (omega (arith, v.0), tt)
first_within card.Many card.Empty n v = (omega (arith, v.0), tt)
first_within card.Many card.AtMostOne n v = (omega (arith, v.0), tt)
first_within card.Many card.One n v = (omega (arith, v.0), tt)
first_within card.Many card.AtLeastOne n v = (omega (arith, v.0), tt)
first_within card.Many card.Many n v = (omega (arith, v.0), tt)

second_within : (c d : Card) (n : ℕ) → Within d n → Within (either c d) n
second_within card.Empty card.Empty n w = (omega (arith, w.0, w.1), omega (arith, w.0, w.1))
second_within card.Empty card.AtMostOne n w = (omega (arith, w.0, w.1), omega (arith, w.0, w.1))
second_within card.Empty card.One n w = (omega (arith, w.0, w.1), omega (arith, w.0, w.1))
second_within card.Empty card.AtLeastOne n w = (omega (arith, w.0), tt)
second_within card.Empty card.Many n w = (omega (arith, w.0), tt)
second_within card.AtMostOne card.Empty n w = (omega (arith, w.0, w.1), omega (arith, w.0, w.1))
second_within card.AtMostOne card.AtMostOne n w = (omega (arith, w.0, w.1), omega (arith, w.0, w.1))
second_within card.AtMostOne card.One n w = (omega (arith, w.0, w.1), omega (arith, w.0, w.1))
second_within card.AtMostOne card.AtLeastOne n w = (omega (arith, w.0), tt)
second_within card.AtMostOne card.Many n w = (omega (arith, w.0), tt)
second_within card.One card.Empty n w = (omega (arith, w.0, w.1), omega (arith, w.0, w.1))
second_within card.One card.AtMostOne n w = (omega (arith, w.0, w.1), omega (arith, w.0, w.1))
second_within card.One card.One n w = (omega (arith, w.0, w.1), omega (arith, w.0, w.1))
second_within card.One card.AtLeastOne n w = (omega (arith, w.0), tt)
second_within card.One card.Many n w = (omega (arith, w.0), tt)
second_within card.AtLeastOne card.Empty n w = (omega (arith, w.0, w.1), tt)
second_within card.AtLeastOne card.AtMostOne n w = (omega (arith, w.0, w.1), tt)
second_within card.AtLeastOne card.One n w = (omega (arith, w.0, w.1), tt)
second_within card.AtLeastOne card.AtLeastOne n w = (omega (arith, w.0), tt)
second_within card.AtLeastOne card.Many n w = (omega (arith, w.0), tt)
second_within card.Many card.Empty n w = (omega (arith, w.0, w.1), tt)
second_within card.Many card.AtMostOne n w = (omega (arith, w.0, w.1), tt)
second_within card.Many card.One n w = (omega (arith, w.0, w.1), tt)
second_within card.Many card.AtLeastOne n w = (omega (arith, w.0), tt)
second_within card.Many card.Many n w = (omega (arith, w.0), tt)

-- so many lists, each with as many items as a cardinality says, have so many items together
abbrev AtMostTimes : Option ℕ → ℕ → ℕ → Type 0
AtMostTimes (Some m) n t = t ≤ m * n
AtMostTimes None n t = n ≤ 0 → t ≤ 0

abbrev Bounded : Card → ℕ → ℕ → Type 0
Bounded d n t = (least d * n ≤ t) × AtMostTimes (most d) n t

none_bounded : (d : Card) → Bounded d 0 0
none_bounded card.Empty = (omega arith, omega arith)
none_bounded card.AtMostOne = (omega arith, omega arith)
none_bounded card.One = (omega arith, omega arith)
none_bounded card.AtLeastOne = (omega arith, λ h. omega arith)
none_bounded card.Many = (omega arith, λ h. omega arith)

more_bounded : (d : Card) (k n t : ℕ) → Within d k → Bounded d n t → Bounded d (suc n) (k + t)
more_bounded card.Empty k n t w b = (omega (arith, w.0, b.0, w.1, b.1), omega (arith, w.0, b.0, w.1, b.1))
more_bounded card.AtMostOne k n t w b = (omega (arith, w.0, b.0, w.1, b.1), omega (arith, w.0, b.0, w.1, b.1))
more_bounded card.One k n t w b = (omega (arith, w.0, b.0, w.1, b.1), omega (arith, w.0, b.0, w.1, b.1))
more_bounded card.AtLeastOne k n t w b = (omega (arith, w.0, b.0), λ h. omega (arith, h))
more_bounded card.Many k n t w b = (omega (arith, w.0, b.0), λ h. omega (arith, h))

each_within : (c d : Card) (n t : ℕ) → Within c n → Bounded d n t → Within (times c d) t
each_within card.Empty card.Empty n t v w = (omega (arith, v.0, v.1, w.0, w.1), omega (arith, v.0, v.1, w.0, w.1))
each_within card.Empty card.AtMostOne n t v w = (omega (arith, v.0, v.1, w.0, w.1), omega (arith, v.0, v.1, w.0, w.1))
each_within card.Empty card.One n t v w = (omega (arith, v.0, v.1, w.0, w.1), omega (arith, v.0, v.1, w.0, w.1))
each_within card.Empty card.AtLeastOne n t v w = (omega arith, w.1 v.1)
each_within card.Empty card.Many n t v w = (omega arith, w.1 v.1)
each_within card.AtMostOne card.Empty n t v w = (omega (arith, v.0, v.1, w.0, w.1), omega (arith, v.0, v.1, w.0, w.1))
each_within card.AtMostOne card.AtMostOne n t v w = (omega (arith, v.0, v.1, w.0, w.1), omega (arith, v.0, v.1, w.0, w.1))
each_within card.AtMostOne card.One n t v w = (omega (arith, v.0, v.1, w.0, w.1), omega (arith, v.0, v.1, w.0, w.1))
each_within card.AtMostOne card.AtLeastOne n t v w = (omega (arith, v.0, v.1, w.0), tt)
each_within card.AtMostOne card.Many n t v w = (omega (arith, v.0, v.1, w.0), tt)
each_within card.One card.Empty n t v w = (omega (arith, v.0, v.1, w.0, w.1), omega (arith, v.0, v.1, w.0, w.1))
each_within card.One card.AtMostOne n t v w = (omega (arith, v.0, v.1, w.0, w.1), omega (arith, v.0, v.1, w.0, w.1))
each_within card.One card.One n t v w = (omega (arith, v.0, v.1, w.0, w.1), omega (arith, v.0, v.1, w.0, w.1))
each_within card.One card.AtLeastOne n t v w = (omega (arith, v.0, v.1, w.0), tt)
each_within card.One card.Many n t v w = (omega (arith, v.0, v.1, w.0), tt)
each_within card.AtLeastOne card.Empty n t v w = (omega (arith, v.0, w.0, w.1), omega (arith, v.0, w.0, w.1))
each_within card.AtLeastOne card.AtMostOne n t v w = (omega (arith, v.0, w.0, w.1), tt)
each_within card.AtLeastOne card.One n t v w = (omega (arith, v.0, w.0, w.1), tt)
each_within card.AtLeastOne card.AtLeastOne n t v w = (omega (arith, v.0, w.0), tt)
each_within card.AtLeastOne card.Many n t v w = (omega (arith, v.0, w.0), tt)
each_within card.Many card.Empty n t v w = (omega (arith, v.0, w.0, w.1), omega (arith, v.0, w.0, w.1))
each_within card.Many card.AtMostOne n t v w = (omega (arith, v.0, w.0, w.1), tt)
each_within card.Many card.One n t v w = (omega (arith, v.0, w.0, w.1), tt)
each_within card.Many card.AtLeastOne n t v w = (omega (arith, v.0, w.0), tt)
each_within card.Many card.Many n t v w = (omega (arith, v.0, w.0), tt)

-- ---- lists

both : {A : Type 0} (c d : Card) (xs ys : List (Item A)) → HoldsOf c xs → HoldsOf d ys → HoldsOf (plus c d) (xs ++ ys)
both c d xs ys (inl e) h = inl (fault_first xs ys e)
both c d xs ys (inr v) (inl e) = inl (fault_second xs ys e)
both c d xs ys (inr v) (inr w) = inr (subst (λ (n : ℕ). Within (plus c d) n) (sym (length-append xs ys)) (sum_within c d (length xs) (length ys) v w))

bind_fault : {A B : Type 0} (xs : List (Item A)) (f : A → List (Item B)) → has_fault xs ≡ true → has_fault (bind xs f) ≡ true
bind_fault [] f e = let clash : false ≡ true = e in absurd cc
bind_fault (item.Value a ∷ xs) f e = fault_second (f a) (bind xs f) (bind_fault xs f e)
bind_fault (item.Fault g ∷ xs) f e = refl

each_value : {A B : Type 0} (d : Card) (a : A) (xs : List (Item A)) (f : A → List (Item B)) → HoldsOf d (f a)
    → (has_fault (bind xs f) ≡ true) ⊎ Bounded d (length xs) (length (bind xs f))
    → (has_fault (f a ++ bind xs f) ≡ true) ⊎ Bounded d (suc (length xs)) (length (f a ++ bind xs f))
each_value d a xs f (inl e) later = inl (fault_first (f a) (bind xs f) e)
each_value d a xs f (inr w) (inl e) = inl (fault_second (f a) (bind xs f) e)
each_value d a xs f (inr w) (inr b) =
    inr (subst (λ (n : ℕ). Bounded d (suc (length xs)) n) (sym (length-append (f a) (bind xs f))) (more_bounded d (length (f a)) (length xs) (length (bind xs f)) w b))

each : {A B : Type 0} (d : Card) (xs : List (Item A)) (f : A → List (Item B)) → EachValue (λ a. HoldsOf d (f a)) xs
    → (has_fault (bind xs f) ≡ true) ⊎ Bounded d (length xs) (length (bind xs f))
each d [] f h = inr (none_bounded d)
each d (item.Value a ∷ xs) f h = each_value d a xs f h.0 (each d xs f h.1)
each d (item.Fault g ∷ xs) f h = inl refl

counted : {A B : Type 0} (c d : Card) (xs : List (Item A)) (f : A → List (Item B)) → Within c (length xs)
    → (has_fault (bind xs f) ≡ true) ⊎ Bounded d (length xs) (length (bind xs f)) → HoldsOf (times c d) (bind xs f)
counted c d xs f v (inl e) = inl e
counted c d xs f v (inr b) = inr (each_within c d (length xs) (length (bind xs f)) v b)

of_all : {A B : Type 0} (c d : Card) (xs : List (Item A)) (f : A → List (Item B)) → HoldsOf c xs → EachValue (λ a. HoldsOf d (f a)) xs → HoldsOf (times c d) (bind xs f)
of_all c d xs f (inl e) h = inl (bind_fault xs f e)
of_all c d xs f (inr v) h = counted c d xs f v (each d xs f h)

one_or : {A : Type 0} (c d : Card) (xs : List (Item A)) → HoldsOf c xs → HoldsOf (either c d) xs
one_or c d xs (inl e) = inl e
one_or c d xs (inr v) = inr (first_within c d (length xs) v)

or_other : {A : Type 0} (c d : Card) (xs : List (Item A)) → HoldsOf d xs → HoldsOf (either c d) xs
or_other c d xs (inl e) = inl e
or_other c d xs (inr v) = inr (second_within c d (length xs) v)

pub holding_is_kept : (A B : Type 0) → HoldingIsKept A B
holding_is_kept A B = record { of_both = both; of_each = of_all; of_first = one_or; of_second = or_other }
