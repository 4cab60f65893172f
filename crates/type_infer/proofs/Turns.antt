-- The turns of loops over parts.
use Rattle.std.proofs.Common.{◌≡◌, ℕ, ◌+◌, ◌<◌, ◌≤◌, List, [], ◌∷◌, ◌++◌, length, get_or, drop, ap, ◌∙◌}
use Rattle.core_ir.specs.declared.ty.Ty.{Ty}
use Rattle.plan.specs.Plan.{Told, Given, and_then, tells}
use Rattle.plan.specs.Ruled.{in_turn, each_with}
use Rattle.plan.proofs.Folds.{goes, comes, ends, turn, step, finish}
use Rattle.type_rules.specs.declared.refusal.TypeRefusal.{TypeRefusal}
use Rattle.type_rules.specs.Known.{Known}
use Rattle.type_infer.specs.Known.{Typing}
use Rattle.type_infer.specs.Typing.{behind}
use Rattle.type_infer.proofs.Refusals.{and_then_assoc}

-- Parts with the types of their items.
module _ {A X : Type 0} (f : X → Typing (A × Ty)) (done : List A × List Ty) (xs : List X) (i : ℕ) (k : Known) (whole : Told TypeRefusal ((List A × List Ty) × Known)) where
  abbrev one : List A × List Ty → X → Typing (List A × List Ty)
  one done x = behind done (f x)

  abbrev with : A × Ty → List A × List Ty
  with x = (done.0 ++ x.0 ∷ [], done.1 ++ x.1 ∷ [])

  -- a part that has its type
  pub part_typed : (x : X) (y : A × Ty) (next : Known) → i < length xs → x ≡ get_or xs i x → tells (in_turn one done (drop i xs) k) ≡ whole → tells (f x k) ≡ Given (y, next)
      → tells (in_turn one (done.0 ++ y.0 ∷ [], done.1 ++ y.1 ∷ []) (drop (i + 1) xs) next) ≡ whole
  part_typed x y next lt is inv e =
      goes one done xs i k whole x (with y) next lt is inv (ap (λ t. and_then t (λ b. Given (with b.0, b.1))) e)

  -- what is left is the next part and what comes after it
  pub part_comes : (x : X) → i < length xs → x ≡ get_or xs i x → tells (in_turn one done (drop i xs) k) ≡ whole
      → whole ≡ and_then (tells (f x k)) (λ b. tells (in_turn one (with b.0) (drop (i + 1) xs) b.1))
  part_comes x lt is inv = comes one done xs i k whole x lt is inv ∙ and_then_assoc (tells (f x k)) (λ b. Given (with b.0, b.1)) (λ b. tells (in_turn one b.0 (drop (i + 1) xs) b.1))

  -- no part is left
  pub parts_end : length xs ≤ i → tells (in_turn one done (drop i xs) k) ≡ whole → whole ≡ Given (done, k)
  parts_end h inv = ends one done xs i k whole h inv

-- Items alone.
module _ {Y X : Type 0} (f : X → Typing Y) (done : List Y) (xs : List X) (i : ℕ) (k : Known) (whole : Told TypeRefusal (List Y × Known)) where
  abbrev item : List Y → X → Typing Y
  item done x = f x

  -- an item that has its types
  pub item_typed : (x : X) (y : Y) (next : Known) → i < length xs → x ≡ get_or xs i x → tells (each_with item done (drop i xs) k) ≡ whole → tells (f x k) ≡ Given (y, next)
      → tells (each_with item (done ++ y ∷ []) (drop (i + 1) xs) next) ≡ whole
  item_typed x y next lt is inv e = turn item done xs i k whole x y next lt is inv e

  -- what is left is the next item and what comes after it
  pub items_come : (x : X) → i < length xs → x ≡ get_or xs i x → tells (each_with item done (drop i xs) k) ≡ whole
      → whole ≡ and_then (tells (f x k)) (λ b. tells (each_with item (done ++ b.0 ∷ []) (drop (i + 1) xs) b.1))
  items_come x lt is inv = step item done xs i k whole x lt is inv

  -- no item is left
  pub items_end : length xs ≤ i → tells (each_with item done (drop i xs) k) ≡ whole → whole ≡ Given (done, k)
  items_end h inv = finish item done xs i k whole h inv
