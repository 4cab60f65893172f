-- The rule on exclusive values (X13).
use Rattle.std.specs.Prelude.{ℕ, suc, ◌==◌, ◌&&◌, nat_lt, Bool, false, List, [], ◌∷◌, Option, Some, None, slice_get, if◌then◌else◌}
use Rattle.std.specs.List.{list_any}
use Rattle.ev_value.specs.declared.value.Val.{Val}
use Rattle.core_ir.specs.declared.path.PtrId.{PtrId}
use Rattle.ev_schema.specs.declared.pointer.PtrInfo.{PtrInfo}
use Rattle.db_store.specs.Fits.{is_exclusive}
use Rattle.db_store.specs.Limits.{same}
use Rattle.db_store.specs.Objects.{items_at}
use Rattle.db_store.specs.declared.object.Object.{Object}
use Rattle.db_draft.specs.First.{or_else, when}
use Rattle.db_draft.specs.declared.refusal.Broken.{Broken}
use Rattle.db_draft.specs.declared.refusal.Rule.TheVariants as rule

abbrev pub is_exclusive_if_known : Option PtrInfo → Bool
is_exclusive_if_known None = false
is_exclusive_if_known (Some info) = list_any is_exclusive info.limits

-- whether no two objects may have one value of a pointer
abbrev pub is_exclusive_pointer : List PtrInfo → PtrId → Bool
is_exclusive_pointer infos p = is_exclusive_if_known (slice_get infos p.0)

-- who holds a value for a pointer: the number of the first object that has it, if one does
abbrev pub Holding : Type 0
Holding = PtrId → Val → Option ℕ

abbrev pub nobody : Holding
nobody p v = None

-- the same once an object has a value for a pointer too
abbrev pub held_too : Holding → PtrId → Val → ℕ → Holding
held_too held p v n q w = or_else (held q w) (when (p.0 == q.0 && same v w) n)

-- the lesser of two numbers, each if there is one
abbrev pub lesser : Option ℕ → Option ℕ → Option ℕ
lesser None n = n
lesser (Some m) None = Some m
lesser (Some m) (Some n) = if nat_lt n m then Some n else Some m

-- the same once an object has some values for a pointer too
abbrev pub held_with : Holding → ℕ → PtrId → List Val → Holding
held_with held n p [] = held
held_with held n p (v ∷ more) = held_with (held_too held p v n) n p more

-- The least object that holds one of some values before it, and of one that was found before: the object itself where it repeats its own
-- value alone.
abbrev pub repeated : Option ℕ → Holding → ℕ → PtrId → List Val → Option ℕ
repeated found held n p [] = found
repeated found held n p (v ∷ more) = repeated (lesser found (held p v)) (held_too held p v n) n p more

module _ (infos : List PtrInfo) where
  -- the items that an object has for a pointer, where it is exclusive
  abbrev pub exclusive_items : Object → PtrId → List Val
  exclusive_items o p = if is_exclusive_pointer infos p then items_at o p else []

  -- who holds what once an object has its values for some pointers too
  abbrev pub held_after : Holding → ℕ → Object → List PtrId → Holding
  held_after held n o [] = held
  held_after held n o (p ∷ more) = held_after (held_with held n p (exclusive_items o p)) n o more

  -- the other object at the first of some pointers whose value stands twice
  abbrev pub clash : Holding → ℕ → Object → List PtrId → Option ℕ
  clash held n o [] = None
  clash held n o (p ∷ more) = or_else (repeated None held n p (exclusive_items o p)) (clash (held_with held n p (exclusive_items o p)) n o more)

abbrev pub pointers_at : Option (List PtrId) → List PtrId
pointers_at None = []
pointers_at (Some ps) = ps

abbrev pub told_clash : ℕ → Option ℕ → Option Broken
told_clash n None = None
told_clash n (Some other) = Some (record { rule = rule.X13; object = Some n; other = Some other })

module _ (infos : List PtrInfo) (orders : List (List PtrId)) where
  -- the first of some objects, the first of which has the number n, that has a value which stands twice
  abbrev pub exclusive_from : Holding → ℕ → List Object → Option Broken
  exclusive_from held n [] = None
  exclusive_from held n (o ∷ more) =
      or_else (told_clash n (clash infos held n o (pointers_at (slice_get orders o.ty.0))))
      (exclusive_from (held_after infos held n o (pointers_at (slice_get orders o.ty.0))) (suc n) more)

  -- X13: the first object with a value that stands twice, where the pointers of each type are given in byte order of their names
  abbrev pub exclusive : List Object → Option Broken
  exclusive os = exclusive_from nobody 0 os
