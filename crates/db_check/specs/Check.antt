-- The store of some drafts, or the first rule that fails.
use Rattle.std.specs.Prelude.{◌≡◌, ℕ, zero, suc, List, [], ◌∷◌, ◌++◌, length, Option, Some, None, slice_get, Result, Ok, Err}
use Rattle.ev_value.specs.declared.value.Val.TheVariants as made
use Rattle.ev_list.specs.Order.{in_order, keyless}
use Rattle.ev_list.specs.declared.order.Keyed.{Keyed}
use Rattle.core_ir.specs.declared.path.PtrId.{PtrId}
use Rattle.ev_schema.specs.Named.{pointers_in_order}
use Rattle.ev_schema.specs.Policies.{by_name}
use Rattle.ev_schema.specs.declared.schema.Schema.{Schema}
use Rattle.ev_schema.specs.declared.types.TypeInfo.{TypeInfo}
use Rattle.db_store.specs.declared.object.Object.{Object}
use Rattle.db_draft.specs.First.{or_else}
use Rattle.db_draft.specs.declared.draft.ObjectDraft.{ObjectDraft}
use Rattle.db_draft.specs.declared.refusal.Broken.{Broken}
use Rattle.db_ids.specs.Heads.{heads}
use Rattle.db_ids.specs.declared.heads.Head.{Head}
use Rattle.db_values.specs.declared.flaw.Flaw.{Flaw}
use Rattle.db_values.specs.Names.{object_flaw}
use Rattle.db_values.specs.Made.{object_of}
use Rattle.db_check.specs.Exclusive.{pointers_at, exclusive}
use Rattle.db_check.specs.Extent.{extents}
use Rattle.db_check.specs.declared.store.Store.{Store}

-- the pointers of the first so many types, each type's in byte order of their names
abbrev pub orders_of : Schema → ℕ → List (List PtrId)
orders_of s zero = []
orders_of s (suc k) = orders_of s k ++ pointers_in_order s (record { 0 = k }) ∷ []

abbrev pub orders : Schema → List (List PtrId)
orders s = orders_of s (length s.types)

abbrev pub told_flaw : ℕ → Option Flaw → Option Broken
told_flaw n None = None
told_flaw n (Some f) = Some (record { rule = f.rule; object = Some n; other = f.other })

module _ (s : Schema) (orders : List (List PtrId)) (all : List Head) where
  -- what fails first in some objects, whose ids and types are given; the first has the number n
  abbrev pub values_from : ℕ → List Head → List ObjectDraft → Option Broken
  values_from n (h ∷ heads) (d ∷ ds) =
      or_else (told_flaw n (object_flaw s all h.ty (pointers_at (slice_get orders h.ty.0)) d.members)) (values_from (suc n) heads ds)
  values_from n _ _ = None

-- the objects that drafts write, whose ids and types are given, in the order of the document
abbrev pub objects_of : Schema → List (List PtrId) → List Head → List ObjectDraft → List Object
objects_of s orders (h ∷ heads) (d ∷ ds) =
    object_of s.pointers h.id h.ty (pointers_at (slice_get orders h.ty.0)) d.members ∷ objects_of s orders heads ds
objects_of s orders _ _ = []

-- objects with their ids as keys
abbrev pub keyed_objects : List Object → List (Keyed Object)
keyed_objects [] = []
keyed_objects (o ∷ more) = record { keys = Some (made.Id o.id) ∷ []; value = o } ∷ keyed_objects more

-- objects in order of id
abbrev pub ordered : List Object → List Object
ordered os = keyless (in_order by_name (keyed_objects os))

-- the store of some objects over some types
abbrev pub store_of : List TypeInfo → List Object → Store
store_of types os = record { objects = ordered os; extents = extents types (ordered os) }

abbrev pub unless : {A : Type 0} → Option Broken → A → Result A Broken
unless None due = Ok due
unless (Some b) due = Err b

-- the store of some objects, unless an exclusive value stands twice
abbrev pub stored : Schema → List (List PtrId) → List Object → Result Store Broken
stored s orders os = unless (exclusive s.pointers orders os) (store_of s.types os)

-- the same, unless a rule on the values of one object fails
abbrev pub valued_with : Schema → List (List PtrId) → List Head → List ObjectDraft → Option Broken → Result Store Broken
valued_with s orders heads ds None = stored s orders (objects_of s orders heads ds)
valued_with s orders heads ds (Some b) = Err b

abbrev pub valued : Schema → List (List PtrId) → List Head → List ObjectDraft → Result Store Broken
valued s orders heads ds = valued_with s orders heads ds (values_from s orders heads 0 heads ds)

-- the same, unless a rule on ids and types fails
abbrev pub headed : Schema → List ObjectDraft → Result (List Head) Broken → Result Store Broken
headed s ds (Ok heads) = valued s (orders s) heads ds
headed s ds (Err b) = Err b

-- The store that drafts write, or the first rule that fails: first the rules on ids and types, object by object; then those on values, object
-- by object and there at the least name; then that on exclusive values.
abbrev pub checked : Schema → List ObjectDraft → Result Store Broken
checked s ds = headed s ds (heads s.types ds)

-- Some drafts over some schema write this store, so it breaks no rule.
pub record IsWritten (st : Store) : Type 0 where
  pub schema : Schema
  pub drafts : List ObjectDraft
  pub is : checked schema drafts ≡ Ok st
