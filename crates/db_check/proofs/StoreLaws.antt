-- What holds of a store that breaks no rule.
use Rattle.std.proofs.Common.{◌≡◌, true, false, List, flat_map, filter, Option, Some, None, Result, Ok, Err, refl, sym, ap, subst, ◌∙◌}
use Rattle.core_ir.specs.declared.path.PtrId.{PtrId}
use Rattle.ev_list.specs.Occurrence.{has_repeat}
use Rattle.ev_schema.specs.Types.{is_subtype}
use Rattle.ev_schema.specs.declared.schema.Schema.{Schema}
use Rattle.ev_schema.specs.declared.types.TypeInfo.{TypeInfo}
use Rattle.db_draft.specs.declared.draft.ObjectDraft.{ObjectDraft}
use Rattle.db_draft.specs.declared.refusal.Broken.{Broken}
use Rattle.db_store.specs.Fits.{Each, Ascend, FitsObject}
use Rattle.db_store.specs.Limits.{same}
use Rattle.db_store.specs.Objects.{items_at}
use Rattle.db_store.specs.declared.object.Object.{Object}
use Rattle.db_ids.specs.Heads.{heads}
use Rattle.db_ids.specs.declared.heads.Head.{Head}
use Rattle.db_check.specs.Check.{objects_of, orders, values_from, store_of, unless, valued_with, headed}
use Rattle.db_check.specs.Exclusive.{exclusive, nobody, is_exclusive_pointer, is_exclusive_if_known}
use Rattle.db_check.specs.Laws.{StoresStandInOrder, ExclusiveValuesStandOnce, StoresKeepPlaces, StoresFit}
use Rattle.db_check.specs.Store.{IsOver}
use Rattle.db_check.specs.declared.store.Store.{Store}
use Rattle.db_check.proofs.Clashes.{single_of}
use Rattle.db_check.proofs.Listed.{made_list}
use Rattle.db_check.proofs.Repeats.{single_by_id, single_kept, none_twice}
use Rattle.db_check.proofs.Found.{target_found}
use Rattle.db_check.proofs.HeadTypes.{heads_known}
use Rattle.db_check.proofs.ObjectFits.{objects_fit}
use Rattle.db_check.proofs.HeadIds.{heads_differ, objects_differ}
use Rattle.db_check.proofs.IdOrder.{before, by_id, ordered_is, each_by_id, ascend_by_id}

unless_ok : (o : Option Broken) (due st : Store) → unless o due ≡ Ok st → (o ≡ None) × (due ≡ st)
unless_ok None due st e = let is : due ≡ st = cc in (refl, is)
unless_ok (Some b) due st e = absurd (cc)

-- a store is given where no rule fails, and it is the one that is due
valued_ok : (s : Schema) (orders : List (List PtrId)) (hs : List Head) (ds : List ObjectDraft) (o : Option Broken) (st : Store) → valued_with s orders hs ds o ≡ Ok st
    → (o ≡ None) × (exclusive s.pointers orders (objects_of s orders hs ds) ≡ None) × (store_of s.types (objects_of s orders hs ds) ≡ st)
valued_ok s orders hs ds None st e =
    let both = unless_ok (exclusive s.pointers orders (objects_of s orders hs ds)) (store_of s.types (objects_of s orders hs ds)) st e in
    (refl, both.0, both.1)
valued_ok s orders hs ds (Some b) st e = absurd (cc)

headed_ok : (s : Schema) (ds : List ObjectDraft) (r : Result (List Head) Broken) (st : Store) → headed s ds r ≡ Ok st
    → (hs : List Head) × (r ≡ Ok hs) × (values_from s (orders s) hs 0 hs ds ≡ None) × (exclusive s.pointers (orders s) (objects_of s (orders s) hs ds) ≡ None) × (store_of s.types (objects_of s (orders s) hs ds) ≡ st)
headed_ok s ds (Ok hs) st e =
    let v = valued_ok s (orders s) hs ds (values_from s (orders s) hs 0 hs ds) st e in
    (hs, refl, v.0, v.1, v.2)
headed_ok s ds (Err b) st e = absurd (cc)

pub stores_in_order : StoresStandInOrder
stores_in_order s ds st e =
    let v = headed_ok s ds (heads s.types ds) st e in
    let os = objects_of s (orders s) v.0 ds in
    let is : by_id os ≡ st.objects = sym (ordered_is os) ∙ ap (λ (t : Store). t.objects) v.4 in
    subst (Ascend before) is (ascend_by_id os (objects_differ s (orders s) v.0 ds (heads_differ s.types ds v.0 v.1)))

pub exclusive_once : ExclusiveValuesStandOnce
exclusive_once s ds st e p info known ex =
    let v = headed_ok s ds (heads s.types ds) st e in
    let os = objects_of s (orders s) v.0 ds in
    let stored : by_id os ≡ st.objects = sym (ordered_is os) ∙ ap (λ (t : Store). t.objects) v.4 in
    let is : is_exclusive_pointer s.pointers p ≡ true = ap is_exclusive_if_known known ∙ ex in
    let items = λ (o : Object). items_at o p in
    let kept = λ (o : Object). is_subtype s.types o.ty info.origin in
    subst (λ l. has_repeat same (flat_map items (filter kept l)) ≡ false) stored
    (none_twice items (filter kept (by_id os)) (single_kept items kept (by_id os) (single_by_id items os (single_of s.pointers p is (orders s) nobody 0 os (made_list p s is (orders s) v.0 ds) v.3))))

pub all_fit : StoresFit
all_fit s well ds st e =
    let v = headed_ok s ds (heads s.types ds) st e in
    let os = objects_of s (orders s) v.0 ds in
    let stored : by_id os ≡ st.objects = sym (ordered_is os) ∙ ap (λ (t : Store). t.objects) v.4 in
    let known = heads_known s.types ds v.0 v.1 in
    let found = target_found s (orders s) v.0 ds known.1 (objects_differ s (orders s) v.0 ds (heads_differ s.types ds v.0 v.1)) in
    record {
      in_order = stores_in_order s ds st e;
      each = subst (λ l. Each (FitsObject s (λ info. info.card) l) l) stored
          (each_by_id (FitsObject s (λ info. info.card) (by_id os)) os (objects_fit s well v.0 (by_id os) found 0 v.0 ds known.0 v.2));
      once = exclusive_once s ds st e;
    }

pub places_kept : StoresKeepPlaces
places_kept s ds st e =
    let v = headed_ok s ds (heads s.types ds) st e in
    let os = objects_of s (orders s) v.0 ds in
    subst (IsOver s.types) v.4 (over_is s.types os)
  where
    over_is : (types : List TypeInfo) (os : List Object) → IsOver types (store_of types os)
    over_is types os = refl
