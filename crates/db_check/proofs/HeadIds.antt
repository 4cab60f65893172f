-- The ids of objects that pass differ.
use Rattle.std.proofs.Common.{◌≡◌, ◌≢◌, ℕ, suc, ◌==◌, Bool, true, false, List, [], ◌∷◌, ◌++◌, length, Option, Some, None, option_map, Result, Ok, Err, cond, eq-eqb, refl, sym, ap, subst, ◌∙◌}
use Rattle.core_ir.specs.declared.path.PtrId.{PtrId}
use Rattle.core_ir.specs.declared.path.TypeId.{TypeId}
use Rattle.ev_schema.specs.declared.schema.Schema.{Schema}
use Rattle.ev_schema.specs.declared.types.TypeInfo.{TypeInfo}
use Rattle.db_draft.specs.declared.draft.ObjectDraft.{ObjectDraft}
use Rattle.db_draft.specs.declared.refusal.Broken.{Broken}
use Rattle.db_store.specs.Fits.{Each}
use Rattle.db_store.specs.declared.object.Object.{Object}
use Rattle.db_ids.specs.Heads.{place_of, typed, new, identified, head, passing, heads_from, own_id, type_in}
use Rattle.db_ids.specs.declared.heads.Head.{Head}
use Rattle.db_check.specs.Check.{objects_of}
use Rattle.db_check.proofs.IdOrder.{IdsDiffer}

-- ---- an object that passes has a new id

typed_id : (n id : ℕ) (t : Option TypeId) (h : Head) → typed n id t ≡ Ok h → id ≡ h.id
typed_id n id None h e = cc
typed_id n id (Some t) h e = let is : ◌≡◌ {A = Head} (record { id = id; ty = t }) h = cc in ap (λ (g : Head). g.id) is

new_id : (before : List Head) (n id : ℕ) (o : Option ℕ) (t : Option TypeId) (h : Head) → place_of before id ≡ o → new n id o t ≡ Ok h → place_of before h.id ≡ None
new_id before n id None t h is e = ap (place_of before) (sym (typed_id n id t h e)) ∙ is
new_id before n id (Some other) t h is e = cc

identified_id : (before : List Head) (o : Option ℕ) (t : Option TypeId) (h : Head) → identified before o t ≡ Ok h → place_of before h.id ≡ None
identified_id before None t h e = cc
identified_id before (Some id) t h e = new_id before (length before) id (place_of before id) t h refl e

no_place : (here : Bool) (o : Option ℕ) → cond here (Some 0) (option_map suc o) ≡ None → (here ≡ false) × (o ≡ None)
no_place true o e = absurd (cc)
no_place false None e = (refl, refl)
no_place false (Some n) e = absurd (cc)

-- where an id has no place, each has another
others : (hs : List Head) (id : ℕ) → place_of hs id ≡ None → Each (λ (h : Head). h.id ≢ id) hs
others [] id e = tt
others (h ∷ hs) id e =
    let none = no_place (h.id == id) (place_of hs id) e in
    ((λ same. no_both (h.id == id) (eq-eqb h.id id same) none.0), others hs id none.1)
  where
    no_both : (b : Bool) → b ≡ true → b ≡ false → ⊥
    no_both b e f = cc

-- ---- so they differ

abbrev pub HeadsDiffer : List Head → Type 0
HeadsDiffer [] = Unit {0}
HeadsDiffer (h ∷ more) = Each (λ (g : Head). h.id ≢ g.id) more × HeadsDiffer more

pub each_last : {A : Type 0} (P : A → Type 0) (xs : List A) (x : A) → Each P xs → P x → Each P (xs ++ x ∷ [])
each_last P [] x h p = (p, tt)
each_last P (y ∷ ys) x h p = (h.0, each_last P ys x h.1 p)

differ_last : (hs : List Head) (h : Head) → HeadsDiffer hs → Each (λ (g : Head). g.id ≢ h.id) hs → HeadsDiffer (hs ++ h ∷ [])
differ_last [] h d other = (tt, tt)
differ_last (g ∷ gs) h d other = (each_last (λ (k : Head). g.id ≢ k.id) gs h d.0 other.0, differ_last gs h d.1 other.1)

pub passed : (r : Result Head Broken) (next : Head → Result (List Head) Broken) (hs : List Head) → passing r next ≡ Ok hs → (h : Head) × (r ≡ Ok h) × (next h ≡ Ok hs)
passed (Ok h) next hs e = (h, refl, e)
passed (Err b) next hs e = absurd (cc)

pub ok_same : (before hs : List Head) → ◌≡◌ {A = Result (List Head) Broken} (Ok before) (Ok hs) → before ≡ hs
ok_same before hs e = cc

differ_from : (types : List TypeInfo) (before : List Head) (ds : List ObjectDraft) (hs : List Head) → HeadsDiffer before → heads_from types before ds ≡ Ok hs → HeadsDiffer hs
differ_from types before [] hs d e = subst HeadsDiffer (ok_same before hs e) d
differ_from types before (x ∷ more) hs d e =
    let p = passed (head types before x) (λ h. heads_from types (before ++ h ∷ []) more) hs e in
    differ_from types (before ++ p.0 ∷ []) more hs (differ_last before p.0 d (others before p.0.id (identified_id before (own_id x) (type_in types x.ty) p.0 p.1))) p.2

pub heads_differ : (types : List TypeInfo) (ds : List ObjectDraft) (hs : List Head) → heads_from types [] ds ≡ Ok hs → HeadsDiffer hs
heads_differ types ds hs e = differ_from types [] ds hs tt e

-- ---- and those of the objects made of them

module _ (s : Schema) (orders : List (List PtrId)) where
  each_made : (P : ℕ → Type 0) (hs : List Head) (ds : List ObjectDraft) → Each (λ (h : Head). P h.id) hs → Each (λ (o : Object). P o.id) (objects_of s orders hs ds)
  each_made P [] ds h = tt
  each_made P (g ∷ gs) [] h = tt
  each_made P (g ∷ gs) (d ∷ ds) h = (h.0, each_made P gs ds h.1)

  pub objects_differ : (hs : List Head) (ds : List ObjectDraft) → HeadsDiffer hs → IdsDiffer (objects_of s orders hs ds)
  objects_differ [] ds h = tt
  objects_differ (g ∷ gs) [] h = tt
  objects_differ (g ∷ gs) (d ∷ ds) h = (each_made (λ id. g.id ≢ id) gs ds h.0, objects_differ gs ds h.1)
