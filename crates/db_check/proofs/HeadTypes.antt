-- Objects that pass are of a known type, and as many as their drafts.
use Rattle.std.proofs.Common.{◌≡◌, ℕ, suc, ◌+◌, Bool, true, false, List, [], ◌∷◌, ◌++◌, length, Option, Some, None, slice_get, Ok, cond, refl, sym, ap, ◌∙◌, subst, append_assoc, length-append, arith}
use Rattle.std.specs.Str.{bytes_eq}
use Rattle.core_ir.specs.declared.path.TypeId.{TypeId}
use Rattle.ev_schema.specs.declared.types.TypeInfo.{TypeInfo}
use Rattle.db_draft.specs.declared.draft.Draft.{Draft}
use Rattle.db_draft.specs.declared.draft.Draft.TheVariants as draft
use Rattle.db_draft.specs.declared.draft.Element.TheVariants as element
use Rattle.db_draft.specs.declared.draft.ObjectDraft.{ObjectDraft}
use Rattle.db_draft.specs.declared.draft.Plain.TheVariants as plain
use Rattle.db_store.specs.Fits.{Each}
use Rattle.db_ids.specs.Heads.{concrete, type_from, type_in, own_id, place_of, typed, new, identified, head, heads_from}
use Rattle.db_ids.specs.declared.heads.Head.{Head}
use Rattle.db_check.proofs.HeadIds.{each_last, passed, ok_same}
use Rattle.db_check.proofs.Places.{at_length}

-- a type is there and not abstract
abbrev pub IsKnown : List TypeInfo → TypeId → Type 0
IsKnown types t = (info : TypeInfo) × (slice_get types t.0 ≡ Some info) × (info.is_abstract ≡ false)

concrete_is : (k : ℕ) (t : TypeId) (b : Bool) → cond b None (Some (record { 0 = k })) ≡ Some t → (t.0 ≡ k) × (b ≡ false)
concrete_is k t true e = absurd (cc)
concrete_is k t false e = let is : ◌≡◌ {A = TypeId} (record { 0 = k }) t = cc in (ap (λ (u : TypeId). u.0) (sym is), refl)

type_known : (front infos : List TypeInfo) (n : List ℕ) (t : TypeId) → type_from (length front) infos n ≡ Some t → IsKnown (front ++ infos) t
type_known front [] n t e = absurd (cc)
type_known front (i ∷ more) n t e =
    by_test (bytes_eq i.name n) (λ f. subst (λ l. IsKnown l t) (append_assoc front (i ∷ []) more) (type_known (front ++ i ∷ []) more n t (ap (λ k. type_from k more n) next ∙ f))) e
  where
    next : length (front ++ i ∷ []) ≡ suc (length front)
    next = omega (arith, length-append front (i ∷ []))

    by_test : (b : Bool) → (type_from (suc (length front)) more n ≡ Some t → IsKnown (front ++ i ∷ more) t) → cond b (concrete (length front) i) (type_from (suc (length front)) more n) ≡ Some t → IsKnown (front ++ i ∷ more) t
    by_test true later e = let is = concrete_is (length front) t i.is_abstract e in (i, ap (slice_get (front ++ i ∷ more)) is.0 ∙ at_length front more i, is.1)
    by_test false later e = later e

named_known : (types : List TypeInfo) (d : Option Draft) (t : TypeId) → type_in types d ≡ Some t → IsKnown types t
named_known types (Some (draft.One (element.Plain (plain.Str n)))) t e = type_known [] types n t e
named_known types _ t e = absurd (cc)

typed_type : (n id : ℕ) (t : Option TypeId) (h : Head) → typed n id t ≡ Ok h → t ≡ Some h.ty
typed_type n id None h e = cc
typed_type n id (Some t) h e = let is : ◌≡◌ {A = Head} (record { id = id; ty = t }) h = cc in ap (λ (g : Head). Some g.ty) is

new_type : (n id : ℕ) (o : Option ℕ) (t : Option TypeId) (h : Head) → new n id o t ≡ Ok h → t ≡ Some h.ty
new_type n id None t h e = typed_type n id t h e
new_type n id (Some other) t h e = cc

identified_type : (before : List Head) (o : Option ℕ) (t : Option TypeId) (h : Head) → identified before o t ≡ Ok h → t ≡ Some h.ty
identified_type before None t h e = cc
identified_type before (Some id) t h e = new_type (length before) id (place_of before id) t h e

module _ (types : List TypeInfo) where
  -- each is of a known type
  abbrev pub AllKnown : List Head → Type 0
  AllKnown hs = Each (λ (h : Head). IsKnown types h.ty) hs

  known_from : (before : List Head) (ds : List ObjectDraft) (hs : List Head) → AllKnown before → heads_from types before ds ≡ Ok hs → AllKnown hs × (length hs ≡ length before + length ds)
  known_from before [] hs k e = let is = ok_same before hs e in (subst AllKnown is k, let many = ap length is in omega arith)
  known_from before (x ∷ more) hs k e =
      let p = passed (head types before x) (λ h. heads_from types (before ++ h ∷ []) more) hs e in
      let is = known_from (before ++ p.0 ∷ []) more hs
      (each_last (λ (h : Head). IsKnown types h.ty) before p.0 k (named_known types x.ty p.0.ty (identified_type before (own_id x) (type_in types x.ty) p.0 p.1))) p.2 in
      (is.0, let many = length-append before (p.0 ∷ []) in omega (arith, is.1))

  pub heads_known : (ds : List ObjectDraft) (hs : List Head) → heads_from types [] ds ≡ Ok hs → AllKnown hs × (length hs ≡ length ds)
  heads_known ds hs e = let is = known_from [] ds hs tt e in (is.0, omega (arith, is.1))
