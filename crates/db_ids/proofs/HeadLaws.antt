-- An object that passes has a new id.
use Rattle.std.proofs.Common.{◌≡◌, ℕ, List, length, Option, Some, None, Result, Ok, refl, sym, ap, ◌∙◌}
use Rattle.core_ir.specs.declared.path.TypeId.{TypeId}
use Rattle.ev_schema.specs.declared.types.TypeInfo.{TypeInfo}
use Rattle.db_draft.specs.declared.draft.ObjectDraft.{ObjectDraft}
use Rattle.db_draft.specs.declared.refusal.Broken.{Broken}
use Rattle.db_ids.specs.Heads.{place_of, typed, new, identified, head, own_id, type_in}
use Rattle.db_ids.specs.declared.heads.Head.{Head}

ok_is : (h g : Head) → ◌≡◌ {A = Result Head Broken} (Ok h) (Ok g) → h ≡ g
ok_is h g e = cc

typed_id : (n id : ℕ) (t : Option TypeId) (h : Head) → typed n id t ≡ Ok h → id ≡ h.id
typed_id n id None h e = cc
typed_id n id (Some t) h e = ap (λ (g : Head). g.id) (ok_is (record { id = id; ty = t }) h e)

new_id : (before : List Head) (n id : ℕ) (o : Option ℕ) (t : Option TypeId) (h : Head) → place_of before id ≡ o → new n id o t ≡ Ok h → place_of before h.id ≡ None
new_id before n id None t h is e = ap (place_of before) (sym (typed_id n id t h e)) ∙ is
new_id before n id (Some other) t h is e = cc

identified_id : (before : List Head) (o : Option ℕ) (t : Option TypeId) (h : Head) → identified before o t ≡ Ok h → place_of before h.id ≡ None
identified_id before None t h e = cc
identified_id before (Some id) t h e = new_id before (length before) id (place_of before id) t h refl e

pub is_new : (types : List TypeInfo) (before : List Head) (d : ObjectDraft) (h : Head) → Ok h ≡ head types before d → place_of before h.id ≡ None
is_new types before d h e = identified_id before (own_id d) (type_in types d.ty) h (sym e)
