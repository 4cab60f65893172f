-- What stands beside the first object with an id.
use Rattle.std.proofs.Common.{◌≡◌, ℕ, ◌==◌, Bool, true, false, List, [], ◌∷◌, Option, Some, None, slice_get, if◌then◌else◌, refl, sym, ap, ◌∙◌}
use Rattle.std.specs.Option.{unwrap_or}
use Rattle.ev_value.specs.declared.item.Item.{Item}
use Rattle.ev_value.specs.declared.value.Val.{Val}
use Rattle.ev_value.specs.declared.value.Val.TheVariants as made
use Rattle.db_store.specs.declared.object.Object.{Object}
use Rattle.eql_steps.specs.ById.{if_listed}
use Rattle.eql_steps.specs.Index.{placed}
use Rattle.eql_world.specs.StoreWorld.{listed_for}
use Rattle.eql_world.specs.View.{flag_for}
use Rattle.eql_steps.proofs.Placed.{beside, beside_there, beside_nowhere}

flag_at : (b flag : Bool) (later : Option Bool) (rest : Bool) → rest ≡ unwrap_or later false → (if b then flag else rest) ≡ unwrap_or (if b then Some flag else later) false
flag_at true flag later rest e = refl
flag_at false flag later rest e = e

flag_is : (os : List Object) (flags : List Bool) (id : ℕ) → flag_for os flags id ≡ unwrap_or (beside (λ (o : Object). o.id == id) os flags) false
flag_is [] flags id = refl
flag_is (o ∷ os) [] id = refl
flag_is (o ∷ os) (flag ∷ flags) id = flag_at (o.id == id) flag (beside (λ (o : Object). o.id == id) os flags) (flag_for os flags id) (flag_is os flags id)

pub flag_there : (os : List Object) (flags : List Bool) (id k : ℕ) → Some k ≡ slice_get (placed os id) 0 → unwrap_or (slice_get flags k) false ≡ flag_for os flags id
flag_there os flags id k e = ap (λ o. unwrap_or o false) (beside_there os flags id k e) ∙ sym (flag_is os flags id)

pub flag_nowhere : (os : List Object) (flags : List Bool) (id : ℕ) → None ≡ slice_get (placed os id) 0 → false ≡ flag_for os flags id
flag_nowhere os flags id e = ap (λ o. unwrap_or o false) (beside_nowhere os flags id e) ∙ sym (flag_is os flags id)

list_at : (b : Bool) (xs : List (Item Val)) (later : Option (List (Item Val))) (rest : List (Item Val)) → rest ≡ if_listed later → (if b then xs else rest) ≡ if_listed (if b then Some xs else later)
list_at true xs later rest e = refl
list_at false xs later rest e = e

list_is : (os : List Object) (lists : List (List (Item Val))) (id : ℕ) → listed_for os lists (made.Obj id) ≡ if_listed (beside (λ (o : Object). o.id == id) os lists)
list_is [] lists id = refl
list_is (o ∷ os) [] id = refl
list_is (o ∷ os) (xs ∷ lists) id = list_at (o.id == id) xs (beside (λ (o : Object). o.id == id) os lists) (listed_for os lists (made.Obj id)) (list_is os lists id)

pub list_there : (os : List Object) (lists : List (List (Item Val))) (id k : ℕ) → Some k ≡ slice_get (placed os id) 0 → if_listed (slice_get lists k) ≡ listed_for os lists (made.Obj id)
list_there os lists id k e = ap if_listed (beside_there os lists id k e) ∙ sym (list_is os lists id)

pub list_nowhere : (os : List Object) (lists : List (List (Item Val))) (id : ℕ) → None ≡ slice_get (placed os id) 0 → [] ≡ listed_for os lists (made.Obj id)
list_nowhere os lists id e = ap if_listed (beside_nowhere os lists id e) ∙ sym (list_is os lists id)
