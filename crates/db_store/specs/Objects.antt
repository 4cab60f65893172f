-- What is stored of objects.
use Rattle.std.specs.Prelude.{ℕ, ◌==◌, List, [], ◌∷◌, map, Option, Some, None, if◌then◌else◌}
use Rattle.ev_value.specs.declared.value.Val.{Val}
use Rattle.ev_value.specs.declared.value.Val as val
use Rattle.ev_value.specs.declared.value.Val.TheVariants as made
use Rattle.core_ir.specs.declared.path.PtrId.{PtrId}
use Rattle.db_store.specs.declared.object.Entry.{Entry}
use Rattle.db_store.specs.declared.object.Object.{Object}
use Rattle.db_store.specs.declared.object.PtrValue.{PtrValue}
use Rattle.db_store.specs.declared.object.PtrValue.TheVariants as value
use Rattle.db_store.specs.declared.object.Target.{Target}

-- the first object with an id
abbrev pub find : List Object → ℕ → Option Object
find [] id = None
find (o ∷ more) id = if o.id == id then Some o else find more id

-- the object that a value is
abbrev pub object_of : List Object → Val → Option Object
object_of os (val.Obj id) = find os id
object_of os _ = None

-- what is stored of a pointer
abbrev pub entry : List Entry → PtrId → Option PtrValue
entry [] p = None
entry (e ∷ more) p = if e.pointer.0 == p.0 then Some e.value else entry more p

abbrev pub values_if_stored : Option PtrValue → List Val
values_if_stored (Some (value.Vals vs)) = vs
values_if_stored _ = []

abbrev pub targets_if_stored : Option PtrValue → List Target
targets_if_stored (Some (value.Links ts)) = ts
targets_if_stored _ = []

-- the values of a property, in their order
abbrev pub values_at : Object → PtrId → List Val
values_at o p = values_if_stored (entry o.values p)

-- the targets of a link, with their properties
abbrev pub targets_at : Object → PtrId → List Target
targets_at o p = targets_if_stored (entry o.values p)

-- an object as a value
abbrev pub as_value : Object → Val
as_value o = made.Obj o.id

-- what a pointer leads to: values, or objects
abbrev pub led_to : PtrValue → List Val
led_to (value.Vals vs) = vs
led_to (value.Links ts) = map (λ (t : Target). made.Obj t.id) ts

abbrev pub led_to_if_stored : Option PtrValue → List Val
led_to_if_stored None = []
led_to_if_stored (Some v) = led_to v

abbrev pub items_at : Object → PtrId → List Val
items_at o p = led_to_if_stored (entry o.values p)
