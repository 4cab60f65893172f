-- The places at which objects stand in a list, from 0.
use Rattle.std.specs.Prelude.{ℕ, suc, ◌==◌, Bool, List, [], ◌∷◌, Option, Some, None, slice_get, if◌then◌else◌}
use Rattle.std.specs.List.{flat_map}
use Rattle.ev_value.specs.declared.value.Val.{Val}
use Rattle.core_ir.specs.declared.path.PtrId.{PtrId}
use Rattle.db_store.specs.declared.object.Entry.{Entry}
use Rattle.db_store.specs.declared.object.Object.{Object}
use Rattle.db_store.specs.declared.object.Target.{Target}
use Rattle.db_store.specs.Objects.{object_of, targets_at, as_value}
use Rattle.eql_steps.specs.declared.source.Source.{Source}
use Rattle.eql_steps.specs.ById.{nothing, with_one}
use Rattle.eql_steps.specs.Steps.{of_object}

-- the places of the elements that pass a test; the first element has the place k
abbrev pub places_where : {A : Type 0} → (A → Bool) → ℕ → List A → List ℕ
places_where test k [] = []
places_where test k (x ∷ more) = if test x then k ∷ places_where test (suc k) more else places_where test (suc k) more

-- the places of the objects with an id
abbrev pub placed : List Object → ℕ → List ℕ
placed os id = places_where (λ (o : Object). o.id == id) 0 os

-- what stands at the first of some places
abbrev pub at_first : {A : Type 0} → List A → List ℕ → Option A
at_first xs [] = None
at_first xs (k ∷ more) = slice_get xs k

-- ---- links that lead to an id

-- the lists of links by the ids that they lead to, once an object at a place has some targets for a link too
abbrev pub with_targets : PtrId → ℕ → (ℕ → List Source) → List Target → ℕ → List Source
with_targets link k lists [] = lists
with_targets link k lists (t ∷ more) = with_targets link k (with_one lists t.id (record { link = link; place = k })) more

-- the same once it has the targets of some of its entries too
abbrev pub with_entries : Object → ℕ → (ℕ → List Source) → List Entry → ℕ → List Source
with_entries o k lists [] = lists
with_entries o k lists (e ∷ more) = with_entries o k (with_targets e.pointer k lists (targets_at o e.pointer)) more

-- the same once some objects have theirs; the first has the place k
abbrev pub with_objects : ℕ → (ℕ → List Source) → List Object → ℕ → List Source
with_objects k lists [] = lists
with_objects k lists (o ∷ more) = with_objects (suc k) (with_entries o k lists o.values) more

-- the links that lead to an id, each with the place of its object
abbrev pub sourced : List Object → ℕ → List Source
sourced os id = with_objects 0 nothing os id

-- the places of the objects among these that lead by one link
abbrev pub by_link : PtrId → List Source → List ℕ
by_link link [] = []
by_link link (s ∷ more) = if s.link.0 == link.0 then s.place ∷ by_link link more else by_link link more

-- ---- places of targets and of sources, repeats kept

-- the places of the objects that some targets are
abbrev pub target_places : List Object → List Target → List ℕ
target_places os ts = flat_map (λ (t : Target). placed os t.id) ts

-- the places of the objects that a link of a value leads to
abbrev pub led_places : List Object → PtrId → Val → List ℕ
led_places os link v = target_places os (of_object (object_of os v) (λ source. targets_at source link))

-- the places of the objects that a link of some values leads to
abbrev pub led_places_of : List Object → PtrId → List Val → List ℕ
led_places_of os link vs = flat_map (led_places os link) vs

-- the places of the objects whose link leads to a value
abbrev pub source_places : List Object → PtrId → Val → List ℕ
source_places os link v = of_object (object_of os v) (λ o. by_link link (sourced os o.id))

-- the places of the objects whose link leads to one of some values
abbrev pub source_places_of : List Object → PtrId → List Val → List ℕ
source_places_of os link vs = flat_map (source_places os link) vs

-- ---- objects at places

abbrev pub if_kept : (Object → Bool) → Option Object → List Val
if_kept keep None = []
if_kept keep (Some o) = if keep o then as_value o ∷ [] else []

-- the objects at some places that pass a test
abbrev pub kept_at : (Object → Bool) → List Object → List ℕ → List Val
kept_at keep os ks = flat_map (λ k. if_kept keep (slice_get os k)) ks
