-- The rules on the ids and types of objects.
use Rattle.std.specs.Prelude.{◌≡◌, ℕ, suc, ◌==◌, List, [], ◌∷◌, ◌++◌, length, Option, Some, None, option_map, Result, Ok, Err, if◌then◌else◌, codes}
use Rattle.std.specs.Ordering.{nat_cmp}
use Rattle.std.specs.Str.{bytes_eq}
use Rattle.std.specs.BTreeMap.{BTreeMap}
use Rattle.std.specs.BTreeMap as tree
use Rattle.core_ir.specs.declared.path.TypeId.{TypeId}
use Rattle.ev_schema.specs.declared.types.TypeInfo.{TypeInfo}
use Rattle.db_draft.specs.declared.draft.Draft.{Draft}
use Rattle.db_draft.specs.declared.draft.Draft.TheVariants as draft
use Rattle.db_draft.specs.declared.draft.Element.TheVariants as element
use Rattle.db_draft.specs.declared.draft.ObjectDraft.{ObjectDraft}
use Rattle.db_draft.specs.declared.draft.Plain.TheVariants as plain
use Rattle.db_draft.specs.declared.refusal.Broken.{Broken}
use Rattle.db_draft.specs.declared.refusal.Rule.TheVariants as rule
use Rattle.db_draft.specs.Members.{member}
use Rattle.db_draft.specs.Values.{id_in}
use Rattle.db_ids.specs.declared.heads.Head.{Head}

-- a type by its number, where it is not abstract
abbrev pub concrete : ℕ → TypeInfo → Option TypeId
concrete k info = if info.is_abstract then None else Some (record { 0 = k })

-- the type that a name names, where it is not abstract; the first type of the list has the number k
abbrev pub type_from : ℕ → List TypeInfo → List ℕ → Option TypeId
type_from k [] n = None
type_from k (info ∷ more) n = if bytes_eq info.name n then concrete k info else type_from (suc k) more n

-- the type that a draft names
abbrev pub type_in : List TypeInfo → Option Draft → Option TypeId
type_in types (Some (draft.One (element.Plain (plain.Str n)))) = type_from 0 types n
type_in types _ = None

-- the id that an object has for its own
abbrev pub own_id : ObjectDraft → Option ℕ
own_id d = id_in (member d.members (codes "id"))

-- the place of the first object with an id
abbrev pub place_of : List Head → ℕ → Option ℕ
place_of [] id = None
place_of (h ∷ more) id = if h.id == id then Some 0 else option_map suc (place_of more id)

-- the map finds what the list has
abbrev pub Finds : BTreeMap ℕ ℕ → List Head → Type 0
Finds m heads = (id : ℕ) → tree.get nat_cmp m id ≡ place_of heads id

-- X5 fails where no type is named
abbrev pub typed : ℕ → ℕ → Option TypeId → Result Head Broken
typed n id None = Err (record { rule = rule.X5; object = Some n; other = None })
typed n id (Some t) = Ok (record { id = id; ty = t })

-- X4 fails where an object before has the id
abbrev pub new : ℕ → ℕ → Option ℕ → Option TypeId → Result Head Broken
new n id (Some other) t = Err (record { rule = rule.X4; object = Some n; other = Some other })
new n id None t = typed n id t

-- X3 fails where there is no id
abbrev pub identified : List Head → Option ℕ → Option TypeId → Result Head Broken
identified before None t = Err (record { rule = rule.X3; object = Some (length before); other = None })
identified before (Some id) t = new (length before) id (place_of before id) t

-- the id and the type of an object, or the first of the three rules that fails at it
abbrev pub head : List TypeInfo → List Head → ObjectDraft → Result Head Broken
head types before d = identified before (own_id d) (type_in types d.ty)

-- what follows an object that passes; a failure stays
abbrev pub passing : Result Head Broken → (Head → Result (List Head) Broken) → Result (List Head) Broken
passing (Ok h) next = next h
passing (Err b) next = Err b

-- the ids and types of some objects after those of others, or the first failure
abbrev pub heads_from : List TypeInfo → List Head → List ObjectDraft → Result (List Head) Broken
heads_from types before [] = Ok before
heads_from types before (d ∷ more) = passing (head types before d) (λ h. heads_from types (before ++ h ∷ []) more)

-- the ids and types of all objects, or the first failure
abbrev pub heads : List TypeInfo → List ObjectDraft → Result (List Head) Broken
heads types ds = heads_from types [] ds
