-- Which objects a caller sees.
use Rattle.std.specs.Prelude.{ℕ, ◌==◌, ◌&&◌, not, Bool, true, false, List, [], ◌∷◌, filter, map, Option, Some, None, slice_get, if◌then◌else◌}
use Rattle.std.specs.List.{list_any}
use Rattle.ev_value.specs.Item.{values}
use Rattle.ev_value.specs.declared.args.Args.{Args}
use Rattle.ev_list.specs.Aggregate.{is_true}
use Rattle.core_ir.specs.declared.phase.Carded.{Carded}
use Rattle.ev_schema.specs.declared.policy.Policy.{Policy}
use Rattle.ev_schema.specs.declared.policy.PolicyKind.{PolicyKind}
use Rattle.ev_schema.specs.declared.policy.PolicyKind.TheVariants as kind
use Rattle.ev_schema.specs.declared.schema.Schema.{Schema}
use Rattle.ev_schema.specs.Policies.{rules_of}
use Rattle.db_store.specs.declared.object.Entry.{Entry}
use Rattle.db_store.specs.declared.object.Object.{Object}
use Rattle.db_store.specs.declared.object.PtrValue.{PtrValue}
use Rattle.db_store.specs.declared.object.PtrValue.TheVariants as value
use Rattle.db_store.specs.declared.object.Target.{Target}
use Rattle.db_store.specs.Objects.{find, as_value}
use Rattle.eql_sem.specs.Operations.{is_empty}
use Rattle.eql_world.specs.StoreWorld.{values_for, world_of}

abbrev pub is_select : PolicyKind → Bool
is_select kind.Select = true
is_select _ = false

-- whether a rule is one for reading
abbrev pub reads : Policy → Bool
reads p = list_any is_select p.kinds

module _ (s : Schema) (os : List Object) (args : Args) where
  -- a rule applies to an object when its condition is true for it, over all objects; a rule without a condition always applies
  abbrev pub holds_for : Option (Option Carded) → Object → Bool
  holds_for (Some (Some c)) o = list_any is_true (values (values_for (world_of s os args) c (as_value o)))
  holds_for _ o = true

  abbrev pub applies : Object → ℕ → Bool
  applies o k = holds_for (slice_get s.conditions k) o

  -- whether the rule with a number is one for reading, which shows or hides, and applies
  abbrev pub speaks : Bool → Object → ℕ → Option Policy → Bool
  speaks allow o k None = false
  speaks allow o k (Some p) = reads p && (if p.allow then allow else not allow) && applies o k

  abbrev pub some_speaks : Bool → Object → List ℕ → Bool
  some_speaks allow o ks = list_any (λ k. speaks allow o k (slice_get s.policies k)) ks

  -- An object of a type without rules is shown. Otherwise some rule for reading must show it, and none hide it.
  abbrev pub shown_by : List ℕ → Object → Bool
  shown_by [] o = true
  shown_by (k ∷ ks) o = some_speaks true o (k ∷ ks) && not (some_speaks false o (k ∷ ks))

  abbrev pub shown : Object → Bool
  shown o = shown_by (rules_of s.types s.policies o.ty) o

  abbrev pub is_shown : Option Object → Bool
  is_shown None = false
  is_shown (Some o) = shown o

  -- whether the object with an id is there and shown
  abbrev pub seen : ℕ → Bool
  seen id = is_shown (find os id)

-- the targets that are seen, with their properties
abbrev pub cut_targets : (ℕ → Bool) → List Target → List Target
cut_targets seen ts = filter (λ (t : Target). seen t.id) ts

abbrev pub cut_value : (ℕ → Bool) → PtrValue → PtrValue
cut_value seen (value.Vals vs) = value.Vals vs
cut_value seen (value.Links ts) = value.Links (cut_targets seen ts)

abbrev pub cut_entry : (ℕ → Bool) → Entry → Entry
cut_entry seen e = record { pointer = e.pointer; value = cut_value seen e.value }

abbrev pub is_filled : PtrValue → Bool
is_filled (value.Vals vs) = not (is_empty vs)
is_filled (value.Links ts) = not (is_empty ts)

-- an object with its links cut to the targets that are seen; a link without any is empty
abbrev pub cut : (ℕ → Bool) → Object → Object
cut seen o = record { id = o.id; ty = o.ty; values = filter (λ (e : Entry). is_filled e.value) (map (cut_entry seen) o.values) }

-- The view: the objects that are shown, each with its links cut to them. Nothing else changes.
abbrev pub view_of : Schema → List Object → Args → List Object
view_of s os args = map (cut (seen s os args)) (filter (shown s os args) os)

-- ---- as the code has it

-- the flag that stands beside the first object with an id
abbrev pub flag_for : List Object → List Bool → ℕ → Bool
flag_for (o ∷ os) (flag ∷ flags) id = if o.id == id then flag else flag_for os flags id
flag_for _ _ id = false

-- the objects beside a true flag, with their links cut
abbrev pub flagged : (ℕ → Bool) → List Object → List Bool → List Object
flagged seen (o ∷ os) (flag ∷ flags) = if flag then cut seen o ∷ flagged seen os flags else flagged seen os flags
flagged seen _ _ = []
