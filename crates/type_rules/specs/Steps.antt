-- Steps of a path: what a name stands for there, and the type that it leads to.
use Rattle.std.specs.Prelude.{ℕ, suc, ◌-◌, Bool, false, nat_lt, if◌then◌else◌, List, [], ◌∷◌, ◌++◌, length, get_or, Option, Some, None, option_map, slice_get}
use Rattle.core_ir.specs.declared.path.PtrId.{PtrId}
use Rattle.core_ir.specs.declared.path.Step.{Step}
use Rattle.core_ir.specs.declared.path.Step.TheVariants as step
use Rattle.core_ir.specs.declared.path.TypeId.{TypeId}
use Rattle.core_ir.specs.declared.ty.Ty.{Ty}
use Rattle.core_ir.specs.declared.ty.Ty as ty
use Rattle.ev_schema.specs.Pointers.{pointer_named, computed_among, target_of}
use Rattle.ev_schema.specs.Steps.{link_of, type_after}
use Rattle.ev_schema.specs.declared.pointer.Body.{Body}
use Rattle.ev_schema.specs.declared.pointer.Body.TheVariants as body
use Rattle.ev_schema.specs.declared.pointer.Computed.{Computed}
use Rattle.ev_schema.specs.declared.pointer.PtrInfo.{PtrInfo}
use Rattle.ev_schema.specs.declared.schema.Schema.{Schema}
use Rattle.plan.specs.Ruled.{Ruled, ◌>>=◌, ◌>>◌, gives, refuses, must, known}
use Rattle.type_rules.specs.declared.refusal.TypeRule.{TypeRule}
use Rattle.type_rules.specs.declared.refusal.TypeRule.TheVariants.{N2, T1, T5}
use Rattle.type_rules.specs.declared.refusal.TypeRefusal.{TypeRefusal}
use Rattle.type_rules.specs.declared.refusal.TypeRefusal.TheVariants.{Rule, Needs}
use Rattle.type_rules.specs.Agreement.{related}
use Rattle.type_rules.specs.declared.steps.Walked.{Walked}

-- a rule of types that needs nothing to be known and hands nothing on
abbrev pub Plain : Type 0 → Type 1
Plain A = Ruled TypeRefusal (Unit {0}) A

-- The step that a pointer's name stands for, by where its values come from. A computed pointer whose expression is not known
-- yet gives none.
abbrev pub step_by : PtrId → Body → Option Computed → Option Step
step_by p (body.Stored (ty.Object t)) computed = Some (step.Link p)
step_by p (body.Stored t) computed = Some (step.Prop p)
step_by p body.Computed computed = option_map (λ c. step.Comp p) computed

-- the same, where there is such a pointer
abbrev pub step_of : PtrId → Option PtrInfo → Option Computed → Option Step
step_of p None computed = None
step_of p (Some info) computed = step_by p info.body computed

-- the type that a stored link leads to, if it is one
abbrev pub target_at : Option PtrInfo → Option TypeId
target_at None = None
target_at (Some info) = target_of info.body

-- a pointer with the type that it leads to, if it is a stored link
abbrev pub as_link : Schema → Option PtrId → Option (PtrId × TypeId)
as_link schema None = None
as_link schema (Some p) = option_map (λ target. (p, target)) (target_at (slice_get schema.pointers p.0))

-- the stored link of a type that has a name, with the type that it leads to
abbrev pub link_named : Schema → TypeId → List ℕ → Option (PtrId × TypeId)
link_named schema t name = as_link schema (pointer_named schema t name)

-- whether a type is one of objects that are of a type or can be
abbrev pub is_related : Schema → TypeId → Ty → Bool
is_related schema target (ty.Object t) = related schema.types t target
is_related schema target _ = false

-- where a step stands that has so many behind it; those before the ones with a place of their own stand where the path begins
abbrev pub place_of : ℕ → List ℕ → ℕ → ℕ
place_of start places behind = if nat_lt behind (length places) then get_or places (length places - suc behind) start else start

-- the rule that is told where no type is behind a step
abbrev pub unsuited : Step → TypeRule
unsuited (step.LinkProp name) = N2
unsuited _ = T5

module _ (schema : Schema) where
  -- `.name`: only objects have pointers, and those of the type have names.
  unfoldable pub dot : Ty → List ℕ → ℕ → Plain Step
  dot (ty.Object t) name place = do
    p ← known (pointer_named schema t name) (Rule N2 place)
    known (step_of p (slice_get schema.pointers p.0) (computed_among schema.computed p)) (Needs p)
  dot t name place = refuses (Rule T5 place)

  -- `.<name[is T]`: a stored link of T, which leads to objects of a related type.
  unfoldable pub back : Ty → List ℕ → TypeId → ℕ → Plain Step
  back t name source place = do
    link ← known (link_named schema source name) (Rule N2 place)
    must (is_related schema link.1 t) (Rule T5 place)
    gives (step.Back link.0 source)

  -- what a step stands for from values of a type; one with a pointer that is looked up already does not come from naming
  abbrev pub looked_up : Ty → Step → ℕ → Plain Step
  looked_up t (step.Dot name) place = dot t name place
  looked_up t (step.BackDot name source) place = back t name source place
  looked_up t (step.Is narrow) place = gives (step.Is narrow)
  looked_up t (step.LinkProp name) place = gives (step.LinkProp name)
  looked_up t x place = refuses (Rule T1 place)

  -- one more step behind those that have types
  unfoldable pub walk_on : Walked → Step → ℕ → Plain Walked
  walk_on done x place = do
    y ← looked_up done.reached x place
    t ← known (type_after schema done.link done.reached y) (Rule (unsuited y) place)
    gives (record { steps = done.steps ++ y ∷ []; link = link_of y; reached = t })

  -- the steps of a path in turn, each at its place
  abbrev pub walk : ℕ → List ℕ → Walked → List Step → Plain Walked
  walk start places done [] = gives done
  walk start places done (x ∷ more) = walk_on done x (place_of start places (length more)) >>= (λ next. walk start places next more)
