-- Expressions that see some computed pointers alone.
use Rattle.std.specs.Prelude.{◌≡◌, IsTrue, Bool, true, List}
use Rattle.ev_value.specs.declared.args.Args.{Args}
use Rattle.ev_value.specs.declared.value.Val.{Val}
use Rattle.core_ir.specs.declared.path.PtrId.{PtrId}
use Rattle.core_ir.specs.declared.path.Step.{Step}
use Rattle.core_ir.specs.declared.path.Step.TheVariants as step
use Rattle.core_ir.specs.declared.tree.Expr.{Expr}
use Rattle.ev_schema.specs.declared.schema.Schema.{Schema}
use Rattle.db_store.specs.declared.object.Object.{Object}
use Rattle.eql_sem.specs.declared.binding.Bound.{Bound}
use Rattle.eql_sem.specs.declared.binding.Name.{Name}
use Rattle.eql_sem.specs.Parts.{values_in, items_in}
use Rattle.eql_world.specs.StoreWorld.{Computes, world_where}
use Rattle.eql_agree.specs.Uniform.{Asked, AsksAlone}

-- a step is none to a computed pointer that is not known
abbrev pub is_known : (PtrId → Bool) → Step → Bool
is_known known (step.Comp p) = known p
is_known known _ = true

-- any root and any step but to computed pointers that are not known
abbrev pub known_alone : (PtrId → Bool) → Asked
known_alone known = record { extent = λ t. true; step = is_known known }

-- What an expression gives depends on no computed pointer but those that it asks for.
pub record ComputedAreAskedFor : Type 0 where
  pub same_values : (s : Schema) (os : List Object) (args : Args) (known : PtrId → Bool) (f g : Computes) → ((p : PtrId) (v : Val) → IsTrue (known p) → f p v ≡ g p v)
      → (x : Expr) → AsksAlone (known_alone known) x → (ns : List Name) (b : List Bound) → values_in (world_where s os args f) x ns b ≡ values_in (world_where s os args g) x ns b
  pub same_items : (s : Schema) (os : List Object) (args : Args) (known : PtrId → Bool) (f g : Computes) → ((p : PtrId) (v : Val) → IsTrue (known p) → f p v ≡ g p v)
      → (x : Expr) → AsksAlone (known_alone known) x → (ns : List Name) (b : List Bound) → items_in (world_where s os args f) x ns b ≡ items_in (world_where s os args g) x ns b
