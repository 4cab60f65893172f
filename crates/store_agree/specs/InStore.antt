-- Values whose objects are in a store.
use Rattle.std.specs.Prelude.{IsTrue, Bool, List, is_some}
use Rattle.ev_value.specs.Item.{EachValue}
use Rattle.ev_value.specs.declared.args.Args.{Args}
use Rattle.ev_value.specs.declared.args.Argument.{Argument}
use Rattle.ev_value.specs.declared.value.Val.{Val}
use Rattle.core_ir.specs.declared.tree.Expr.{Expr}
use Rattle.ev_schema.specs.declared.pointer.Computed.{Computed}
use Rattle.ev_schema.specs.declared.schema.Schema.{Schema}
use Rattle.db_store.specs.declared.object.Object.{Object}
use Rattle.db_store.specs.Fits.{Fits}
use Rattle.db_store.specs.Objects.{find}
use Rattle.eql_sem.specs.declared.binding.Bound.{Bound}
use Rattle.eql_sem.specs.declared.binding.Name.{Name}
use Rattle.eql_sem.specs.Parts.{values_in, items_in}
use Rattle.eql_world.specs.StoreWorld.{world_of}
use Rattle.eql_agree.specs.Kinds.{Each}
use Rattle.eql_agree.specs.Agreeing.{InItem}
use Rattle.eql_agree.specs.Uniform.{uniform, anything, Literals, BoundIn}
use Rattle.store_agree.specs.EachObject.{each_object}

-- each object in a value is in the store
abbrev pub is_in : List Object → Val → Bool
is_in os = each_object (λ id. is_some (find os id))

-- Arguments, literals of the query and of the schema's expressions, and what is bound: where their objects are in the store,
-- so are those of all that a query gives, in values and in forms.
pub record ObjectsAreInTheStore : Type 0 where
  pub of_values : (s : Schema) (os : List Object) (args : Args) → Fits s os
      → Each (λ (a : Argument). IsTrue (is_in os a.value)) args.params → Each (λ (a : Argument). IsTrue (is_in os a.value)) args.globals
      → Each (λ (c : Computed). Literals (is_in os) c.expr.typed.core.root.body) s.computed
      → (x : Expr) → Literals (is_in os) x → (ns : List Name) (b : List Bound) → Each (BoundIn (is_in os)) b
      → EachValue (λ v. IsTrue (is_in os v)) (values_in (world_of s os args) x ns b)
  pub of_items : (s : Schema) (os : List Object) (args : Args) → Fits s os
      → Each (λ (a : Argument). IsTrue (is_in os a.value)) args.params → Each (λ (a : Argument). IsTrue (is_in os a.value)) args.globals
      → Each (λ (c : Computed). Literals (is_in os) c.expr.typed.core.root.body) s.computed
      → (x : Expr) → Literals (is_in os) x → (ns : List Name) (b : List Bound) → Each (BoundIn (is_in os)) b
      → EachValue (InItem (uniform (is_in os) anything) tt) (items_in (world_of s os args) x ns b)
