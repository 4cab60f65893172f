-- What holds of views and of worlds.
use Rattle.std.specs.Prelude.{◌≡◌, ℕ, List}
use Rattle.ev_value.specs.declared.args.Args.{Args}
use Rattle.ev_value.specs.declared.item.Item.{Item}
use Rattle.ev_value.specs.declared.value.Val.{Val}
use Rattle.core_ir.specs.declared.path.PtrId.{PtrId}
use Rattle.core_ir.specs.declared.path.Step.{Step}
use Rattle.core_ir.specs.declared.path.TypeId.{TypeId}
use Rattle.core_ir.specs.declared.tree.Expr.{Expr}
use Rattle.ev_schema.specs.declared.schema.Schema.{Schema}
use Rattle.db_store.specs.declared.object.Object.{Object}
use Rattle.db_store.specs.Fits.{Fits, WeakFits}
use Rattle.eql_sem.specs.declared.binding.Bound.{Bound}
use Rattle.eql_sem.specs.declared.binding.Name.{Name}
use Rattle.eql_sem.specs.Parts.{values_in, items_in}
use Rattle.eql_sem.specs.World.{World}
use Rattle.eql_world.specs.View.{view_of}

-- The view of objects that fit fits within the bounds that a caller sees.
abbrev pub ViewFitsWeakly : Type 0
ViewFitsWeakly = (s : Schema) (os : List Object) (args : Args) → Fits s os → WeakFits s (view_of s os args)

-- Two worlds give the same of all that can be asked of them.
pub record GiveTheSame (v w : World) : Type 0 where
  pub extents : (t : TypeId) → v.extent t ≡ w.extent t
  pub steps : (s : Step) (xs : List (Item Val)) → v.step s xs ≡ w.step s xs
  pub properties : (l : PtrId) (n : List ℕ) (x y : Val) → v.link_property l n x y ≡ w.link_property l n x y
  pub params : (n : List ℕ) → v.param n ≡ w.param n
  pub globals : (n : List ℕ) → v.global n ≡ w.global n

-- What a query means depends on nothing but what the world gives: in two worlds that give the same, each scope has the same
-- items with the same nested forms, and the same values.
pub record MeaningIsOfTheWorldAlone : Type 0 where
  pub same_items : (v w : World) → GiveTheSame v w → (x : Expr) (ns : List Name) (b : List Bound) → items_in v x ns b ≡ items_in w x ns b
  pub same_values : (v w : World) → GiveTheSame v w → (x : Expr) (ns : List Name) (b : List Bound) → values_in v x ns b ≡ values_in w x ns b
