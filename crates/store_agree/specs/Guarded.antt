-- The world of a whole store that shows a caller what rules show.
use Rattle.std.specs.Prelude.{◌≡◌, IsTrue, ℕ, ◌==◌, Bool, List, [], filter, fold, if◌then◌else◌}
use Rattle.ev_value.specs.Item.{bind, one}
use Rattle.ev_value.specs.declared.args.Args.{Args}
use Rattle.ev_value.specs.declared.args.Argument.{Argument}
use Rattle.ev_value.specs.declared.item.Item.{Item}
use Rattle.ev_value.specs.declared.value.Val.{Val}
use Rattle.core_ir.specs.declared.path.Step.{Step}
use Rattle.core_ir.specs.declared.path.Step.TheVariants as step
use Rattle.core_ir.specs.declared.tree.Expr.{Expr}
use Rattle.ev_schema.specs.declared.pointer.Computed.{Computed}
use Rattle.ev_schema.specs.declared.schema.Schema.{Schema}
use Rattle.db_store.specs.declared.object.Object.{Object}
use Rattle.db_store.specs.Fits.{Fits}
use Rattle.db_store.specs.Objects.{object_of}
use Rattle.eql_sem.specs.declared.binding.Bound.{Bound}
use Rattle.eql_sem.specs.declared.binding.Name.{Name}
use Rattle.eql_sem.specs.Parts.{items_in}
use Rattle.eql_sem.specs.World.{World}
use Rattle.eql_steps.specs.Steps.{of_object, extent, properties, links, back_links, narrowed, link_property, argument_named}
use Rattle.eql_world.specs.StoreWorld.{Computes, values_for, world_of}
use Rattle.eql_world.specs.View.{seen, view_of}
use Rattle.eql_agree.specs.Kinds.{Each}
use Rattle.eql_agree.specs.Uniform.{Literals, BoundIn}
use Rattle.store_agree.specs.EachObject.{each_object}

-- each object in a value is seen
abbrev pub shows : (ℕ → Bool) → Val → Bool
shows sees = each_object sees

module _ (sees : ℕ → Bool) where
  -- the items of a list that are seen, and its faults
  abbrev pub only_shown : List (Item Val) → List (Item Val)
  only_shown xs = bind xs (λ v. if shows sees v then one v else [])

  module _ (s : Schema) (os : List Object) (args : Args) where
    -- what a step gives: where it leads to objects, those that are seen
    abbrev pub guarded_step : Computes → Step → List (Item Val) → List (Item Val)
    guarded_step computes (step.Prop p) xs = properties s os p xs
    guarded_step computes (step.Link p) xs = only_shown (links os p xs)
    guarded_step computes (step.Comp p) xs = bind xs (computes p)
    guarded_step computes (step.Back p t) xs = only_shown (back_links s os p t xs)
    guarded_step computes (step.Is t) xs = narrowed s os t xs
    guarded_step computes _ xs = []

    -- the guarded world, where computed pointers give that
    abbrev pub guarded_where : Computes → World
    guarded_where computes = record {
      extent = λ t. filter (shows sees) (extent s os t);
      step = guarded_step computes;
      link_property = link_property os;
      param = argument_named args.params;
      global = argument_named args.globals;
    }

    -- what computed pointers give once one more expression is known, which is evaluated in the guarded world
    abbrev pub guarded_knowing : Computes → Computed → Computes
    guarded_knowing before c p v =
        if c.pointer.0 == p.0 then of_object (object_of os v) (λ o. values_for (guarded_where before) c.expr v) else before p v

    -- what they give where these expressions are known, each after those before it
    abbrev pub guarded_computing : List Computed → Computes
    guarded_computing cs = fold guarded_knowing (λ p v. []) cs

-- the guarded world: what is seen is told by the rules' conditions over the whole store
abbrev pub guarded : Schema → List Object → Args → World
guarded s os args = guarded_where (seen s os args) s os args (guarded_computing (seen s os args) s os args s.computed)

-- The guarded world over the whole store gives what the world of the view gives.
pub record GuardsGiveTheView : Type 0 where
  pub same_items : (s : Schema) (os : List Object) (args : Args) → Fits s os
      → Each (λ (a : Argument). IsTrue (shows (seen s os args) a.value)) args.params → Each (λ (a : Argument). IsTrue (shows (seen s os args) a.value)) args.globals
      → Each (λ (c : Computed). Literals (shows (seen s os args)) c.expr.typed.core.root.body) s.computed
      → (x : Expr) → Literals (shows (seen s os args)) x → (ns : List Name) (b : List Bound) → Each (BoundIn (shows (seen s os args))) b
      → items_in (guarded s os args) x ns b ≡ items_in (world_of s (view_of s os args) args) x ns b
