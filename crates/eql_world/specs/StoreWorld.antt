-- What a query is asked over, where that is a schema, its objects and a caller's arguments.
use Rattle.std.specs.Prelude.{◌==◌, Bool, false, List, [], ◌∷◌, fold, Option, Some, None, if◌then◌else◌}
use Rattle.ev_value.specs.Item.{bind}
use Rattle.ev_value.specs.declared.args.Args.{Args}
use Rattle.ev_value.specs.declared.item.Item.{Item}
use Rattle.ev_value.specs.declared.value.Val.{Val}
use Rattle.ev_value.specs.declared.value.Val as val
use Rattle.core_ir.specs.declared.path.PtrId.{PtrId}
use Rattle.core_ir.specs.declared.path.Step.{Step}
use Rattle.core_ir.specs.declared.path.Step.TheVariants as step
use Rattle.core_ir.specs.declared.phase.Carded.{Carded}
use Rattle.core_ir.specs.Path.{subject}
use Rattle.ev_schema.specs.declared.pointer.Computed.{Computed}
use Rattle.ev_schema.specs.declared.schema.Schema.{Schema}
use Rattle.db_store.specs.declared.object.Object.{Object}
use Rattle.db_store.specs.Objects.{object_of}
use Rattle.eql_sem.specs.declared.binding.Bound.TheVariants as bound
use Rattle.eql_sem.specs.declared.binding.Name.TheVariants as name
use Rattle.eql_sem.specs.Parts.{values_in}
use Rattle.eql_sem.specs.World.{World}
use Rattle.eql_world.specs.declared.column.Column.{Column}
use Rattle.eql_steps.specs.Steps.{of_object, argument_named, extent, properties, links, back_links, narrowed, link_property}

-- what a computed pointer gives for an object
abbrev pub Computes : Type 0
Computes = PtrId → Val → List (Item Val)

-- the values of a schema's expression with an object as its subject
abbrev pub values_for : World → Carded → Val → List (Item Val)
values_for w x v = values_in w x.typed.core.root.body (name.Prefix (subject 0) ∷ []) (bound.One v ∷ [])

module _ (s : Schema) (os : List Object) (args : Args) where
  -- what a step gives, where computed pointers give that
  abbrev pub stepped : Computes → Step → List (Item Val) → List (Item Val)
  stepped computes (step.Prop p) xs = properties s os p xs
  stepped computes (step.Link p) xs = links os p xs
  stepped computes (step.Comp p) xs = bind xs (computes p)
  stepped computes (step.Back p t) xs = back_links s os p t xs
  stepped computes (step.Is t) xs = narrowed s os t xs
  stepped computes (step.LinkProp n) xs = []
  stepped computes (step.Dot n) xs = []
  stepped computes (step.BackDot n t) xs = []

  -- the world, where computed pointers give that
  abbrev pub world_where : Computes → World
  world_where computes = record {
    extent = extent s os;
    step = stepped computes;
    link_property = link_property os;
    param = argument_named args.params;
    global = argument_named args.globals;
  }

  -- What computed pointers give, once one more expression is known: it is evaluated where those before it are known, with
  -- the object as its subject.
  abbrev pub knowing : Computes → Computed → Computes
  knowing before c p v =
      if c.pointer.0 == p.0 then of_object (object_of os v) (λ o. values_for (world_where before) c.expr v) else before p v

  -- What they give where these expressions are known, each after those before it. A pointer whose expression is not known
  -- gives nothing.
  abbrev pub computing : List Computed → Computes
  computing cs = fold knowing (λ p v. []) cs

  -- the world of the objects under the schema, with the caller's arguments
  abbrev pub world_of : World
  world_of = world_where (computing s.computed)

-- ---- as the code has it

-- whether a value is an object
abbrev pub is_object : Val → Object → Bool
is_object (val.Obj id) o = o.id == id
is_object _ o = false

-- the list that stands beside an object
abbrev pub listed_for : List Object → List (List (Item Val)) → Val → List (Item Val)
listed_for (o ∷ os) (xs ∷ lists) v = if is_object v o then xs else listed_for os lists v
listed_for _ _ v = []

-- the last column of a pointer, or one that was found before
abbrev pub last_column : List Column → PtrId → Option Column → Option Column
last_column [] p found = found
last_column (c ∷ more) p found = last_column more p (if c.pointer.0 == p.0 then Some c else found)

abbrev pub listed_if : List Object → Option Column → Val → List (Item Val)
listed_if os None v = []
listed_if os (Some c) v = listed_for os c.lists v

-- what computed pointers give by columns, of which each has a list for each object
abbrev pub by_columns : List Object → List Column → Computes
by_columns os cs p v = listed_if os (last_column cs p None) v
