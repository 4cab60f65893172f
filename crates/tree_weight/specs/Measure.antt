-- A tree is measured by what nothing comes to, by what two things beside each other come to, and by what a node comes to that
-- stands above something. So the number of its nodes and its depth are one definition.
use Rattle.std.specs.Prelude.{List, [], ◌∷◌}
use Rattle.core_ir.specs.declared.path.PtrId.{PtrId}
use Rattle.core_ir.specs.declared.path.Root.{Root}
use Rattle.core_ir.specs.declared.path.Root.TheVariants as root
use Rattle.core_ir.specs.declared.path.Step.{Step}
use Rattle.core_ir.specs.declared.path.Step.TheVariants as step
use Rattle.core_ir.specs.declared.path.TypeId.{TypeId}

-- What nothing, two things beside each other, and a node above something come to.
pub record Measure (A : Type 0) : Type 0 where
  pub none : A
  pub beside : A → A → A
  pub above : A → A

-- What is brought into a tree, as it is measured: by the rules of a type where all its objects are reached, by those of the
-- type where a link leads, and by the expression of a computed pointer.
pub record Brought (A : Type 0) : Type 0 where
  pub by_type : TypeId → A
  pub by_link : PtrId → A
  pub by_computed : PtrId → A

module _ {A : Type 0} (m : Measure A) where
  -- a node with nothing below it
  abbrev pub leaf : A
  leaf = m.above m.none

  -- what some things come to that stand one after the other behind something
  abbrev pub all_behind : {X : Type 0} → (X → A) → A → List X → A
  all_behind f before [] = before
  all_behind f before (x ∷ more) = all_behind f (m.beside before (f x)) more

  -- The root of a path: a node above what comes with the objects of a type, where it is all of these. Any other root has been
  -- counted where its objects are reached.
  abbrev pub at_root : Brought A → Root → A
  at_root b (root.Extent t) = m.above (b.by_type t)
  at_root b _ = leaf

  -- What comes with a step: the rules of the type that it leads to, by a link, by a back link or by `[is T]`; or the expression
  -- of a computed pointer, in which the rules of the types that are reached there are counted.
  abbrev pub with_step : Brought A → Step → A
  with_step b (step.Link p) = b.by_link p
  with_step b (step.Comp p) = b.by_computed p
  with_step b (step.Back p t) = b.by_type t
  with_step b (step.Is t) = b.by_type t
  with_step b _ = m.none

  -- the steps of a path: each is a node above what it steps from, and above what comes with it
  abbrev pub along : Brought A → A → List Step → A
  along b from [] = from
  along b from (x ∷ more) = along b (m.above (m.beside from (with_step b x))) more
