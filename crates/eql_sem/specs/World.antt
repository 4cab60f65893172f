-- What a query is asked over.
use Rattle.std.specs.Prelude.{ℕ, List, Option}
use Rattle.ev_value.specs.declared.item.Item.{Item}
use Rattle.ev_value.specs.declared.value.Val.{Val}
use Rattle.core_ir.specs.declared.path.PtrId.{PtrId}
use Rattle.core_ir.specs.declared.path.TypeId.{TypeId}
use Rattle.core_ir.specs.declared.path.Step.{Step}

-- The objects that there are, where steps lead, and what the caller handed in. Nothing else is known to a query.
pub record World : Type 0 where
  -- the objects of a type and of those that extend it, in order of id
  pub extent : TypeId → List Val
  -- what a step gives for a list, faults included
  pub step : Step → List (Item Val) → List (Item Val)
  -- the values of a link's property between a source and a target: none or one
  pub link_property : PtrId → List ℕ → Val → Val → List Val
  -- the argument of a parameter, and that of a global
  pub param : List ℕ → Option Val
  pub global : List ℕ → Option Val
