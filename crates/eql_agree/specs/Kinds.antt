-- Kinds of values, and the rules by which each form of a query has a kind.
use Rattle.std.specs.Prelude.{IsTrue, ℕ, suc, Bool, List, [], ◌∷◌}
use Rattle.ev_value.specs.Item.{EachValue}
use Rattle.ev_value.specs.Operator.{item_of_op}
use Rattle.ev_value.specs.Casts.{item_of_cast}
use Rattle.ev_value.specs.declared.operator.Op.{Op}
use Rattle.ev_value.specs.declared.value.ScalarTy.{ScalarTy}
use Rattle.ev_value.specs.declared.value.Val.{Val}
use Rattle.ev_value.specs.declared.value.Val as val
use Rattle.ev_value.specs.declared.value.Val.TheVariants as made
use Rattle.ev_list.specs.declared.param.Param.{Param}
use Rattle.core_ir.specs.declared.path.PtrId.{PtrId}
use Rattle.core_ir.specs.declared.path.Step.{Step}
use Rattle.core_ir.specs.declared.path.TypeId.{TypeId}
use Rattle.core_ir.specs.declared.tree.SetFunction.{SetFunction}
use Rattle.eql_sem.specs.Operations.{of_values, elements_of, values_in_row}

-- The rules: which kinds the forms of a query may have, given the kinds of their parts.
pub record Rules (K : Type 0) : Type 0 where
  -- the kind of the component with a number, of a tuple of this kind
  pub part : K → ℕ → K
  -- whether what is of the first kind may stand for the second
  pub widens : K → K → Bool
  -- of a literal, a parameter, a global, and the objects of a type
  pub literal : Val → K → Bool
  pub param : Param → K → Bool
  pub global : List ℕ → K → Bool
  pub extent : TypeId → K → Bool
  -- from what a step goes, and where it leads
  pub step : Step → K → K → Bool
  -- of a link's property, between a source and a target
  pub property : PtrId → List ℕ → K → K → K → Bool
  -- of the kinds of the operands, and of the kind of what is made of them
  pub operation : Op → List K → K → Bool
  pub cast : ScalarTy → K → K → Bool
  pub function : SetFunction → K → K → Bool
  -- of the kind of what is true or false
  pub truth : K → Bool
  -- of the kinds of a tuple's components, and of the kind of the tuple
  pub tuple : List K → K → Bool
  -- of the kinds of an array's elements, and of the kind of the array
  pub array : List K → K → Bool
  -- of an array's kind, and of the kind of its elements
  pub element : K → K → Bool

-- The rules, and the values of each kind.
pub record Kinds (K : Type 0) : Type 0 where
  pub rules : Rules K
  -- whether a value is of a kind
  pub holds : K → Val → Bool

-- P of each element
abbrev pub Each : {A : Type 0} → (A → Type 0) → List A → Type 0
Each P [] = Unit {0}
Each P (x ∷ more) = P x × Each P more

-- what is said of an element beside each of a list, one by one
abbrev pub Along : {A B : Type 0} → (A → B → Type 0) → List A → List B → Type 0
Along R [] [] = Unit {0}
Along R (a ∷ as') (b ∷ bs) = R a b × Along R as' bs
Along R _ _ = ⊥

-- the components of a tuple, in their order; other values have none
unfoldable pub components_of : Val → List Val
components_of (val.Tuple' _ components) = values_in_row components
components_of _ = []

module _ {K : Type 0} (k : Kinds K) where
  -- a value is of a kind
  abbrev pub Of : K → Val → Type 0
  Of u v = IsTrue (k.holds u v)

  -- values are of the kinds of a tuple's components, from the one with a number on
  abbrev pub AreParts : K → ℕ → List Val → Type 0
  AreParts t i [] = Unit {0}
  AreParts t i (v ∷ vs) = Of (k.rules.part t i) v × AreParts t (suc i) vs

  -- The rules hold of what operators, casts and functions make of values.
  pub record AreSound : Type 0 where
    pub widening : (u t : K) (v : Val) → IsTrue (k.rules.widens u t) → Of u v → Of t v
    pub literals : (v : Val) (t : K) → IsTrue (k.rules.literal v t) → Of t v
    pub operations : (op : Op) (us : List K) (t : K) (vs : List Val) → IsTrue (k.rules.operation op us t) → Along Of us vs → EachValue (Of t) (item_of_op op vs ∷ [])
    pub casts : (ty : ScalarTy) (u t : K) (v : Val) → IsTrue (k.rules.cast ty u t) → Of u v → EachValue (Of t) (item_of_cast ty v ∷ [])
    pub functions : (f : SetFunction) (u t : K) (vs : List Val) → IsTrue (k.rules.function f u t) → Each (Of u) vs → EachValue (Of t) (of_values f vs)
    pub truths : (t : K) (b : Bool) → IsTrue (k.rules.truth t) → Of t (made.Bool b)
    pub tuples : (us : List K) (t : K) (vs : List Val) → IsTrue (k.rules.tuple us t) → Along Of us vs → Of t (made.Tuple vs)
    pub components : (t : K) (v : Val) → Of t v → AreParts t 0 (components_of v)
    pub arrays : (us : List K) (t : K) (vs : List Val) → IsTrue (k.rules.array us t) → Along Of us vs → Of t (made.Array vs)
    pub elements : (u t : K) (v : Val) → IsTrue (k.rules.element u t) → Of u v → Each (Of t) (elements_of v)
