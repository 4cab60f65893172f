-- The first failure in a stated order.
use Rattle.std.specs.Prelude.{List, [], ◌∷◌, ◌++◌, Option, Some, None, Bool, true, false}

module _ {F : Type 0} where
  -- the first of two failures, each if there is one
  abbrev pub or_else : Option F → Option F → Option F
  or_else None later = later
  or_else (Some f) later = Some f

  -- a failure, where a test holds
  abbrev pub when : Bool → F → Option F
  when true f = Some f
  when false f = None

  -- the failure of the first element that has one, where each is tried after those before it
  module _ {X : Type 0} where
    unfoldable pub first_along : (List X → X → Option F) → List X → List X → Option F
    first_along fails before [] = None
    first_along fails before (x ∷ xs) = or_else (fails before x) (first_along fails (before ++ x ∷ []) xs)
