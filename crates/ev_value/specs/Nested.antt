-- Nested forms of plain answers.
use Rattle.std.specs.Prelude.{List, [], ◌∷◌}
use Rattle.ev_value.specs.declared.nested.Nested.{Nested}
use Rattle.ev_value.specs.declared.nested.Nested.TheVariants as nested
use Rattle.ev_value.specs.declared.value.Val.{Val}

-- the form of each value, which is the value itself
abbrev pub scalars : List Val → List Nested
scalars [] = []
scalars (v ∷ more) = nested.Scalar v ∷ scalars more

-- the form of an answer whose items are plain values: the array of them
abbrev pub answer_form : List Val → Nested
answer_form vs = nested.Array (scalars vs)
