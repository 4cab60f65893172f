-- What a tree with its types says of numbers and of parameters.
use Rattle.std.specs.Prelude.{ℕ, List, [], ◌∷◌, ◌++◌, Option, Some, None}
use Rattle.ev_list.specs.declared.param.Param.{Param}
use Rattle.core_ir.specs.declared.path.TypeId.{TypeId}
use Rattle.core_ir.specs.declared.phase.Core.{Core}
use Rattle.core_ir.specs.declared.tree.Expr.{Expr, Row_of-Expr, end_of-Expr, more_of-Expr, Row_of-Scope, end_of-Scope, more_of-Scope, Row_of-Alias, end_of-Alias, more_of-Alias, Row_of-Element, end_of-Element, more_of-Element}
use Rattle.core_ir.specs.declared.tree.Expr as e
use Rattle.core_ir.specs.declared.tree.Key as key
use Rattle.core_ir.specs.declared.tree.Select.{Select', Held-Select-filter, None', Some', Row_of-Key, end_of-Key, more_of-Key}
use Rattle.core_ir.specs.declared.ty.Ty.{Ty}
use Rattle.core_ir.specs.declared.ty.Ty.TheVariants.{Object}
use Rattle.eql_sem.specs.Meaning.{base_number}

-- what one place of a tree says
pub data Noted : Type 0 where
  -- that the number of an alias, a variable, a subject or a base has the type in a slot
  Numbered : ℕ → Option Ty → Noted
  -- that a parameter is asked for
  Asked : Param → Noted

unfoldable mutual
  -- what an expression says, place by place
  pub notes : Expr → List Noted
  notes (e.Literal _ _) = []
  notes (e.Param _ p) = Asked p ∷ []
  notes (e.Global _ _) = []
  notes (e.Path _ _) = []
  notes (e.OnBase' _ _ t _ base o) = Numbered (base_number o.path.root) t ∷ notes_of base
  notes (e.Operation' _ _ _ operands) = notes_of operands
  notes (e.Plus' _ _ operand) = notes_of operand
  notes (e.Cast' _ _ _ operand) = notes_of operand
  notes (e.Tuple' _ _ components) = notes_of components
  notes (e.OptionalEqual' _ _ _ left _ right) = notes_of left ++ notes_of right
  notes (e.In' _ _ _ left _ _ _ set) = notes_of left ++ notes_of set
  notes (e.OfSet' _ _ _ _ _ set) = notes_of set
  notes (e.Union' _ _ _ _ first _ _ _ second) = notes_of first ++ notes_of second
  notes (e.Set' _ _ elements) = notes_of_scopes elements
  notes (e.Coalesce' _ _ first _ _ _ second) = notes_of first ++ notes_of second
  notes (e.If' _ _ _ condition _ _ _ value _ _ _ other) = notes_of condition ++ notes_of value ++ notes_of other
  notes (e.Shaped' _ _ base t n _ elements) = Numbered n t ∷ notes_of base ++ notes_of_elements elements
  notes (e.Select' _ _ aliases (Select' _ subject t n filter _ keys offset limit)) =
      Numbered n t ∷ notes_of_aliases aliases ++ notes_of subject ++ notes_of_clause filter ++ notes_of_keys keys ++ notes_of_clause offset ++ notes_of_clause limit
  notes (e.For' _ _ aliases n _ t _ iterator _ _ _ body) = Numbered n t ∷ notes_of_aliases aliases ++ notes_of iterator ++ notes_of body
  notes (e.Array' _ _ _ elements) = notes_of elements
  notes (e.ArrayCast' _ _ _ operand) = notes_of operand
  notes (e.Unpack' _ _ operand) = notes_of operand
  notes (e.EmptySet _ _) = []
  notes (e.Unfit' _ _ _ _ parts) = notes_of parts

  pub notes_of : {m : _} → Row_of-Expr m → List Noted
  notes_of end_of-Expr = []
  notes_of (more_of-Expr x rest) = notes x ++ notes_of rest

  pub notes_of_scopes : {m : _} → Row_of-Scope m → List Noted
  notes_of_scopes end_of-Scope = []
  notes_of_scopes (more_of-Scope _ _ _ body rest) = notes_of body ++ notes_of_scopes rest

  pub notes_of_aliases : {m : _} → Row_of-Alias m → List Noted
  notes_of_aliases end_of-Alias = []
  notes_of_aliases (more_of-Alias n _ t _ value rest) = Numbered n t ∷ notes_of value ++ notes_of_aliases rest

  pub notes_of_elements : {m : _} → Row_of-Element m → List Noted
  notes_of_elements end_of-Element = []
  notes_of_elements (more_of-Element _ _ _ _ _ _ _ _ _ value rest) = notes_of value ++ notes_of_elements rest

  pub notes_of_clause : Held-Select-filter → List Noted
  notes_of_clause None' = []
  notes_of_clause (Some' _ scope) = notes_of_scopes scope

  pub notes_of_keys : {m : _} → Row_of-Key m → List Noted
  notes_of_keys end_of-Key = []
  notes_of_keys (more_of-Key k rest) = notes_of_key k ++ notes_of_keys rest

  pub notes_of_key : key.Key → List Noted
  notes_of_key (key.Ascending' _ _ _ _ value) = notes_of value
  notes_of_key (key.Descending' _ _ _ _ value) = notes_of value

-- what stands before the tree: of an expression of a schema its subject
abbrev pub notes_before : Option TypeId → List Noted
notes_before None = []
notes_before (Some a) = Numbered 0 (Some (Object a)) ∷ []

-- what a whole tree says
abbrev pub notes_of_tree : Core → List Noted
notes_of_tree core = notes_before core.subject ++ notes core.root.body
