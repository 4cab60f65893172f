-- Which paths occur in an expression, and which of them are bound where it stands.
use Rattle.std.specs.Prelude.{Bool, true, List, [], ◌∷◌, ◌++◌}
use Rattle.core_ir.specs.declared.tree.Direct.{Direct}
use Rattle.core_ir.specs.declared.tree.Occurrence.{Occurrence}
use Rattle.core_ir.specs.declared.tree.Order.TheVariants as order
use Rattle.core_ir.specs.declared.tree.Expr.{Expr, Row_of-Expr, end_of-Expr, more_of-Expr, Row_of-Scope, end_of-Scope, more_of-Scope, Row_of-Alias, end_of-Alias, more_of-Alias, Row_of-Element, end_of-Element, more_of-Element}
use Rattle.core_ir.specs.declared.tree.Expr as e
use Rattle.core_ir.specs.declared.tree.Select.{Select', Held-Select-filter, None', Some', Row_of-Key, end_of-Key, more_of-Key}
use Rattle.core_ir.specs.declared.tree.Key as key

-- The occurrences that no inner scope contains.
unfoldable mutual
  pub direct : Expr → Bool → List Direct
  direct (e.Literal _ _) optional = []
  direct (e.Param _ _) optional = []
  direct (e.Global _ _) optional = []
  direct (e.Path _ occurrence) optional = record { occurrence = occurrence; optional = optional } ∷ []
  direct (e.OnBase' _ _ _ _ base occurrence) optional = record { occurrence = occurrence; optional = optional } ∷ []
  direct (e.Operation' _ _ _ operands) optional = direct_of operands optional
  direct (e.Plus' _ _ operand) optional = direct_of operand optional
  direct (e.Cast' _ _ _ operand) optional = direct_of operand optional
  direct (e.Tuple' _ _ components) optional = direct_of components optional
  direct (e.OptionalEqual' _ _ _ left _ right) optional = direct_of left true ++ direct_of right true
  direct (e.In' _ _ _ left _ _ _ set) optional = direct_of left optional
  direct (e.OfSet' _ _ _ _ _ set) optional = []
  direct (e.Union' _ _ _ _ first _ _ _ second) optional = []
  direct (e.Set' _ _ elements) optional = []
  direct (e.Coalesce' _ _ first _ _ _ second) optional = direct_of first true
  direct (e.If' _ _ _ condition _ _ _ value _ _ _ other) optional = direct_of condition optional
  direct (e.Shaped' _ _ subject _ _ _ elements) optional = direct_of subject optional
  direct (e.Select' _ _ aliases select) optional = []
  direct (e.For' _ _ aliases _ _ _ _ iterator _ _ _ body) optional = []
  direct (e.Array' _ _ _ elements) optional = direct_of elements optional
  direct (e.ArrayCast' _ _ _ operand) optional = direct_of operand optional
  direct (e.Unpack' _ _ operand) optional = direct_of operand optional
  direct (e.EmptySet _ _) optional = []
  direct (e.Unfit' _ _ _ _ parts) optional = direct_of parts optional

  pub direct_of : {m : _} → Row_of-Expr m → Bool → List Direct
  direct_of end_of-Expr optional = []
  direct_of (more_of-Expr x rest) optional = direct x optional ++ direct_of rest optional

-- All occurrences, in the order of the text; one that begins with a base expression stands behind those inside it.
unfoldable mutual
  pub all : Expr → List Occurrence
  all (e.Literal _ _) = []
  all (e.Param _ _) = []
  all (e.Global _ _) = []
  all (e.Path _ occurrence) = occurrence ∷ []
  all (e.OnBase' _ _ _ _ base occurrence) = all_of base ++ occurrence ∷ []
  all (e.Operation' _ _ _ operands) = all_of operands
  all (e.Plus' _ _ operand) = all_of operand
  all (e.Cast' _ _ _ operand) = all_of operand
  all (e.Tuple' _ _ components) = all_of components
  all (e.OptionalEqual' _ _ _ left _ right) = all_of left ++ all_of right
  all (e.In' _ _ _ left _ _ _ set) = all_of left ++ all_of set
  all (e.OfSet' _ _ _ _ _ set) = all_of set
  all (e.Union' _ _ _ _ first _ _ _ second) = all_of first ++ all_of second
  all (e.Set' _ _ elements) = all_of_scopes elements
  all (e.Coalesce' _ _ first _ _ _ second) = all_of first ++ all_of second
  all (e.If' _ order.ValueFirst _ condition _ _ _ value _ _ _ other) = all_of value ++ all_of condition ++ all_of other
  all (e.If' _ order.ConditionFirst _ condition _ _ _ value _ _ _ other) = all_of condition ++ all_of value ++ all_of other
  all (e.Shaped' _ _ subject _ _ _ elements) = all_of subject ++ all_of_elements elements
  -- aliases, offset and limit are counted around their statement, and not in it
  all (e.Select' _ _ aliases (Select' _ subject _ _ filter _ keys offset limit)) =
      all_of_aliases aliases ++ (all_of subject ++ all_of_clause filter ++ all_of_keys keys) ++ all_of_clause offset ++ all_of_clause limit
  all (e.For' _ _ aliases _ _ _ _ iterator _ _ _ body) = all_of_aliases aliases ++ all_of iterator ++ all_of body
  all (e.Array' _ _ _ elements) = all_of elements
  all (e.ArrayCast' _ _ _ operand) = all_of operand
  all (e.Unpack' _ _ operand) = all_of operand
  all (e.EmptySet _ _) = []
  all (e.Unfit' _ _ _ _ parts) = all_of parts

  pub all_of : {m : _} → Row_of-Expr m → List Occurrence
  all_of end_of-Expr = []
  all_of (more_of-Expr x rest) = all x ++ all_of rest

  pub all_of_scopes : {m : _} → Row_of-Scope m → List Occurrence
  all_of_scopes end_of-Scope = []
  all_of_scopes (more_of-Scope _ _ _ body rest) = all_of body ++ all_of_scopes rest

  pub all_of_aliases : {m : _} → Row_of-Alias m → List Occurrence
  all_of_aliases end_of-Alias = []
  all_of_aliases (more_of-Alias _ _ _ _ value rest) = all_of value ++ all_of_aliases rest

  pub all_of_elements : {m : _} → Row_of-Element m → List Occurrence
  all_of_elements end_of-Element = []
  all_of_elements (more_of-Element _ _ _ _ _ _ _ _ _ value rest) = all_of value ++ all_of_elements rest

  pub all_of_clause : Held-Select-filter → List Occurrence
  all_of_clause None' = []
  all_of_clause (Some' _ scope) = all_of_scopes scope

  pub all_of_keys : {m : _} → Row_of-Key m → List Occurrence
  all_of_keys end_of-Key = []
  all_of_keys (more_of-Key k rest) = all_of_key k ++ all_of_keys rest

  pub all_of_key : key.Key → List Occurrence
  all_of_key (key.Ascending' _ _ _ _ value) = all_of value
  all_of_key (key.Descending' _ _ _ _ value) = all_of value
