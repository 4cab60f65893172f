-- All occurrences of paths in a tree, each with the scopes that contain it.
use Rattle.std.specs.Prelude.{ℕ, suc, ◌+◌, Bool, true, false, List, [], ◌∷◌, ◌++◌}
use Rattle.core_ir.specs.declared.scoped_paths.ScopedPath.{ScopedPath}
use Rattle.core_ir.specs.declared.phase.Core.{Core}
use Rattle.core_ir.specs.declared.tree.Order.TheVariants as order
use Rattle.core_ir.specs.declared.tree.Expr.{Expr, Row_of-Expr, end_of-Expr, more_of-Expr, Row_of-Scope, end_of-Scope, more_of-Scope, Row_of-Alias, end_of-Alias, more_of-Alias, Row_of-Element, end_of-Element, more_of-Element}
use Rattle.core_ir.specs.declared.tree.Expr as e
use Rattle.core_ir.specs.declared.tree.Select.{Select', Held-Select-filter, None', Some', Row_of-Key, end_of-Key, more_of-Key}
use Rattle.core_ir.specs.declared.tree.Key as key

-- How many scopes an expression has inside it, at any depth.
unfoldable mutual
  pub scopes_in : Expr → ℕ
  scopes_in (e.Literal _ _) = 0
  scopes_in (e.Param _ _) = 0
  scopes_in (e.Global _ _) = 0
  scopes_in (e.Path _ _) = 0
  scopes_in (e.OnBase' _ _ _ _ base _) = suc (scopes_in_all base)
  scopes_in (e.Operation' _ _ _ operands) = scopes_in_all operands
  scopes_in (e.Plus' _ _ operand) = scopes_in_all operand
  scopes_in (e.Cast' _ _ _ operand) = scopes_in_all operand
  scopes_in (e.Tuple' _ _ parts) = scopes_in_all parts
  scopes_in (e.OptionalEqual' _ _ _ left _ right) = scopes_in_all left + scopes_in_all right
  scopes_in (e.In' _ _ _ left _ _ _ set) = scopes_in_all left + suc (scopes_in_all set)
  scopes_in (e.OfSet' _ _ _ _ _ set) = suc (scopes_in_all set)
  scopes_in (e.Union' _ _ _ _ first _ _ _ second) = suc (scopes_in_all first) + suc (scopes_in_all second)
  scopes_in (e.Set' _ _ elements) = scopes_among elements
  scopes_in (e.Coalesce' _ _ first _ _ _ second) = scopes_in_all first + suc (scopes_in_all second)
  scopes_in (e.If' _ _ _ condition _ _ _ value _ _ _ other) = scopes_in_all condition + suc (scopes_in_all value) + suc (scopes_in_all other)
  scopes_in (e.Shaped' _ _ subject _ _ _ elements) = scopes_in_all subject + scopes_in_elements elements
  scopes_in (e.Select' _ _ aliases (Select' _ subject _ _ filter _ keys offset limit)) =
      suc (scopes_in_all subject + scopes_in_clause filter + scopes_in_keys keys) + scopes_in_aliases aliases + scopes_in_clause offset + scopes_in_clause limit
  scopes_in (e.For' _ _ aliases _ _ _ _ iterator _ _ _ body) =
      suc (suc (scopes_in_all iterator) + suc (scopes_in_all body)) + scopes_in_aliases aliases
  scopes_in (e.Array' _ _ _ elements) = scopes_in_all elements
  scopes_in (e.ArrayCast' _ _ _ operand) = scopes_in_all operand
  scopes_in (e.Unpack' _ _ operand) = scopes_in_all operand
  scopes_in (e.EmptySet _ _) = 0
  scopes_in (e.Unfit' _ _ _ _ parts) = scopes_in_all parts

  pub scopes_in_all : {m : _} → Row_of-Expr m → ℕ
  scopes_in_all end_of-Expr = 0
  scopes_in_all (more_of-Expr x rest) = scopes_in x + scopes_in_all rest

  pub scopes_among : {m : _} → Row_of-Scope m → ℕ
  scopes_among end_of-Scope = 0
  scopes_among (more_of-Scope _ _ _ body rest) = suc (scopes_in_all body) + scopes_among rest

  pub scopes_in_elements : {m : _} → Row_of-Element m → ℕ
  scopes_in_elements end_of-Element = 0
  scopes_in_elements (more_of-Element _ _ _ _ _ _ _ _ _ value rest) = suc (scopes_in_all value) + scopes_in_elements rest

  pub scopes_in_aliases : {m : _} → Row_of-Alias m → ℕ
  scopes_in_aliases end_of-Alias = 0
  scopes_in_aliases (more_of-Alias _ _ _ _ value rest) = suc (scopes_in_all value) + scopes_in_aliases rest

  pub scopes_in_clause : Held-Select-filter → ℕ
  scopes_in_clause None' = 0
  scopes_in_clause (Some' _ one_scope) = scopes_among one_scope

  pub scopes_in_keys : {m : _} → Row_of-Key m → ℕ
  scopes_in_keys end_of-Key = 0
  scopes_in_keys (more_of-Key k rest) = scopes_in_key k + scopes_in_keys rest

  pub scopes_in_key : key.Key → ℕ
  scopes_in_key (key.Ascending' _ _ _ _ value) = suc (scopes_in_all value)
  scopes_in_key (key.Descending' _ _ _ _ value) = suc (scopes_in_all value)

-- The occurrences in an expression, in the order of the text, where its first scope has the number n, these scopes are
-- around it, and it stands in an optional argument or does not. An occurrence on a base stands behind those in the base.
unfoldable mutual
  pub paths_in : Expr → ℕ → List ℕ → Bool → List ScopedPath
  paths_in (e.Literal _ _) n around optional = []
  paths_in (e.Param _ _) n around optional = []
  paths_in (e.Global _ _) n around optional = []
  paths_in (e.Path _ o) n around optional = record { path = o.path; scopes = around; optional = optional } ∷ []
  paths_in (e.OnBase' _ _ _ _ base o) n around optional =
      paths_in_scope base n around ++ record { path = o.path; scopes = around; optional = optional } ∷ []
  paths_in (e.Operation' _ _ _ operands) n around optional = paths_in_all operands n around optional
  paths_in (e.Plus' _ _ operand) n around optional = paths_in_all operand n around optional
  paths_in (e.Cast' _ _ _ operand) n around optional = paths_in_all operand n around optional
  paths_in (e.Tuple' _ _ parts) n around optional = paths_in_all parts n around optional
  paths_in (e.OptionalEqual' _ _ _ left _ right) n around optional =
      paths_in_all left n around true ++ paths_in_all right (n + scopes_in_all left) around true
  paths_in (e.In' _ _ _ left _ _ _ set) n around optional =
      paths_in_all left n around optional ++ paths_in_scope set (n + scopes_in_all left) around
  paths_in (e.OfSet' _ _ _ _ _ set) n around optional = paths_in_scope set n around
  paths_in (e.Union' _ _ _ _ first _ _ _ second) n around optional =
      paths_in_scope first n around ++ paths_in_scope second (n + suc (scopes_in_all first)) around
  paths_in (e.Set' _ _ elements) n around optional = paths_among elements n around
  paths_in (e.Coalesce' _ _ first _ _ _ second) n around optional =
      paths_in_all first n around true ++ paths_in_scope second (n + scopes_in_all first) around
  paths_in (e.If' _ order.ValueFirst _ condition _ _ _ value _ _ _ other) n around optional =
      paths_in_scope value n around ++ paths_in_all condition (n + suc (scopes_in_all value)) around optional
      ++ paths_in_scope other (n + suc (scopes_in_all value) + scopes_in_all condition) around
  paths_in (e.If' _ order.ConditionFirst _ condition _ _ _ value _ _ _ other) n around optional =
      paths_in_all condition n around optional ++ paths_in_scope value (n + scopes_in_all condition) around
      ++ paths_in_scope other (n + scopes_in_all condition + suc (scopes_in_all value)) around
  paths_in (e.Shaped' _ _ subject _ _ _ elements) n around optional =
      paths_in_all subject n around optional ++ paths_in_elements elements (n + scopes_in_all subject) around
  -- a statement's own scope has the first number, since it begins before its aliases do
  paths_in (e.Select' _ _ aliases (Select' _ subject _ _ filter _ keys offset limit)) n around optional =
      let inner = around ++ n ∷ [] in
      let behind = n + suc (scopes_in_all subject + scopes_in_clause filter + scopes_in_keys keys) in
      paths_in_aliases aliases behind around
      ++ (paths_in_all subject (suc n) inner false ++ paths_in_clause filter (suc n + scopes_in_all subject) inner
      ++ paths_in_keys keys (suc n + scopes_in_all subject + scopes_in_clause filter) inner)
      ++ paths_in_clause offset (behind + scopes_in_aliases aliases) around
      ++ paths_in_clause limit (behind + scopes_in_aliases aliases + scopes_in_clause offset) around
  paths_in (e.For' _ _ aliases _ _ _ _ iterator _ _ _ body) n around optional =
      let inner = around ++ n ∷ [] in
      paths_in_aliases aliases (n + suc (suc (scopes_in_all iterator) + suc (scopes_in_all body))) around
      ++ paths_in_scope iterator (suc n) inner ++ paths_in_scope body (suc n + suc (scopes_in_all iterator)) inner
  paths_in (e.Array' _ _ _ elements) n around optional = paths_in_all elements n around optional
  paths_in (e.ArrayCast' _ _ _ operand) n around optional = paths_in_all operand n around optional
  paths_in (e.Unpack' _ _ operand) n around optional = paths_in_all operand n around optional
  paths_in (e.EmptySet _ _) n around optional = []
  paths_in (e.Unfit' _ _ _ _ parts) n around optional = paths_in_all parts n around optional

  pub paths_in_all : {m : _} → Row_of-Expr m → ℕ → List ℕ → Bool → List ScopedPath
  paths_in_all end_of-Expr n around optional = []
  paths_in_all (more_of-Expr x rest) n around optional = paths_in x n around optional ++ paths_in_all rest (n + scopes_in x) around optional

  -- in a scope with the number n
  pub paths_in_scope : {m : _} → Row_of-Expr m → ℕ → List ℕ → List ScopedPath
  paths_in_scope end_of-Expr n around = []
  paths_in_scope (more_of-Expr x rest) n around = paths_in x (suc n) (around ++ n ∷ []) false

  pub paths_among : {m : _} → Row_of-Scope m → ℕ → List ℕ → List ScopedPath
  paths_among end_of-Scope n around = []
  paths_among (more_of-Scope _ _ _ body rest) n around = paths_in_scope body n around ++ paths_among rest (n + suc (scopes_in_all body)) around

  pub paths_in_elements : {m : _} → Row_of-Element m → ℕ → List ℕ → List ScopedPath
  paths_in_elements end_of-Element n around = []
  paths_in_elements (more_of-Element _ _ _ _ _ _ _ _ _ value rest) n around =
      paths_in_scope value n around ++ paths_in_elements rest (n + suc (scopes_in_all value)) around

  pub paths_in_aliases : {m : _} → Row_of-Alias m → ℕ → List ℕ → List ScopedPath
  paths_in_aliases end_of-Alias n around = []
  paths_in_aliases (more_of-Alias _ _ _ _ value rest) n around =
      paths_in_scope value n around ++ paths_in_aliases rest (n + suc (scopes_in_all value)) around

  pub paths_in_clause : Held-Select-filter → ℕ → List ℕ → List ScopedPath
  paths_in_clause None' n around = []
  paths_in_clause (Some' _ one_scope) n around = paths_among one_scope n around

  pub paths_in_keys : {m : _} → Row_of-Key m → ℕ → List ℕ → List ScopedPath
  paths_in_keys end_of-Key n around = []
  paths_in_keys (more_of-Key k rest) n around = paths_in_key k n around ++ paths_in_keys rest (n + scopes_in_key k) around

  pub paths_in_key : key.Key → ℕ → List ℕ → List ScopedPath
  paths_in_key (key.Ascending' _ _ _ _ value) n around = paths_in_scope value n around
  paths_in_key (key.Descending' _ _ _ _ value) n around = paths_in_scope value n around

-- all occurrences of a tree; its outermost scope has the number 0
abbrev pub paths_of : Core → List ScopedPath
paths_of core = paths_in core.root.body 1 (0 ∷ []) false
