-- The scopes of a query, one inside the other, each with its factored prefixes.
use Rattle.std.specs.Prelude.{ℕ, false, List, [], ◌∷◌, ◌++◌, Option, Some, None}
use Rattle.core_ir.specs.declared.path.Path.{Path}
use Rattle.core_ir.specs.declared.path.TypeId.{TypeId}
use Rattle.core_ir.specs.declared.phase.Core.{Core}
use Rattle.core_ir.specs.declared.tree.Occurrence.{Occurrence}
use Rattle.core_ir.specs.declared.tree.Direct.{Direct}
use Rattle.core_ir.specs.declared.tree.Order.TheVariants as order
use Rattle.core_ir.specs.declared.tree.Expr.{Expr, Row_of-Expr, end_of-Expr, more_of-Expr, Row_of-Scope, end_of-Scope, more_of-Scope, Row_of-Alias, end_of-Alias, more_of-Alias, Row_of-Element, end_of-Element, more_of-Element}
use Rattle.core_ir.specs.declared.tree.Expr as e
use Rattle.core_ir.specs.declared.tree.Select.{Select', Held-Select-filter, None', Some', Row_of-Key, end_of-Key, more_of-Key}
use Rattle.core_ir.specs.declared.tree.Key as key
use Rattle.core_ir.specs.Occurrences.{direct, all, all_of_clause, all_of_keys}
use Rattle.core_ir.specs.Path.{subject, variable}
use Rattle.path_scope.specs.Factored.{factored, bound_within}
use Rattle.path_scope.specs.declared.prefix.Prefix.{Prefix}
use Rattle.path_scope.specs.declared.tree.ScopeTree.{ScopeTree, roll-ScopeTree}

-- a scope that begins at a byte, with its prefixes and what is inside
abbrev pub scope_of : ℕ → List Prefix → List ScopeTree → ScopeTree
scope_of start prefixes inner = roll-ScopeTree (record { start = start; prefixes = prefixes; inner = inner })

-- a scope with these occurrences; what is inside it knows that its prefixes are bound
abbrev pub scope_with : ℕ → List Direct → List Occurrence → (List Path → List ScopeTree) → List Path → ScopeTree
scope_with start ds os inside bound = let fs = factored ds os bound in scope_of start fs (inside (bound_within fs bound))

unfoldable mutual
  -- The scopes directly inside an expression, in the order of their first bytes, where these paths are bound around it.
  pub inside : Expr → List Path → List ScopeTree
  inside (e.OnBase' _ start _ _ (more_of-Expr base end_of-Expr) _) bound = scope_with start (direct base false) (all base) (inside base) bound ∷ []
  inside (e.Operation' _ _ _ operands) bound = inside_all operands bound
  inside (e.Plus' _ _ operand) bound = inside_all operand bound
  inside (e.Cast' _ _ _ operand) bound = inside_all operand bound
  inside (e.Tuple' _ _ parts) bound = inside_all parts bound
  inside (e.OptionalEqual' _ _ _ left _ right) bound = inside_all left bound ++ inside_all right bound
  inside (e.In' _ _ _ left start _ _ (more_of-Expr set end_of-Expr)) bound =
      inside_all left bound ++ scope_with start (direct set false) (all set) (inside set) bound ∷ []
  inside (e.OfSet' _ _ start _ _ (more_of-Expr set end_of-Expr)) bound = scope_with start (direct set false) (all set) (inside set) bound ∷ []
  inside (e.Union' _ s _ _ (more_of-Expr x end_of-Expr) t _ _ (more_of-Expr y end_of-Expr)) bound =
      scope_with s (direct x false) (all x) (inside x) bound ∷ scope_with t (direct y false) (all y) (inside y) bound ∷ []
  inside (e.Set' _ _ elements) bound = scopes elements bound
  inside (e.Coalesce' _ _ first start _ _ (more_of-Expr y end_of-Expr)) bound =
      inside_all first bound ++ scope_with start (direct y false) (all y) (inside y) bound ∷ []
  inside (e.If' _ order.ValueFirst _ c s _ _ (more_of-Expr x end_of-Expr) t _ _ (more_of-Expr y end_of-Expr)) bound =
      scope_with s (direct x false) (all x) (inside x) bound ∷ inside_all c bound ++ scope_with t (direct y false) (all y) (inside y) bound ∷ []
  inside (e.If' _ order.ConditionFirst _ c s _ _ (more_of-Expr x end_of-Expr) t _ _ (more_of-Expr y end_of-Expr)) bound =
      inside_all c bound ++ scope_with s (direct x false) (all x) (inside x) bound ∷ scope_with t (direct y false) (all y) (inside y) bound ∷ []
  inside (e.Shaped' _ _ x _ k _ elements) bound = inside_all x bound ++ element_scopes elements (subject k ∷ bound)
  -- a statement is a scope; its aliases, offset and limit stand beside it, and its subject is bound in its clauses
  inside (e.Select' start _ aliases (Select' _ (more_of-Expr x end_of-Expr) _ k filter _ keys offset limit)) bound =
      scope_with start (direct x false) (all x ++ all_of_clause filter ++ all_of_keys keys)
      (λ qs. inside x qs ++ clause_scopes filter (subject k ∷ qs) ++ key_scopes keys (subject k ∷ qs)) bound
      ∷ (alias_scopes aliases bound ++ clause_scopes offset bound ++ clause_scopes limit bound)
  inside (e.For' start _ aliases k s _ _ (more_of-Expr x end_of-Expr) t _ _ (more_of-Expr y end_of-Expr)) bound =
      scope_of start [] (scope_with s (direct x false) (all x) (inside x) bound ∷ scope_with t (direct y false) (all y) (inside y) (variable k ∷ bound) ∷ [])
      ∷ alias_scopes aliases bound
  inside (e.Array' _ _ _ elements) bound = inside_all elements bound
  inside (e.ArrayCast' _ _ _ operand) bound = inside_all operand bound
  inside (e.Unpack' _ _ operand) bound = inside_all operand bound
  inside (e.Unfit' _ _ _ _ parts) bound = inside_all parts bound
  inside _ bound = []

  pub inside_all : {m : _} → Row_of-Expr m → List Path → List ScopeTree
  inside_all end_of-Expr bound = []
  inside_all (more_of-Expr x rest) bound = inside x bound ++ inside_all rest bound

  pub scopes : {m : _} → Row_of-Scope m → List Path → List ScopeTree
  scopes end_of-Scope bound = []
  scopes (more_of-Scope start _ _ (more_of-Expr x end_of-Expr) rest) bound =
      scope_with start (direct x false) (all x) (inside x) bound ∷ scopes rest bound

  pub element_scopes : {m : _} → Row_of-Element m → List Path → List ScopeTree
  element_scopes end_of-Element bound = []
  element_scopes (more_of-Element _ _ _ _ _ _ start _ _ (more_of-Expr x end_of-Expr) rest) bound =
      scope_with start (direct x false) (all x) (inside x) bound ∷ element_scopes rest bound

  pub alias_scopes : {m : _} → Row_of-Alias m → List Path → List ScopeTree
  alias_scopes end_of-Alias bound = []
  alias_scopes (more_of-Alias _ start _ _ (more_of-Expr x end_of-Expr) rest) bound =
      scope_with start (direct x false) (all x) (inside x) bound ∷ alias_scopes rest bound

  pub clause_scopes : Held-Select-filter → List Path → List ScopeTree
  clause_scopes None' bound = []
  clause_scopes (Some' _ one_scope) bound = scopes one_scope bound

  pub key_scopes : {m : _} → Row_of-Key m → List Path → List ScopeTree
  key_scopes end_of-Key bound = []
  key_scopes (more_of-Key k rest) bound = key_scope k bound ++ key_scopes rest bound

  pub key_scope : key.Key → List Path → List ScopeTree
  key_scope (key.Ascending' _ start _ _ (more_of-Expr x end_of-Expr)) bound = scope_with start (direct x false) (all x) (inside x) bound ∷ []
  key_scope (key.Descending' _ start _ _ (more_of-Expr x end_of-Expr)) bound = scope_with start (direct x false) (all x) (inside x) bound ∷ []

-- what is bound around the outermost scope: nothing in a query, the subject in an expression of a schema
abbrev pub bound_around : Option TypeId → List Path
bound_around None = []
bound_around (Some t) = subject 0 ∷ []

-- the scopes of a tree: the outermost one, with all others in it
abbrev pub scope_tree : Core → ScopeTree
scope_tree core = scope_with core.root.start (direct core.root.body false) (all core.root.body) (inside core.root.body) (bound_around core.subject)
