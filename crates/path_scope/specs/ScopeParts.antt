-- The scopes of parts of a tree, where these paths are bound around them.
use Rattle.std.specs.Prelude.{ℕ, false, List, [], ◌∷◌, ◌++◌, Option, Some, None, flat_map}
use Rattle.core_ir.specs.declared.path.Path.{Path}
use Rattle.core_ir.specs.declared.tree.Scope.{Scope}
use Rattle.core_ir.specs.declared.tree.Alias.{Alias}
use Rattle.core_ir.specs.declared.tree.Element.{Element}
use Rattle.core_ir.specs.declared.tree.Expr.{Expr}
use Rattle.core_ir.specs.declared.tree.Key.{Key}
use Rattle.core_ir.specs.declared.tree.Select.{Select, out-Select}
use Rattle.core_ir.specs.Occurrences.{direct, all}
use Rattle.core_ir.specs.Parts.{all_of_rows}
use Rattle.core_ir.specs.Path.{subject, variable}
use Rattle.path_scope.specs.Scopes.{scope_of, scope_with, inside, key_scope}
use Rattle.path_scope.specs.declared.tree.ScopeTree.{ScopeTree}

abbrev pub tree_of : List Path → Scope → ScopeTree
tree_of bound s = scope_with s.start (direct s.body false) (all s.body) (inside s.body) bound

abbrev pub inside_of : List Path → Expr → List ScopeTree
inside_of bound x = inside x bound

abbrev pub tree_of_alias : List Path → Alias → ScopeTree
tree_of_alias bound a = tree_of bound a.value

abbrev pub tree_of_element : List Path → Element → ScopeTree
tree_of_element bound x = tree_of bound x.value

abbrev pub trees_of_key : List Path → Key → List ScopeTree
trees_of_key bound k = key_scope k bound

-- the scope of a clause, if it is there
abbrev pub trees_of_clause : List Path → Option Scope → List ScopeTree
trees_of_clause bound None = []
trees_of_clause bound (Some s) = tree_of bound s ∷ []

-- the scopes directly inside a statement's own one
abbrev pub inside_rows : Select → List Path → List ScopeTree
inside_rows s bound =
    inside (out-Select s).subject bound ++ trees_of_clause (subject (out-Select s).number ∷ bound) (out-Select s).filter
    ++ flat_map (trees_of_key (subject (out-Select s).number ∷ bound)) (out-Select s).keys

-- the scope of a statement that begins at a byte
abbrev pub tree_of_rows : List Path → ℕ → Select → ScopeTree
tree_of_rows bound start s = scope_with start (direct (out-Select s).subject false) (all_of_rows s) (inside_rows s) bound

-- the scope of a `for` that begins at a byte
abbrev pub tree_of_loop : List Path → ℕ → ℕ → Scope → Scope → ScopeTree
tree_of_loop bound start k iterator body = scope_of start [] (tree_of bound iterator ∷ tree_of (variable k ∷ bound) body ∷ [])
