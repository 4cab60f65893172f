-- What was found and what the parts from here on have.
use Rattle.std.proofs.Common.{◌≡◌, ◌++◌, map, drop}
use Rattle.std.specs.List.{flat_map}
use Rattle.path_scope.specs.ScopeParts.{tree_of, inside_of, tree_of_alias, tree_of_element, trees_of_key}
use Rattle.path_scope.proofs.scopes.+inside.Given as goal

abbrev pub invariant-inside_all-loop-expr : goal.invariant-inside_all-loop-expr
invariant-inside_all-loop-expr l = l.out ++ flat_map (inside_of l.bound) (drop l.expr-index l.exprs) ≡ l.fn.out ++ flat_map (inside_of l.bound) l.exprs

abbrev pub invariant-add_scopes-loop-scope : goal.invariant-add_scopes-loop-scope
invariant-add_scopes-loop-scope l = l.out ++ map (tree_of l.bound) (drop l.scope-index l.scopes) ≡ l.fn.out ++ map (tree_of l.bound) l.scopes

abbrev pub invariant-add_elements-loop-element : goal.invariant-add_elements-loop-element
invariant-add_elements-loop-element l = l.out ++ map (tree_of_element l.bound) (drop l.element-index l.elements) ≡ l.fn.out ++ map (tree_of_element l.bound) l.elements

abbrev pub invariant-add_aliases-loop-alias : goal.invariant-add_aliases-loop-alias
invariant-add_aliases-loop-alias l = l.out ++ map (tree_of_alias l.bound) (drop l.alias-index l.aliases) ≡ l.fn.out ++ map (tree_of_alias l.bound) l.aliases

abbrev pub invariant-add_keys-loop-key : goal.invariant-add_keys-loop-key
invariant-add_keys-loop-key l = l.out ++ flat_map (trees_of_key l.bound) (drop l.key-index l.keys) ≡ l.fn.out ++ flat_map (trees_of_key l.bound) l.keys
