-- What was found and what the parts from here on have.
use Rattle.std.proofs.Common.{◌≡◌, ◌++◌, ◌+◌, drop}
use Rattle.core_ir.specs.ScopedPaths.{scopes_in, scopes_in_key}
use Rattle.core_ir.specs.ScopedParts.{total, in_turn, paths_of, scopes_of_scope, paths_of_scope, scopes_of_alias, paths_of_alias, scopes_of_element, paths_of_element, paths_of_key}
use Rattle.core_ir.proofs.scoped_paths.+locate.Given as goal

abbrev pub invariant-locate_all-loop-expr : goal.invariant-locate_all-loop-expr
invariant-locate_all-loop-expr l =
    (l.next + total scopes_in (drop l.expr-index l.exprs) ≡ l.fn.next + total scopes_in l.exprs)
    × (l.out ++ in_turn scopes_in (paths_of l.around l.optional) (drop l.expr-index l.exprs) l.next ≡ l.fn.out ++ in_turn scopes_in (paths_of l.around l.optional) l.exprs l.fn.next)

abbrev pub invariant-locate_scopes-loop-scope : goal.invariant-locate_scopes-loop-scope
invariant-locate_scopes-loop-scope l =
    (l.next + total scopes_of_scope (drop l.scope-index l.scopes) ≡ l.fn.next + total scopes_of_scope l.scopes)
    × (l.out ++ in_turn scopes_of_scope (paths_of_scope l.around) (drop l.scope-index l.scopes) l.next ≡ l.fn.out ++ in_turn scopes_of_scope (paths_of_scope l.around) l.scopes l.fn.next)

abbrev pub invariant-locate_elements-loop-element : goal.invariant-locate_elements-loop-element
invariant-locate_elements-loop-element l =
    (l.next + total scopes_of_element (drop l.element-index l.elements) ≡ l.fn.next + total scopes_of_element l.elements)
    × (l.out ++ in_turn scopes_of_element (paths_of_element l.around) (drop l.element-index l.elements) l.next ≡ l.fn.out ++ in_turn scopes_of_element (paths_of_element l.around) l.elements l.fn.next)

abbrev pub invariant-locate_aliases-loop-alias : goal.invariant-locate_aliases-loop-alias
invariant-locate_aliases-loop-alias l =
    (l.next + total scopes_of_alias (drop l.alias-index l.aliases) ≡ l.fn.next + total scopes_of_alias l.aliases)
    × (l.out ++ in_turn scopes_of_alias (paths_of_alias l.around) (drop l.alias-index l.aliases) l.next ≡ l.fn.out ++ in_turn scopes_of_alias (paths_of_alias l.around) l.aliases l.fn.next)

abbrev pub invariant-locate_keys-loop-key : goal.invariant-locate_keys-loop-key
invariant-locate_keys-loop-key l =
    (l.next + total scopes_in_key (drop l.key-index l.keys) ≡ l.fn.next + total scopes_in_key l.keys)
    × (l.out ++ in_turn scopes_in_key (paths_of_key l.around) (drop l.key-index l.keys) l.next ≡ l.fn.out ++ in_turn scopes_in_key (paths_of_key l.around) l.keys l.fn.next)
