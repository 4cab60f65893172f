-- What stands before and what is still to come are all there is.
use Rattle.std.proofs.Common.{◌≡◌, drop}
use Rattle.tree_weight.specs.Capped.{brought_of, capped_sizes, no_size}
use Rattle.tree_weight.specs.Measure.{all_behind}
use Rattle.tree_weight.specs.Trees.{measured, key_of, of_scope, of_alias, of_element}
use Rattle.tree_weight.proofs.weights.Weights.+measured.Given as goal

abbrev pub invariant-exprs-loop-expr : goal.invariant-exprs-loop-expr
invariant-exprs-loop-expr l = all_behind capped_sizes (measured capped_sizes (brought_of l.self)) l.total (drop l.expr-index l.exprs) ≡ all_behind capped_sizes (measured capped_sizes (brought_of l.self)) no_size l.exprs

abbrev pub invariant-scopes-loop-scope : goal.invariant-scopes-loop-scope
invariant-scopes-loop-scope l = all_behind capped_sizes (of_scope capped_sizes (brought_of l.self)) l.total (drop l.scope-index l.scopes) ≡ all_behind capped_sizes (of_scope capped_sizes (brought_of l.self)) no_size l.scopes

abbrev pub invariant-aliases-loop-alias : goal.invariant-aliases-loop-alias
invariant-aliases-loop-alias l = all_behind capped_sizes (of_alias capped_sizes (brought_of l.self)) l.total (drop l.alias-index l.aliases) ≡ all_behind capped_sizes (of_alias capped_sizes (brought_of l.self)) no_size l.aliases

abbrev pub invariant-elements-loop-element : goal.invariant-elements-loop-element
invariant-elements-loop-element l = all_behind capped_sizes (of_element capped_sizes (brought_of l.self)) l.total (drop l.element-index l.elements) ≡ all_behind capped_sizes (of_element capped_sizes (brought_of l.self)) l.fn.subject l.elements

abbrev pub invariant-keys-loop-key : goal.invariant-keys-loop-key
invariant-keys-loop-key l = all_behind capped_sizes (key_of capped_sizes (brought_of l.self)) l.total (drop l.key-index l.keys) ≡ all_behind capped_sizes (key_of capped_sizes (brought_of l.self)) l.fn.before l.keys
