-- What was found and what the parts from here on have.
use Rattle.std.proofs.Common.{◌≡◌, ◌++◌, drop}
use Rattle.std.specs.List.{flat_map}
use Rattle.core_ir.specs.Occurrences.{all, all_of_key}
use Rattle.core_ir.specs.Parts.{all_in, all_of_alias, all_of_element}
use Rattle.core_ir.proofs.occurring.+all.Given as goal

abbrev pub invariant-collect_from-loop-expr : goal.invariant-collect_from-loop-expr
invariant-collect_from-loop-expr l = l.out ++ flat_map all (drop l.expr-index l.exprs) ≡ l.fn.out ++ flat_map all l.exprs

abbrev pub invariant-collect_from_scopes-loop-scope : goal.invariant-collect_from_scopes-loop-scope
invariant-collect_from_scopes-loop-scope l = l.out ++ flat_map all_in (drop l.scope-index l.scopes) ≡ l.fn.out ++ flat_map all_in l.scopes

abbrev pub invariant-collect_from_elements-loop-element : goal.invariant-collect_from_elements-loop-element
invariant-collect_from_elements-loop-element l = l.out ++ flat_map all_of_element (drop l.element-index l.elements) ≡ l.fn.out ++ flat_map all_of_element l.elements

abbrev pub invariant-collect_from_aliases-loop-alias : goal.invariant-collect_from_aliases-loop-alias
invariant-collect_from_aliases-loop-alias l = l.out ++ flat_map all_of_alias (drop l.alias-index l.aliases) ≡ l.fn.out ++ flat_map all_of_alias l.aliases

abbrev pub invariant-collect_from_keys-loop-key : goal.invariant-collect_from_keys-loop-key
invariant-collect_from_keys-loop-key l = l.out ++ flat_map all_of_key (drop l.key-index l.keys) ≡ l.fn.out ++ flat_map all_of_key l.keys
