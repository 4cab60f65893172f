use Rattle.std.proofs.Common.{◌≡◌, drop}
use Rattle.plan.specs.Plan.{tells}
use Rattle.plan.specs.Ruled.{in_turn, each_with}
use Rattle.type_rules.specs.Known.{known_by}
use Rattle.type_infer.specs.Typing.{infer, infer_key, behind, scope_of, all_of, scopes_of, alias_of, aliases_of, element_of, elements_of, keys_of}
use Rattle.type_infer.proofs.typer.Typer.+typing.Given as goal

abbrev pub invariant-all-loop-expr : goal.invariant-all-loop-expr
invariant-all-loop-expr l = tells (in_turn (λ done x. behind done (infer l.self.index.now x)) l.done (drop l.expr-index l.exprs) (known_by l.notes)) ≡ tells (all_of l.self.index.now l.exprs (known_by l.fn.notes))

abbrev pub invariant-scopes-loop-scope : goal.invariant-scopes-loop-scope
invariant-scopes-loop-scope l = tells (in_turn (λ done s. behind done (scope_of l.self.index.now s)) l.done (drop l.scope-index l.scopes) (known_by l.notes)) ≡ tells (scopes_of l.self.index.now l.scopes (known_by l.fn.notes))

abbrev pub invariant-keys-loop-key : goal.invariant-keys-loop-key
invariant-keys-loop-key l = tells (each_with (λ done k. infer_key l.self.index.now k) l.done (drop l.key-index l.keys) (known_by l.notes)) ≡ tells (keys_of l.self.index.now l.keys (known_by l.fn.notes))

abbrev pub invariant-aliases-loop-alias : goal.invariant-aliases-loop-alias
invariant-aliases-loop-alias l = tells (each_with (λ done a. alias_of l.self.index.now a) l.done (drop l.alias-index l.aliases) (known_by l.notes)) ≡ tells (aliases_of l.self.index.now l.aliases (known_by l.fn.notes))

abbrev pub invariant-elements-loop-element : goal.invariant-elements-loop-element
invariant-elements-loop-element l = tells (each_with (λ done x. element_of l.self.index.now x) l.done (drop l.element-index l.elements) (known_by l.notes)) ≡ tells (elements_of l.self.index.now l.elements (known_by l.fn.notes))
