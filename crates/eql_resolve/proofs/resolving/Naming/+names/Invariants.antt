use Rattle.std.proofs.Common.{◌≡◌, false, drop, map}
use Rattle.plan.specs.Plan.{tells}
use Rattle.plan.specs.Ruled.{each_with, in_turn}
use Rattle.ast.specs.Expression.{span_of}
use Rattle.eql_naming.specs.Around.{entries}
use Rattle.eql_resolve.specs.Resolving.{resolve, scoped, key_of, element_of, alias_of, all_of, scopes_of, keys_of, elements_of, aliases_of}
use Rattle.eql_resolve.proofs.resolving.Naming.+names.Given as goal

abbrev pub invariant-all-loop-x : goal.invariant-all-loop-x
invariant-all-loop-x l = tells (each_with (λ done x. resolve l.self.index.now l.self.parameters x l.in_result (entries l.around)) l.done (drop l.x-index l.all) l.fresh) ≡ tells (all_of l.self.index.now l.self.parameters l.in_result (entries l.around) l.all l.fn.fresh)

abbrev pub invariant-scopes-loop-x : goal.invariant-scopes-loop-x
invariant-scopes-loop-x l = tells (each_with (λ done x. scoped (span_of x).start (resolve l.self.index.now l.self.parameters x false (entries l.around))) l.done (drop l.x-index l.all) l.fresh) ≡ tells (scopes_of l.self.index.now l.self.parameters (entries l.around) l.all l.fn.fresh)

abbrev pub invariant-keys-loop-x : goal.invariant-keys-loop-x
invariant-keys-loop-x l = tells (each_with (λ done x. key_of l.self.index.now l.self.parameters x (entries l.around)) l.done (drop l.x-index l.all) l.fresh) ≡ tells (keys_of l.self.index.now l.self.parameters (entries l.around) l.all l.fn.fresh)

abbrev pub invariant-elements-loop-x : goal.invariant-elements-loop-x
invariant-elements-loop-x l =
    (l.made.keys ≡ map (λ y. y.name) l.made.list)
    × (tells (each_with (λ done x. element_of l.self.index.now l.self.parameters x (map (λ y. y.name) done) (entries l.around)) l.made.list (drop l.x-index l.all) l.fresh) ≡ tells (elements_of l.self.index.now l.self.parameters (entries l.around) l.all l.fn.fresh))

abbrev pub invariant-aliases-loop-x : goal.invariant-aliases-loop-x
invariant-aliases-loop-x l = tells (in_turn (alias_of l.self.index.now l.self.parameters (entries l.around)) l.defined (drop l.x-index l.all) l.fresh) ≡ tells (aliases_of l.self.index.now l.self.parameters (entries l.around) l.all l.fn.fresh)
