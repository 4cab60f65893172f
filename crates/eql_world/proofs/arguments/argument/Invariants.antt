use Rattle.std.proofs.Common.{◌≡◌, [], drop}
use Rattle.eql_steps.specs.Steps.{argument_named}
use Rattle.eql_world.proofs.arguments.argument.Given as goal

abbrev pub invariant-loop-argument : goal.invariant-loop-argument
invariant-loop-argument l = (l.out ≡ []) × (argument_named (drop l.argument-index l.arguments) l.name ≡ argument_named l.arguments l.name)
