use Rattle.std.proofs.Common.{◌≡◌, drop}
use Rattle.eql_world.specs.View.{some_speaks}
use Rattle.eql_world.proofs.shown.some_speaks.Given as goal

abbrev pub invariant-loop-rule : goal.invariant-loop-rule
invariant-loop-rule l = some_speaks l.world.schema.now l.world.objects.now l.world.args.now l.allow l.object (drop l.rule-index l.rules) ≡ some_speaks l.world.schema.now l.world.objects.now l.world.args.now l.allow l.object l.rules
