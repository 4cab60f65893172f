use Rattle.std.proofs.Common.{◌≡◌, ◌++◌, drop, map}
use Rattle.eql_world.specs.View.{shown}
use Rattle.eql_world.proofs.shown.shown_flags.Given as goal

abbrev pub invariant-loop-object : goal.invariant-loop-object
invariant-loop-object l = l.flags ++ map (shown l.world.schema.now l.world.objects.now l.world.args.now) (drop l.object-index l.world.objects.now) ≡ map (shown l.world.schema.now l.world.objects.now l.world.args.now) l.world.objects.now
