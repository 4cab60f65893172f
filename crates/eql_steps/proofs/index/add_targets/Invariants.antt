use Rattle.std.proofs.Common.{◌≡◌, drop}
use Rattle.eql_steps.specs.ById.{by_id}
use Rattle.eql_steps.specs.Index.{with_targets}
use Rattle.eql_steps.proofs.index.add_targets.Given as goal

abbrev pub invariant-loop-target : goal.invariant-loop-target
invariant-loop-target l = with_targets l.link l.place (by_id l.sources) (drop l.target-index l.targets) ≡ with_targets l.link l.place (by_id l.fn.sources) l.targets
