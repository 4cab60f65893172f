use Rattle.std.proofs.Common.{◌≡◌, drop}
use Rattle.std.specs.List.{list_any}
use Rattle.eql_world.specs.View.{is_select}
use Rattle.eql_world.proofs.shown.reads.Given as goal

abbrev pub invariant-loop-kind : goal.invariant-loop-kind
invariant-loop-kind l = list_any is_select (drop l.kind-index l.policy.kinds) ≡ list_any is_select l.policy.kinds
