use Rattle.std.proofs.Common.{◌≡◌, drop}
use Rattle.eql_steps.specs.ById.{by_id}
use Rattle.eql_steps.specs.Index.{with_entries}
use Rattle.eql_steps.proofs.index.add_entries.Given as goal

abbrev pub invariant-loop-entry : goal.invariant-loop-entry
invariant-loop-entry l = with_entries l.object l.place (by_id l.sources) (drop l.entry-index l.object.values) ≡ with_entries l.object l.place (by_id l.fn.sources) l.object.values
