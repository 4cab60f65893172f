use Rattle.std.proofs.Common.{◌≡◌, ◌++◌, drop}
use Rattle.eql_steps.specs.Index.{by_link}
use Rattle.eql_steps.proofs.places.add_by_link.Given as goal

abbrev pub invariant-loop-source : goal.invariant-loop-source
invariant-loop-source l = l.out.items ++ by_link l.link (drop l.source-index l.sources) ≡ l.fn.out.items ++ by_link l.link l.sources
