use Rattle.std.proofs.Common.{◌≡◌, drop}
use Rattle.schema_build.specs.Lineage.{repeats_a_name}
use Rattle.schema_build.proofs.RepeatLaws.{repeats_from}
use Rattle.schema_build.proofs.lineage.repeats_a_name.Given as goal

abbrev pub invariant-loop-name : goal.invariant-loop-name
invariant-loop-name l = repeats_from l.seen (drop l.name-index l.names) ≡ repeats_a_name l.names
