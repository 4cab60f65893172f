use Rattle.std.proofs.Common.{◌≡◌, drop}
use Rattle.schema_build.specs.Lineage.{shares}
use Rattle.schema_build.proofs.lineage.shares.Given as goal

abbrev pub invariant-loop-name : goal.invariant-loop-name
invariant-loop-name l = shares l.seen (drop l.name-index l.names) ≡ shares l.seen l.names
