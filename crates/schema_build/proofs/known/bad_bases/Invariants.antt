use Rattle.std.proofs.Common.{◌≡◌, drop}
use Rattle.schema_build.specs.Known.{bad_base}
use Rattle.schema_build.specs.Least.{sooner, least_of}
use Rattle.schema_build.proofs.known.bad_bases.Given as goal

abbrev pub invariant-loop-base : goal.invariant-loop-base
invariant-loop-base l = sooner l.found (least_of (bad_base l.types) (drop l.base-index l.bases)) ≡ least_of (bad_base l.types) l.bases
