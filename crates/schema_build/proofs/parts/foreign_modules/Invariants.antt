use Rattle.std.proofs.Common.{◌≡◌, drop}
use Rattle.schema_build.specs.Least.{sooner, least_of}
use Rattle.schema_build.specs.Parts.{foreign_module}
use Rattle.schema_build.proofs.parts.foreign_modules.Given as goal

abbrev pub invariant-loop-part : goal.invariant-loop-part
invariant-loop-part l = sooner l.found (least_of foreign_module (drop l.part-index l.parts)) ≡ least_of foreign_module l.parts
