use Rattle.std.proofs.Common.{◌≡◌, ◌++◌, drop}
use Rattle.schema_build.specs.Made.{values_of}
use Rattle.schema_build.proofs.made.values_of.Given as goal

abbrev pub invariant-loop-argument : goal.invariant-loop-argument
invariant-loop-argument l = l.values ++ values_of (drop l.argument-index l.arguments) ≡ values_of l.arguments
