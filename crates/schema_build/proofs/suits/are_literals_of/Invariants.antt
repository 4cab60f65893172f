use Rattle.std.proofs.Common.{◌≡◌, drop}
use Rattle.std.specs.List.{list_all}
use Rattle.schema_build.specs.Suits.{is_literal_of}
use Rattle.schema_build.proofs.suits.are_literals_of.Given as goal

abbrev pub invariant-loop-value : goal.invariant-loop-value
invariant-loop-value l = list_all (is_literal_of l.meant) (drop l.value-index l.arguments) ≡ list_all (is_literal_of l.meant) l.arguments
