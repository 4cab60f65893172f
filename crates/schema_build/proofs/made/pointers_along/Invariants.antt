use Rattle.std.proofs.Common.{◌≡◌, ◌++◌, drop, flat_map}
use Rattle.schema_build.specs.Lineage.{at}
use Rattle.schema_build.specs.Made.{pointers_along}
use Rattle.schema_build.proofs.made.pointers_along.Given as goal

abbrev pub invariant-loop-ty : goal.invariant-loop-ty
invariant-loop-ty l = l.all ++ flat_map (λ t. at l.numbers t.0) (drop l.ty-index l.line) ≡ pointers_along l.numbers l.own l.line
