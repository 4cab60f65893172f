-- What was laid out are the types so far.
use Rattle.std.proofs.Common.{◌≡◌, map, take}
use Rattle.core_ir.specs.Layout.{plain}
use Rattle.core_ir.proofs.layout.+plain.Given as goal

abbrev pub invariant-plain_all-loop-ty : goal.invariant-plain_all-loop-ty
invariant-plain_all-loop-ty l = l.found ≡ map plain (take l.ty-index l.types)
