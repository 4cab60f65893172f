-- The copies so far are the types so far.
use Rattle.std.proofs.Common.{◌≡◌, take}
use Rattle.sql_ast.proofs.ty.+copy.Given as goal

abbrev pub invariant-copied_types-loop-ty : goal.invariant-copied_types-loop-ty
invariant-copied_types-loop-ty l = l.copies ≡ take l.ty-index l.types
