-- The prefixes that were found so far, with a set of their paths.
use Rattle.std.specs.Prelude.{◌≡◌, List}
use Rattle.std.specs.HashSet.{HashSet}
use Rattle.std.specs.HashSet as set
use Rattle.core_ir.specs.declared.path.Path.{Path}
use Rattle.core_ir.specs.Path.{path_eq}
use Rattle.path_scope.specs.declared.prefix.Prefix.{Prefix}
use Rattle.path_scope.specs.Factored.{is_listed}

-- the set has the paths of prefixes, and no other
abbrev pub Lists : {S : Type 0} → HashSet Path S → List Prefix → Type 0
Lists s found = (p : Path) → set.contains path_eq s p ≡ is_listed found p
