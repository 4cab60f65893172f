-- What the factored prefixes of a scope depend on.
use Rattle.std.specs.Prelude.{◌≡◌, List}
use Rattle.std.specs.HashSet.{HashSet}
use Rattle.std.specs.HashSet as set
use Rattle.core_ir.specs.declared.path.Path.{Path}
use Rattle.core_ir.specs.declared.tree.Direct.{Direct}
use Rattle.core_ir.specs.declared.tree.Occurrence.{Occurrence}
use Rattle.core_ir.specs.Path.{path_eq}
use Rattle.path_scope.specs.Factored.{is_bound}

-- the direct occurrences of a scope, its occurrences, and the paths that are bound around it
pub record Setting : Type 0 where
  pub direct : List Direct
  pub all : List Occurrence
  pub bound : List Path

-- the set has the paths of a list, and no other
abbrev pub HasPaths : {S : Type 0} → HashSet Path S → List Path → Type 0
HasPaths s bound = (p : Path) → set.contains path_eq s p ≡ is_bound bound p
