-- Which base expression of a scope has a number.
use Rattle.std.specs.Prelude.{◌≡◌, ℕ, List, Option, option_map}
use Rattle.core_ir.specs.declared.tree.Expr.{Expr}
use Rattle.core_ir.specs.declared.tree.Scope.{Scope}
use Rattle.eql_sem.specs.Meaning.{bases}
use Rattle.eql_sem.specs.Parts.{base_found, base_in_all, values_in}
use Rattle.eql_sem.specs.World.{World}
use Rattle.eql_sem.specs.declared.binding.Bound.{Bound}
use Rattle.eql_sem.specs.declared.binding.Name.{Name}

-- its list is that of this scope, in every world and binding
abbrev pub IsBase : Option Scope → Expr → ℕ → Type 0
IsBase found x k = (w : World) (ns : List Name) (b : List Bound) → base_found (bases w x) k ns b ≡ option_map (λ s. values_in w s.body ns b) found

-- the same among several expressions
abbrev pub IsBaseAmong : Option Scope → List Expr → ℕ → Type 0
IsBaseAmong found xs k = (w : World) (ns : List Name) (b : List Bound) → base_in_all w xs k ns b ≡ option_map (λ s. values_in w s.body ns b) found
