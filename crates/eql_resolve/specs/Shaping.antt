-- A shape whose first parts are known: the parts that are left, and the whole.
use Rattle.std.specs.Prelude.{ℕ, Bool, List}
use Rattle.plan.specs.Ruled.{fresh, ◌>>=◌}
use Rattle.core_ir.specs.declared.tree.Element.{Element}
use Rattle.core_ir.specs.declared.tree.Expr.{Expr}
use Rattle.eql_naming.specs.Naming.{Naming}
use Rattle.eql_naming.specs.Paths.{subject_at}
use Rattle.eql_naming.specs.Shapes.{shape_made}
use Rattle.eql_naming.specs.declared.around.Subject.{Subject}

-- behind the expression that has the shape, and the number of its subject
abbrev pub elements_behind : ℕ → Bool → ℕ → Expr → ℕ → Naming (List Element) → Naming Expr
elements_behind start result brace x k elements = elements >>= (λ es. shape_made start result brace x k es)

-- behind the expression that has the shape
abbrev pub shape_behind : ℕ → Bool → ℕ → Expr → (Subject → Naming (List Element)) → Naming Expr
shape_behind start result brace x elements = fresh >>= (λ k. elements_behind start result brace x k (elements (subject_at x k)))
