-- The subjects that expressions give, as the code makes the expressions.
use Rattle.std.proofs.Common.{◌≡◌, ℕ, List, false, refl, ap, sym}
use denote.Hole.Carrier as carrier
use Rattle.core_ir.specs.declared.path.Step.{Step}
use Rattle.core_ir.specs.declared.tree.Expr.{Expr}
use Rattle.core_ir.specs.declared.tree.Expr.TheVariants as expr
use Rattle.core_ir.specs.declared.tree.Expr.TheBlock as block
use Rattle.core_ir.specs.declared.tree.Element.{Element}
use Rattle.core_ir.specs.declared.tree.Occurrence.{Occurrence}
use Rattle.core_ir.specs.declared.tree.Scope.{Scope}
use Rattle.core_ir.specs.declared.ty.Ty.{Ty}
use Rattle.std.specs.Prelude.{Option}
use Rattle.eql_naming.specs.Paths.{subject_at, stepped, step_behind}
use Rattle.plan.specs.Plan.{Given, tells}

pub at_base : (start : ℕ) (s : Scope) (o : Occurrence) (k : ℕ) → subject_at (expr.OnBase start s o) k ≡ record { name = o.name; path = o.path; of_element = false }
unfolding block.hidden-the_row-Expr-0 carrier.hidden
at_base start s o k = refl

pub at_shape : (start : ℕ) (x : Expr) (t : Option Ty) (j : ℕ) (es : List Element) (k : ℕ) → subject_at (expr.Shaped start x t j es) k ≡ subject_at x k
unfolding block.hidden-the_row-Expr-0 carrier.hidden
at_shape start x t j es k = refl

pub behind_base : (start from : ℕ) (x : Step) (place n : ℕ) (b : ℕ) (s : Scope) (o p : Occurrence) → p ≡ stepped o x place → tells (step_behind start from x place (expr.OnBase b s o) n) ≡ Given (expr.OnBase start s p, n)
unfolding step_behind block.hidden-the_row-Expr-0 carrier.hidden
behind_base start from x place n b s o p e = ap (λ q. Given (expr.OnBase start s q, n)) (sym e)
