-- Which expressions are `{}`, as the code makes the expressions.
use Rattle.std.proofs.Common.{◌≡◌, ◌<◌, ◌≤◌, length, rules, ℕ, Bool, true, false, List, [], ◌∷◌, refl, sym}
use denote.Hole.Carrier as carrier
use Rattle.ast.specs.declared.expression.Expr as e
use Rattle.ast.specs.declared.expression.Expr.{Expr}
use Rattle.ast.specs.declared.expression.Expr.TheBlock as block
use Rattle.ast.specs.declared.name.Span.{Span}
use Rattle.eql_naming.specs.Forms.{is_empty_set}

pub empty_group : (at : Span) (x : Expr) → is_empty_set (e.Group at x) ≡ is_empty_set x
unfolding block.hidden-the_row-Expr-2 carrier.hidden
empty_group at x = refl

no_element : (at : Span) → is_empty_set (e.Set at []) ≡ true
unfolding block.hidden-the_row-Expr-0 carrier.hidden
no_element at = refl

some_element : (at : Span) (x : Expr) (xs : List Expr) → is_empty_set (e.Set at (x ∷ xs)) ≡ false
unfolding block.hidden-the_row-Expr-0 carrier.hidden
some_element at x xs = refl

pub below_one : (at : Span) (xs : List Expr) → length xs < 1 → true ≡ is_empty_set (e.Set at xs)
below_one at [] h = sym (no_element at)
below_one at (x ∷ xs) h = absurd (search (rules, h))

pub from_one : (at : Span) (xs : List Expr) → 1 ≤ length xs → false ≡ is_empty_set (e.Set at xs)
from_one at [] h = absurd (search (rules, h))
from_one at (x ∷ xs) h = sym (some_element at x xs)
