-- The base with a number in each form, as the code makes the form.
use Rattle.std.proofs.Common.{◌≡◌, ◌==◌, ℕ, Bool, true, false, cond, List, [], ◌∷◌, Option, Some, None, option_map, refl, ap, sym, ◌∙◌}
use Rattle.ev_value.specs.declared.operator.Op.{Op}
use Rattle.ev_value.specs.declared.value.Val.{Val}
use Rattle.ev_value.specs.declared.value.ScalarTy.{ScalarTy}
use Rattle.ev_list.specs.declared.param.Param.{Param}
use Rattle.core_ir.specs.declared.ty.Ty.{Ty}
use Rattle.core_ir.specs.declared.tree.Misfit.{Misfit}
use Rattle.core_ir.specs.declared.tree.Occurrence.{Occurrence}
use Rattle.core_ir.specs.declared.tree.Scope.{Scope}
use Rattle.core_ir.specs.declared.tree.SetFunction.{SetFunction}
use Rattle.core_ir.specs.declared.tree.Alias.{Alias}
use Rattle.core_ir.specs.declared.tree.Element.{Element}
use Rattle.core_ir.specs.declared.tree.Conditional.{Conditional}
use Rattle.core_ir.specs.declared.tree.Select.{Select}
use Rattle.core_ir.specs.declared.tree.Expr.{Expr}
use Rattle.core_ir.specs.declared.tree.Expr.TheVariants as form
use Rattle.eql_eval.specs.Bases.{IsBase, IsBaseAmong}
use Rattle.eql_sem.specs.Meaning.{bases, base_among, base_number}
use Rattle.eql_sem.specs.Parts.{base_found, base_in_all, or_else, or_nothing, values_in}
use Rattle.eql_sem.specs.World.{World}
use Rattle.eql_sem.specs.declared.binding.Bound.{Bound}
use Rattle.eql_sem.specs.declared.binding.Name.{Name}
use Rattle.eql_sem.proofs.Equations as eq

-- ---- forms that have the bases of one part, or of none

same : (f : Option Scope) (x y : Expr) (k : ℕ) → ((w : World) → bases w y ≡ bases w x) → IsBase f x k → IsBase f y k
same f x y k e h = λ w ns b. ap (λ l. base_found l k ns b) (e w) ∙ h w ns b

none : (y : Expr) (k : ℕ) → ((w : World) → bases w y ≡ []) → IsBase None y k
none y k e = λ w ns b. ap (λ l. base_found l k ns b) (e w)

pub base_plus : (n : ℕ) (x : Expr) (f : Option Scope) (k : ℕ) → IsBase f x k → IsBase f (form.Plus n x) k
base_plus n x f k = same f x (form.Plus n x) k (λ w. eq.bases_plus w n x)

pub base_cast : (n : ℕ) (t : ScalarTy) (x : Expr) (f : Option Scope) (k : ℕ) → IsBase f x k → IsBase f (form.Cast n t x) k
base_cast n t x f k = same f x (form.Cast n t x) k (λ w. eq.bases_cast w n t x)

pub base_in_set : (n : ℕ) (negated : Bool) (x : Expr) (s : Scope) (f : Option Scope) (k : ℕ) → IsBase f x k → IsBase f (form.In n negated x s) k
base_in_set n negated x s f k = same f x (form.In n negated x s) k (λ w. eq.bases_in_set w n negated x s)

pub base_coalesce : (n : ℕ) (x : Expr) (s : Scope) (f : Option Scope) (k : ℕ) → IsBase f x k → IsBase f (form.Coalesce n x s) k
base_coalesce n x s f k = same f x (form.Coalesce n x s) k (λ w. eq.bases_coalesce w n x s)

pub base_if : (n : ℕ) (c : Conditional) (f : Option Scope) (k : ℕ) → IsBase f c.condition k → IsBase f (form.If n c) k
base_if n c f k = same f c.condition (form.If n c) k (λ w. eq.bases_if w n c)

pub base_shaped : (n : ℕ) (x : Expr) (y : Option Ty) (j : ℕ) (es : List Element) (f : Option Scope) (k : ℕ) → IsBase f x k → IsBase f (form.Shaped n x y j es) k
base_shaped n x y j es f k = same f x (form.Shaped n x y j es) k (λ w. eq.bases_shaped w n x y j es)

pub base_array_cast : (n : ℕ) (t : ScalarTy) (x : Expr) (f : Option Scope) (k : ℕ) → IsBase f x k → IsBase f (form.ArrayCast n t x) k
base_array_cast n t x f k = same f x (form.ArrayCast n t x) k (λ w. eq.bases_array_cast w n t x)

pub base_unpack : (n : ℕ) (x : Expr) (f : Option Scope) (k : ℕ) → IsBase f x k → IsBase f (form.Unpack n x) k
base_unpack n x f k = same f x (form.Unpack n x) k (λ w. eq.bases_unpack w n x)

pub base_literal : (n : ℕ) (v : Val) (k : ℕ) → IsBase None (form.Literal n v) k
base_literal n v k = none (form.Literal n v) k (λ w. eq.bases_literal w n v)

pub base_param : (n : ℕ) (p : Param) (k : ℕ) → IsBase None (form.Param n p) k
base_param n p k = none (form.Param n p) k (λ w. eq.bases_param w n p)

pub base_global : (n : ℕ) (g : List ℕ) (k : ℕ) → IsBase None (form.Global n g) k
base_global n g k = none (form.Global n g) k (λ w. eq.bases_global w n g)

pub base_path : (n : ℕ) (o : Occurrence) (k : ℕ) → IsBase None (form.Path n o) k
base_path n o k = none (form.Path n o) k (λ w. eq.bases_path w n o)

pub base_of_set : (n : ℕ) (g : SetFunction) (s : Scope) (k : ℕ) → IsBase None (form.OfSet n g s) k
base_of_set n g s k = none (form.OfSet n g s) k (λ w. eq.bases_of_set w n g s)

pub base_union : (n : ℕ) (s t : Scope) (k : ℕ) → IsBase None (form.Union n s t) k
base_union n s t k = none (form.Union n s t) k (λ w. eq.bases_union w n s t)

pub base_set : (n : ℕ) (xs : List Scope) (k : ℕ) → IsBase None (form.Set n xs) k
base_set n xs k = none (form.Set n xs) k (λ w. eq.bases_set w n xs)

pub base_select : (n : ℕ) (xs : List Alias) (s : Select) (k : ℕ) → IsBase None (form.Select n xs s) k
base_select n xs s k = none (form.Select n xs s) k (λ w. eq.bases_select w n xs s)

pub base_for : (n : ℕ) (xs : List Alias) (j : ℕ) (s t : Scope) (k : ℕ) → IsBase None (form.For n xs j s t) k
base_for n xs j s t k = none (form.For n xs j s t) k (λ w. eq.bases_for w n xs j s t)

pub base_empty_set : (n : ℕ) (t : Ty) (k : ℕ) → IsBase None (form.EmptySet n t) k
base_empty_set n t k = none (form.EmptySet n t) k (λ w. eq.bases_empty_set w n t)

-- ---- an occurrence on a base

by_number : (w : World) (s : Scope) (ns : List Name) (b : List Bound) (t : Bool)
    → cond t (Some (values_in w s.body ns b)) None ≡ option_map (λ s. values_in w s.body ns b) (cond t (Some s) None)
by_number w s ns b true = refl
by_number w s ns b false = refl

pub base_here : (n : ℕ) (s : Scope) (o : Occurrence) (k : ℕ) → IsBase (cond (base_number o.path.root == k) (Some s) None) (form.OnBase n s o) k
base_here n s o k = λ w ns b. eq.base_on w n s o k ns b ∙ by_number w s ns b (base_number o.path.root == k)

-- ---- forms with several parts

pub base_operation : (n : ℕ) (op : Op) (xs : List Expr) (f : Option Scope) (k : ℕ) → IsBaseAmong f xs k → IsBase f (form.Operation n op xs) k
base_operation n op xs f k h = λ w ns b. eq.base_operation w n op xs k ns b ∙ h w ns b

pub base_tuple : (n : ℕ) (xs : List Expr) (f : Option Scope) (k : ℕ) → IsBaseAmong f xs k → IsBase f (form.Tuple n xs) k
base_tuple n xs f k h = λ w ns b. eq.base_tuple w n xs k ns b ∙ h w ns b

pub base_array : (n : ℕ) (t : Option ScalarTy) (xs : List Expr) (f : Option Scope) (k : ℕ) → IsBaseAmong f xs k → IsBase f (form.Array n t xs) k
base_array n t xs f k h = λ w ns b. eq.base_array w n t xs k ns b ∙ h w ns b

pub base_unfit : (n : ℕ) (m : Misfit) (j : ℕ) (xs : List Expr) (f : Option Scope) (k : ℕ) → IsBaseAmong f xs k → IsBase f (form.Unfit n m j xs) k
base_unfit n m j xs f k h = λ w ns b. eq.base_unfit w n m j xs k ns b ∙ h w ns b

pub base_left : (n : ℕ) (negated : Bool) (x y : Expr) (s : Scope) (k : ℕ) → IsBase (Some s) x k → IsBase (Some s) (form.OptionalEqual n negated x y) k
base_left n negated x y s k h = λ w ns b. eq.base_optional_equal w n negated x y k ns b ∙ ap (λ o. or_else o (base_found (bases w y) k ns b)) (h w ns b)

pub base_right : (n : ℕ) (negated : Bool) (x y : Expr) (f : Option Scope) (k : ℕ) → IsBase None x k → IsBase f y k → IsBase f (form.OptionalEqual n negated x y) k
base_right n negated x y f k h g =
    λ w ns b. eq.base_optional_equal w n negated x y k ns b ∙ ap (λ o. or_else o (base_found (bases w y) k ns b)) (h w ns b) ∙ g w ns b

-- ---- one turn of a loop over several expressions, where those before this one have no such base

abbrev pub Left : List Expr → List Expr → ℕ → Type 0
Left rest all k = (w : World) (ns : List Name) (b : List Bound) → base_in_all w rest k ns b ≡ base_in_all w all k ns b

pub left_turn : (x : Expr) (xs all : List Expr) (k : ℕ) → Left (x ∷ xs) all k → IsBase None x k → Left xs all k
left_turn x xs all k h none = λ w ns b. sym (ap (λ o. or_else o (base_in_all w xs k ns b)) (none w ns b)) ∙ h w ns b

pub left_here : (x : Expr) (xs all : List Expr) (s : Scope) (k : ℕ) → Left (x ∷ xs) all k → IsBase (Some s) x k → IsBaseAmong (Some s) all k
left_here x xs all s k h found = λ w ns b. sym (h w ns b) ∙ ap (λ o. or_else o (base_in_all w xs k ns b)) (found w ns b)

pub left_none : (all : List Expr) (k : ℕ) → Left [] all k → IsBaseAmong None all k
left_none all k h = λ w ns b. sym (h w ns b)

pub ruleset base_forms = (base_plus, base_cast, base_in_set, base_coalesce, base_if, base_shaped, base_literal, base_param, base_global, base_path, base_of_set, base_union, base_set, base_select, base_for, base_here, base_operation, base_tuple, base_array, base_array_cast, base_unpack, base_empty_set, base_unfit, base_left, base_right)

-- ---- the list of a base

pub base_some : (w : World) (x : Expr) (s : Scope) (k : ℕ) (ns : List Name) (b : List Bound) → IsBase (Some s) x k → values_in w s.body ns b ≡ base_among (bases w x) k ns b
base_some w x s k ns b h = sym (eq.base_among_is w (bases w x) k ns b ∙ ap or_nothing (h w ns b))

pub base_none : (w : World) (x : Expr) (k : ℕ) (ns : List Name) (b : List Bound) → IsBase None x k → [] ≡ base_among (bases w x) k ns b
base_none w x k ns b h = sym (eq.base_among_is w (bases w x) k ns b ∙ ap or_nothing (h w ns b))
