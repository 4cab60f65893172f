-- The direct occurrences of each form, as the code makes the form.
use Rattle.std.proofs.Common.{◌≡◌, ℕ, Bool, true, false, List, [], ◌∷◌, ◌++◌, Option, refl, append_assoc, append-nil}
use Rattle.std.specs.List.{flat_map}
use Rattle.ev_value.specs.declared.operator.Op.{Op}
use Rattle.ev_value.specs.declared.value.Val.{Val}
use Rattle.ev_value.specs.declared.value.ScalarTy.{ScalarTy}
use Rattle.ev_list.specs.declared.param.Param.{Param}
use Rattle.core_ir.specs.Occurrences.{direct, direct_of}
use Rattle.core_ir.specs.declared.tree.Occurrence.{Occurrence}
use Rattle.core_ir.specs.declared.tree.Misfit.{Misfit}
use Rattle.core_ir.specs.declared.tree.Scope.{Scope}
use Rattle.core_ir.specs.declared.tree.SetFunction.{SetFunction}
use Rattle.core_ir.specs.declared.tree.Alias.{Alias}
use Rattle.core_ir.specs.declared.tree.Element.{Element}
use Rattle.core_ir.specs.declared.tree.Conditional.{Conditional}
use Rattle.core_ir.specs.declared.tree.Select.{Select}
use Rattle.core_ir.specs.declared.tree.Expr.{Expr}
use Rattle.core_ir.specs.declared.tree.Expr.TheVariants as form
use Rattle.core_ir.specs.declared.tree.Expr.TheBlock as block
use Rattle.core_ir.specs.declared.ty.Ty.{Ty}
use denote.Hole.Carrier as carrier

single : (x : Expr) (o : Bool) → direct_of (block.hidden-the_row-Expr-0 x) o ≡ direct x o
unfolding direct carrier.hidden block.hidden-the_row-Expr-0
single x o = append-nil (direct x o)

row : (xs : List Expr) (o : Bool) → direct_of (block.hidden-the_row-Expr-1 xs) o ≡ flat_map (λ x. direct x o) xs
unfolding direct carrier.hidden block.hidden-the_row-Expr-1
row [] o = refl
row (x ∷ xs) o = λ i. direct x o ++ row xs o i

pub direct_literal : (n : ℕ) (v : Val) (o : Bool) → direct (form.Literal n v) o ≡ []
unfolding direct
direct_literal n v o = refl

pub direct_param : (n : ℕ) (p : Param) (o : Bool) → direct (form.Param n p) o ≡ []
unfolding direct
direct_param n p o = refl

pub direct_global : (n : ℕ) (name : List ℕ) (o : Bool) → direct (form.Global n name) o ≡ []
unfolding direct
direct_global n name o = refl

pub direct_path : (n : ℕ) (p : Occurrence) (o : Bool) → direct (form.Path n p) o ≡ record { occurrence = p; optional = o } ∷ []
unfolding direct
direct_path n p o = refl

pub direct_on_base : (n : ℕ) (s : Scope) (p : Occurrence) (o : Bool) → direct (form.OnBase n s p) o ≡ record { occurrence = p; optional = o } ∷ []
unfolding direct
direct_on_base n s p o = refl

pub direct_operation : (n : ℕ) (op : Op) (xs : List Expr) (o : Bool) → direct (form.Operation n op xs) o ≡ flat_map (λ x. direct x o) xs
unfolding direct
direct_operation n op xs o = row xs o

pub direct_plus : (n : ℕ) (x : Expr) (o : Bool) → direct (form.Plus n x) o ≡ direct x o
unfolding direct
direct_plus n x o = single x o

pub direct_cast : (n : ℕ) (t : ScalarTy) (x : Expr) (o : Bool) → direct (form.Cast n t x) o ≡ direct x o
unfolding direct
direct_cast n t x o = single x o

pub direct_tuple : (n : ℕ) (xs : List Expr) (o : Bool) → direct (form.Tuple n xs) o ≡ flat_map (λ x. direct x o) xs
unfolding direct
direct_tuple n xs o = row xs o

pub direct_optional_equal : (n : ℕ) (b : Bool) (x y : Expr) (o : Bool) → direct (form.OptionalEqual n b x y) o ≡ direct x true ++ direct y true
unfolding direct
direct_optional_equal n b x y o = λ i. single x true i ++ single y true i

pub direct_in_set : (n : ℕ) (b : Bool) (x : Expr) (s : Scope) (o : Bool) → direct (form.In n b x s) o ≡ direct x o
unfolding direct
direct_in_set n b x s o = single x o

pub direct_of_set : (n : ℕ) (f : SetFunction) (s : Scope) (o : Bool) → direct (form.OfSet n f s) o ≡ []
unfolding direct
direct_of_set n f s o = refl

pub direct_union : (n : ℕ) (s t : Scope) (o : Bool) → direct (form.Union n s t) o ≡ []
unfolding direct
direct_union n s t o = refl

pub direct_set : (n : ℕ) (xs : List Scope) (o : Bool) → direct (form.Set n xs) o ≡ []
unfolding direct
direct_set n xs o = refl

pub direct_coalesce : (n : ℕ) (x : Expr) (s : Scope) (o : Bool) → direct (form.Coalesce n x s) o ≡ direct x true
unfolding direct
direct_coalesce n x s o = single x true

pub direct_if : (n : ℕ) (c : Conditional) (o : Bool) → direct (form.If n c) o ≡ direct c.condition o
unfolding direct
direct_if n c o = single c.condition o

pub direct_shaped : (n : ℕ) (x : Expr) (t : Option Ty) (k : ℕ) (es : List Element) (o : Bool) → direct (form.Shaped n x t k es) o ≡ direct x o
unfolding direct
direct_shaped n x t k es o = single x o

pub direct_select : (n : ℕ) (xs : List Alias) (s : Select) (o : Bool) → direct (form.Select n xs s) o ≡ []
unfolding direct
direct_select n xs s o = refl

pub direct_for : (n : ℕ) (xs : List Alias) (k : ℕ) (s t : Scope) (o : Bool) → direct (form.For n xs k s t) o ≡ []
unfolding direct
direct_for n xs k s t o = refl

pub direct_array : (n : ℕ) (t : Option ScalarTy) (xs : List Expr) (o : Bool) → direct (form.Array n t xs) o ≡ flat_map (λ x. direct x o) xs
unfolding direct
direct_array n t xs o = row xs o

pub direct_array_cast : (n : ℕ) (t : ScalarTy) (x : Expr) (o : Bool) → direct (form.ArrayCast n t x) o ≡ direct x o
unfolding direct
direct_array_cast n t x o = single x o

pub direct_unpack : (n : ℕ) (x : Expr) (o : Bool) → direct (form.Unpack n x) o ≡ direct x o
unfolding direct
direct_unpack n x o = single x o

pub direct_empty_set : (n : ℕ) (t : Ty) (o : Bool) → direct (form.EmptySet n t) o ≡ []
unfolding direct
direct_empty_set n t o = refl

pub direct_unfit : (n : ℕ) (m : Misfit) (k : ℕ) (xs : List Expr) (o : Bool) → direct (form.Unfit n m k xs) o ≡ flat_map (λ x. direct x o) xs
unfolding direct
direct_unfit n m k xs o = row xs o

pub ruleset direct_forms = (append_assoc, append-nil, direct_literal, direct_param, direct_global, direct_path, direct_on_base, direct_operation, direct_plus, direct_cast, direct_tuple, direct_optional_equal, direct_in_set, direct_of_set, direct_union, direct_set, direct_coalesce, direct_if, direct_shaped, direct_select, direct_for, direct_array, direct_array_cast, direct_unpack, direct_empty_set, direct_unfit)
