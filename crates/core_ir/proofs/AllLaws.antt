-- The occurrences of each form, as the code makes the form.
use Rattle.std.proofs.Common.{◌≡◌, ℕ, Bool, true, false, List, [], ◌∷◌, ◌++◌, Option, Some, None, refl, ap, append_assoc, append-nil, sym, ◌∙◌}
use Rattle.std.specs.List.{flat_map}
use Rattle.ev_value.specs.declared.operator.Op.{Op}
use Rattle.ev_value.specs.declared.value.Val.{Val}
use Rattle.ev_value.specs.declared.value.ScalarTy.{ScalarTy}
use Rattle.ev_list.specs.declared.param.Param.{Param}
use Rattle.ev_list.specs.declared.order.Absent.{Absent}
use Rattle.core_ir.specs.Occurrences.{all, all_of, all_of_scopes, all_of_aliases, all_of_elements, all_of_clause, all_of_keys, all_of_key}
use Rattle.core_ir.specs.Parts.{in_order, all_in, all_of_alias, all_of_element, all_if_there, all_of_rows}
use Rattle.core_ir.specs.declared.tree.Occurrence.{Occurrence}
use Rattle.core_ir.specs.declared.tree.Misfit.{Misfit}
use Rattle.core_ir.specs.declared.tree.Scope.{Scope}
use Rattle.core_ir.specs.declared.tree.SetFunction.{SetFunction}
use Rattle.core_ir.specs.declared.tree.Alias.{Alias}
use Rattle.core_ir.specs.declared.tree.Element.{Element}
use Rattle.core_ir.specs.declared.tree.Conditional.{Conditional}
use Rattle.core_ir.specs.declared.tree.Select.{Select, out-Select, roll-Select, roll-out-Select}
use Rattle.core_ir.specs.declared.tree.Key.{Key}
use Rattle.core_ir.specs.declared.tree.Key.TheVariants as key
use Rattle.core_ir.specs.declared.tree.Order.{Order}
use Rattle.core_ir.specs.declared.tree.Order.TheVariants as order
use Rattle.core_ir.specs.declared.tree.Expr.{Expr}
use Rattle.core_ir.specs.declared.tree.Expr as e
use Rattle.core_ir.specs.declared.tree.Expr.TheVariants as form
use Rattle.core_ir.specs.declared.tree.Expr.TheBlock as block
use Rattle.core_ir.specs.declared.ty.Ty.{Ty}
use denote.Hole.Carrier as carrier

pub single : (x : Expr) → all_of (block.hidden-the_row-Expr-0 x) ≡ all x
unfolding all carrier.hidden block.hidden-the_row-Expr-0
single x = append-nil (all x)

pub row : (xs : List Expr) → all_of (block.hidden-the_row-Expr-1 xs) ≡ flat_map all xs
unfolding all carrier.hidden block.hidden-the_row-Expr-1
row [] = refl
row (x ∷ xs) = λ i. all x ++ row xs i

pub scopes : (xs : List Scope) → all_of_scopes (block.hidden-the_row-Scope-2 xs) ≡ flat_map all_in xs
unfolding all carrier.hidden block.hidden-the_row-Scope-2
scopes [] = refl
scopes (x ∷ xs) = λ i. append-nil (all x.body) i ++ scopes xs i

pub elements : (xs : List Element) → all_of_elements (block.hidden-the_row-Element-3 xs) ≡ flat_map all_of_element xs
unfolding all carrier.hidden block.hidden-the_row-Element-3
elements [] = refl
elements (x ∷ xs) = λ i. append-nil (all x.value.body) i ++ elements xs i

pub aliases : (xs : List Alias) → all_of_aliases (block.hidden-the_row-Alias-4 xs) ≡ flat_map all_of_alias xs
unfolding all carrier.hidden block.hidden-the_row-Alias-4
aliases [] = refl
aliases (x ∷ xs) = λ i. append-nil (all x.value.body) i ++ aliases xs i

pub all_ascending : (a : Absent) (s : Scope) → all_of_key (key.Ascending a s) ≡ all s.body
unfolding all carrier.hidden block.hidden-the_row-Expr-0
all_ascending a s = append-nil (all s.body)

pub all_descending : (a : Absent) (s : Scope) → all_of_key (key.Descending a s) ≡ all s.body
unfolding all carrier.hidden block.hidden-the_row-Expr-0
all_descending a s = append-nil (all s.body)

pub all_literal : (n : ℕ) (v : Val) → all (form.Literal n v) ≡ []
unfolding all
all_literal n v = refl

pub all_param : (n : ℕ) (p : Param) → all (form.Param n p) ≡ []
unfolding all
all_param n p = refl

pub all_global : (n : ℕ) (name : List ℕ) → all (form.Global n name) ≡ []
unfolding all
all_global n name = refl

pub all_path : (n : ℕ) (o : Occurrence) → all (form.Path n o) ≡ o ∷ []
unfolding all
all_path n o = refl

pub all_on_base : (n : ℕ) (s : Scope) (o : Occurrence) → all (form.OnBase n s o) ≡ all s.body ++ o ∷ []
unfolding all
all_on_base n s o = λ i. single s.body i ++ o ∷ []

pub all_operation : (n : ℕ) (op : Op) (xs : List Expr) → all (form.Operation n op xs) ≡ flat_map all xs
unfolding all
all_operation n op xs = row xs

pub all_plus : (n : ℕ) (x : Expr) → all (form.Plus n x) ≡ all x
unfolding all
all_plus n x = single x

pub all_cast : (n : ℕ) (t : ScalarTy) (x : Expr) → all (form.Cast n t x) ≡ all x
unfolding all
all_cast n t x = single x

pub all_tuple : (n : ℕ) (xs : List Expr) → all (form.Tuple n xs) ≡ flat_map all xs
unfolding all
all_tuple n xs = row xs

pub all_optional_equal : (n : ℕ) (b : Bool) (x y : Expr) → all (form.OptionalEqual n b x y) ≡ all x ++ all y
unfolding all
all_optional_equal n b x y = λ i. single x i ++ single y i

pub all_in_set : (n : ℕ) (b : Bool) (x : Expr) (s : Scope) → all (form.In n b x s) ≡ all x ++ all s.body
unfolding all
all_in_set n b x s = λ i. single x i ++ single s.body i

pub all_of_set : (n : ℕ) (f : SetFunction) (s : Scope) → all (form.OfSet n f s) ≡ all s.body
unfolding all
all_of_set n f s = single s.body

pub all_union : (n : ℕ) (s t : Scope) → all (form.Union n s t) ≡ all s.body ++ all t.body
unfolding all
all_union n s t = λ i. single s.body i ++ single t.body i

pub all_set : (n : ℕ) (xs : List Scope) → all (form.Set n xs) ≡ flat_map all_in xs
unfolding all
all_set n xs = scopes xs

pub all_coalesce : (n : ℕ) (x : Expr) (s : Scope) → all (form.Coalesce n x s) ≡ all x ++ all s.body
unfolding all
all_coalesce n x s = λ i. single x i ++ single s.body i

choice : (n : ℕ) (o : Order) (c : Expr) (s : ℕ) (p : Option Ty) (x : Expr) (t : ℕ) (q : Option Ty) (y : Expr) (f g h : _)
    → all (e.If' n o f (block.hidden-the_row-Expr-0 c) s p g (block.hidden-the_row-Expr-0 x) t q h (block.hidden-the_row-Expr-0 y)) ≡ in_order o (all c) (all x) (all y)
unfolding all
choice n order.ValueFirst c s p x t q y f g h = λ i. single x i ++ single c i ++ single y i
choice n order.ConditionFirst c s p x t q y f g h = λ i. single c i ++ single x i ++ single y i

pub all_if : (n : ℕ) (c : Conditional) → all (form.If n c) ≡ in_order c.order (all c.condition) (all c.value.body) (all c.other.body)
all_if n c = choice n c.order c.condition c.value.start c.value.ty c.value.body c.other.start c.other.ty c.other.body _ _ _

pub all_shaped : (n : ℕ) (x : Expr) (t : Option Ty) (k : ℕ) (es : List Element) → all (form.Shaped n x t k es) ≡ all x ++ flat_map all_of_element es
unfolding all
all_shaped n x t k es = λ i. single x i ++ elements es i

pub all_for : (n : ℕ) (xs : List Alias) (k : ℕ) (s t : Scope) → all (form.For n xs k s t) ≡ flat_map all_of_alias xs ++ all s.body ++ all t.body
unfolding all
all_for n xs k s t = λ i. aliases xs i ++ single s.body i ++ single t.body i

pub all_array : (n : ℕ) (t : Option ScalarTy) (xs : List Expr) → all (form.Array n t xs) ≡ flat_map all xs
unfolding all
all_array n t xs = row xs

pub all_array_cast : (n : ℕ) (t : ScalarTy) (x : Expr) → all (form.ArrayCast n t x) ≡ all x
unfolding all
all_array_cast n t x = single x

pub all_unpack : (n : ℕ) (x : Expr) → all (form.Unpack n x) ≡ all x
unfolding all
all_unpack n x = single x

pub all_empty_set : (n : ℕ) (t : Ty) → all (form.EmptySet n t) ≡ []
unfolding all
all_empty_set n t = refl

pub all_unfit : (n : ℕ) (m : Misfit) (k : ℕ) (xs : List Expr) → all (form.Unfit n m k xs) ≡ flat_map all xs
unfolding all
all_unfit n m k xs = row xs

pub clause : (f : Option Scope) → all_of_clause (block.back-Select-filter f) ≡ all_if_there f
unfolding all carrier.hidden block.hidden-the_row-Scope-5
clause None = refl
clause (Some s) = append-nil (all s.body ++ []) ∙ append-nil (all s.body)

pub keys : (ks : List Key) → all_of_keys (block.hidden-the_row-Key-6 ks) ≡ flat_map all_of_key ks
unfolding all carrier.hidden block.hidden-the_row-Key-6
keys [] = refl
keys (k ∷ ks) = λ i. all_of_key k ++ keys ks i

rolled : (n : ℕ) (xs : List Alias) (x : Expr) (y : Option Ty) (k : ℕ) (f : Option Scope) (ks : List Key) (o l : Option Scope)
    → all (form.Select n xs (roll-Select (record { subject = x; ty = y; number = k; filter = f; keys = ks; offset = o; limit = l })))
    ≡ flat_map all_of_alias xs ++ (all x ++ all_if_there f ++ flat_map all_of_key ks) ++ all_if_there o ++ all_if_there l
unfolding all roll-Select carrier.roll carrier.hidden
rolled n xs x y k f ks o l = λ i. aliases xs i ++ (single x i ++ clause f i ++ keys ks i) ++ clause o i ++ clause l i

pub all_select : (n : ℕ) (xs : List Alias) (s : Select)
    → all (form.Select n xs s) ≡ flat_map all_of_alias xs ++ all_of_rows s ++ all_if_there (out-Select s).offset ++ all_if_there (out-Select s).limit
all_select n xs s =
    let r = out-Select s in
    ap (λ s. all (form.Select n xs s)) (sym (roll-out-Select s)) ∙ rolled n xs r.subject r.ty r.number r.filter r.keys r.offset r.limit

pub ruleset all_forms = (append_assoc, append-nil, all_literal, all_param, all_global, all_path, all_on_base, all_operation, all_plus, all_cast, all_tuple, all_optional_equal, all_in_set, all_of_set, all_union, all_set, all_coalesce, all_if, all_shaped, all_select, all_for, all_array, all_array_cast, all_unpack, all_empty_set, all_unfit, all_ascending, all_descending)
