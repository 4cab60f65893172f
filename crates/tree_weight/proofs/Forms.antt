-- What each form comes to, as the code makes the form.
use Rattle.std.proofs.Common.{◌≡◌, ℕ, Bool, List, [], ◌∷◌, Option, Some, None, refl, ap, sym, ◌∙◌}
use Rattle.ev_value.specs.declared.operator.Op.{Op}
use Rattle.ev_value.specs.declared.value.ScalarTy.{ScalarTy}
use Rattle.ev_value.specs.declared.value.Val.{Val}
use Rattle.ev_list.specs.declared.order.Absent.{Absent}
use Rattle.ev_list.specs.declared.param.Param.{Param}
use Rattle.core_ir.specs.declared.tree.Alias.{Alias}
use Rattle.core_ir.specs.declared.tree.Conditional.{Conditional}
use Rattle.core_ir.specs.declared.tree.Element.{Element}
use Rattle.core_ir.specs.declared.tree.Expr.{Expr}
use Rattle.core_ir.specs.declared.tree.Expr.TheBlock as block
use Rattle.core_ir.specs.declared.tree.Expr.TheVariants as form
use Rattle.core_ir.specs.declared.tree.Key.{Key}
use Rattle.core_ir.specs.declared.tree.Key.TheVariants as key
use Rattle.core_ir.specs.declared.tree.Misfit.{Misfit}
use Rattle.core_ir.specs.declared.tree.Occurrence.{Occurrence}
use Rattle.core_ir.specs.declared.tree.Scope.{Scope}
use Rattle.core_ir.specs.declared.tree.Select.{Select, out-Select, roll-Select, roll-out-Select}
use Rattle.core_ir.specs.declared.tree.SetFunction.{SetFunction}
use Rattle.core_ir.specs.declared.ty.Ty.{Ty}
use Rattle.tree_weight.specs.Measure.{Measure, Brought, leaf, all_behind}
use Rattle.tree_weight.specs.Trees.{path, path_from, measured, exprs, scopes, aliases, elements, keys, key_of, clause, of_scope, of_alias, of_element, if_there, of_choice, of_rows, of_cut}
use denote.Hole.Carrier as carrier

module _ {A : Type 0} (m : Measure A) (b : Brought A) where
  pub row : (before : A) (xs : List Expr) → exprs m b before (block.hidden-the_row-Expr-1 xs) ≡ all_behind m (measured m b) before xs
  unfolding measured carrier.hidden block.hidden-the_row-Expr-1
  row before [] = refl
  row before (x ∷ xs) = row (m.beside before (measured m b x)) xs

  pub scope_row : (before : A) (xs : List Scope) → scopes m b before (block.hidden-the_row-Scope-2 xs) ≡ all_behind m (of_scope m b) before xs
  unfolding measured carrier.hidden block.hidden-the_row-Scope-2
  scope_row before [] = refl
  scope_row before (x ∷ xs) = scope_row (m.beside before (measured m b x.body)) xs

  pub element_row : (before : A) (xs : List Element) → elements m b before (block.hidden-the_row-Element-3 xs) ≡ all_behind m (of_element m b) before xs
  unfolding measured carrier.hidden block.hidden-the_row-Element-3
  element_row before [] = refl
  element_row before (x ∷ xs) = element_row (m.beside before (measured m b x.value.body)) xs

  pub alias_row : (before : A) (xs : List Alias) → aliases m b before (block.hidden-the_row-Alias-4 xs) ≡ all_behind m (of_alias m b) before xs
  unfolding measured carrier.hidden block.hidden-the_row-Alias-4
  alias_row before [] = refl
  alias_row before (x ∷ xs) = alias_row (m.beside before (measured m b x.value.body)) xs

  pub key_row : (before : A) (xs : List Key) → keys m b before (block.hidden-the_row-Key-6 xs) ≡ all_behind m (key_of m b) before xs
  unfolding measured carrier.hidden block.hidden-the_row-Key-6
  key_row before [] = refl
  key_row before (x ∷ xs) = key_row (m.beside before (key_of m b x)) xs

  pub clause_held : (f : Option Scope) → clause m b (block.back-Select-filter f) ≡ if_there m b f
  unfolding measured carrier.hidden block.hidden-the_row-Scope-5
  clause_held None = refl
  clause_held (Some s) = refl

  pub of_ascending : (a : Absent) (s : Scope) → key_of m b (key.Ascending a s) ≡ measured m b s.body
  unfolding measured carrier.hidden block.hidden-the_row-Expr-0
  of_ascending a s = refl

  pub of_descending : (a : Absent) (s : Scope) → key_of m b (key.Descending a s) ≡ measured m b s.body
  unfolding measured carrier.hidden block.hidden-the_row-Expr-0
  of_descending a s = refl

  pub of_literal : (byte : ℕ) (v : Val) → measured m b (form.Literal byte v) ≡ leaf m
  unfolding measured
  of_literal byte v = refl

  pub of_parameter : (byte : ℕ) (p : Param) → measured m b (form.Param byte p) ≡ leaf m
  unfolding measured
  of_parameter byte p = refl

  pub of_global : (byte : ℕ) (name : List ℕ) → measured m b (form.Global byte name) ≡ leaf m
  unfolding measured
  of_global byte name = refl

  pub of_empty_set : (byte : ℕ) (t : Ty) → measured m b (form.EmptySet byte t) ≡ leaf m
  unfolding measured
  of_empty_set byte t = refl

  pub of_path : (byte : ℕ) (o : Occurrence) → measured m b (form.Path byte o) ≡ path m b o
  unfolding measured
  of_path byte o = refl

  pub of_on_base : (byte : ℕ) (s : Scope) (o : Occurrence) → measured m b (form.OnBase byte s o) ≡ path_from m b (measured m b s.body) o
  unfolding measured carrier.hidden block.hidden-the_row-Expr-0
  of_on_base byte s o = refl

  pub of_plus : (byte : ℕ) (x : Expr) → measured m b (form.Plus byte x) ≡ m.above (measured m b x)
  unfolding measured carrier.hidden block.hidden-the_row-Expr-0
  of_plus byte x = refl

  pub of_cast : (byte : ℕ) (to : ScalarTy) (x : Expr) → measured m b (form.Cast byte to x) ≡ m.above (measured m b x)
  unfolding measured carrier.hidden block.hidden-the_row-Expr-0
  of_cast byte to x = refl

  pub of_array_cast : (byte : ℕ) (to : ScalarTy) (x : Expr) → measured m b (form.ArrayCast byte to x) ≡ m.above (measured m b x)
  unfolding measured carrier.hidden block.hidden-the_row-Expr-0
  of_array_cast byte to x = refl

  pub of_unpack : (byte : ℕ) (x : Expr) → measured m b (form.Unpack byte x) ≡ m.above (measured m b x)
  unfolding measured carrier.hidden block.hidden-the_row-Expr-0
  of_unpack byte x = refl

  pub of_operation : (byte : ℕ) (op : Op) (xs : List Expr) → measured m b (form.Operation byte op xs) ≡ m.above (all_behind m (measured m b) m.none xs)
  unfolding measured
  of_operation byte op xs = λ i. m.above (row m.none xs i)

  pub of_tuple : (byte : ℕ) (xs : List Expr) → measured m b (form.Tuple byte xs) ≡ m.above (all_behind m (measured m b) m.none xs)
  unfolding measured
  of_tuple byte xs = λ i. m.above (row m.none xs i)

  pub of_array : (byte : ℕ) (w : Option ScalarTy) (xs : List Expr) → measured m b (form.Array byte w xs) ≡ m.above (all_behind m (measured m b) m.none xs)
  unfolding measured
  of_array byte w xs = λ i. m.above (row m.none xs i)

  pub of_unfit : (byte : ℕ) (f : Misfit) (place : ℕ) (xs : List Expr) → measured m b (form.Unfit byte f place xs) ≡ m.above (all_behind m (measured m b) m.none xs)
  unfolding measured
  of_unfit byte f place xs = λ i. m.above (row m.none xs i)

  pub of_optional_equal : (byte : ℕ) (n : Bool) (x y : Expr) → measured m b (form.OptionalEqual byte n x y) ≡ m.above (m.beside (measured m b x) (measured m b y))
  unfolding measured carrier.hidden block.hidden-the_row-Expr-0
  of_optional_equal byte n x y = refl

  pub of_membership : (byte : ℕ) (n : Bool) (x : Expr) (s : Scope) → measured m b (form.In byte n x s) ≡ m.above (m.beside (measured m b x) (measured m b s.body))
  unfolding measured carrier.hidden block.hidden-the_row-Expr-0
  of_membership byte n x s = refl

  pub of_of_set : (byte : ℕ) (f : SetFunction) (s : Scope) → measured m b (form.OfSet byte f s) ≡ m.above (measured m b s.body)
  unfolding measured carrier.hidden block.hidden-the_row-Expr-0
  of_of_set byte f s = refl

  pub of_union : (byte : ℕ) (s t : Scope) → measured m b (form.Union byte s t) ≡ m.above (m.beside (measured m b s.body) (measured m b t.body))
  unfolding measured carrier.hidden block.hidden-the_row-Expr-0
  of_union byte s t = refl

  pub of_set : (byte : ℕ) (xs : List Scope) → measured m b (form.Set byte xs) ≡ m.above (all_behind m (of_scope m b) m.none xs)
  unfolding measured
  of_set byte xs = λ i. m.above (scope_row m.none xs i)

  pub of_coalesce : (byte : ℕ) (x : Expr) (s : Scope) → measured m b (form.Coalesce byte x s) ≡ m.above (m.beside (measured m b x) (measured m b s.body))
  unfolding measured carrier.hidden block.hidden-the_row-Expr-0
  of_coalesce byte x s = refl

  pub of_if : (byte : ℕ) (c : Conditional) → measured m b (form.If byte c) ≡ m.above (of_choice m b c)
  unfolding measured carrier.hidden block.hidden-the_row-Expr-0
  of_if byte c = refl

  pub of_shaped : (byte : ℕ) (x : Expr) (t : Option Ty) (n : ℕ) (es : List Element) → measured m b (form.Shaped byte x t n es) ≡ m.above (all_behind m (of_element m b) (measured m b x) es)
  unfolding measured carrier.hidden block.hidden-the_row-Expr-0
  of_shaped byte x t n es = λ i. m.above (element_row (measured m b x) es i)

  pub of_for : (byte : ℕ) (ds : List Alias) (n : ℕ) (s t : Scope)
      → measured m b (form.For byte ds n s t) ≡ m.above (m.beside (all_behind m (of_alias m b) m.none ds) (m.beside (measured m b s.body) (measured m b t.body)))
  unfolding measured carrier.hidden block.hidden-the_row-Expr-0
  of_for byte ds n s t = λ i. m.above (m.beside (alias_row m.none ds i) (m.beside (measured m b s.body) (measured m b t.body)))

  select_rolled : (byte : ℕ) (ds : List Alias) (x : Expr) (y : Option Ty) (n : ℕ) (f : Option Scope) (ks : List Key) (o l : Option Scope)
      → measured m b (form.Select byte ds (roll-Select (record { subject = x; ty = y; number = n; filter = f; keys = ks; offset = o; limit = l })))
      ≡ m.above (m.beside (m.beside (all_behind m (of_alias m b) m.none ds) (all_behind m (key_of m b) (m.beside (measured m b x) (if_there m b f)) ks)) (m.beside (if_there m b o) (if_there m b l)))
  unfolding measured roll-Select carrier.roll carrier.hidden block.hidden-the_row-Expr-0
  select_rolled byte ds x y n f ks o l = λ i.
      m.above (m.beside (m.beside (alias_row m.none ds i) (key_row (m.beside (measured m b x) (clause_held f i)) ks i)) (m.beside (clause_held o i) (clause_held l i)))

  pub of_select : (byte : ℕ) (ds : List Alias) (s : Select)
      → measured m b (form.Select byte ds s) ≡ m.above (m.beside (m.beside (all_behind m (of_alias m b) m.none ds) (of_rows m b s)) (of_cut m b s))
  of_select byte ds s =
      let r = out-Select s in
      ap (λ s. measured m b (form.Select byte ds s)) (sym (roll-out-Select s)) ∙ select_rolled byte ds r.subject r.ty r.number r.filter r.keys r.offset r.limit

pub ruleset all_forms = (of_ascending, of_descending, of_literal, of_parameter, of_global, of_empty_set, of_path, of_on_base, of_plus, of_cast, of_array_cast, of_unpack, of_operation, of_tuple, of_array, of_unfit, of_optional_equal, of_membership, of_of_set, of_union, of_set, of_coalesce, of_if, of_shaped, of_for, of_select)
