-- The scopes and the scoped occurrences of each form, as the code makes the form.
use Rattle.std.proofs.Common.{◌≡◌, ℕ, suc, ◌+◌, Bool, true, false, List, [], ◌∷◌, ◌++◌, Option, Some, None, refl, ap, sym, ◌∙◌, append_assoc, append-nil, arith}
use Rattle.ev_value.specs.declared.operator.Op.{Op}
use Rattle.ev_value.specs.declared.value.Val.{Val}
use Rattle.ev_value.specs.declared.value.ScalarTy.{ScalarTy}
use Rattle.ev_list.specs.declared.param.Param.{Param}
use Rattle.ev_list.specs.declared.order.Absent.{Absent}
use Rattle.core_ir.specs.ScopedPaths.{scopes_in, scopes_in_all, scopes_among, scopes_in_elements, scopes_in_aliases, scopes_in_clause, scopes_in_keys, scopes_in_key, paths_in, paths_in_all, paths_in_scope, paths_among, paths_in_elements, paths_in_aliases, paths_in_clause, paths_in_keys, paths_in_key}
use Rattle.core_ir.specs.ScopedParts.{total, in_turn, paths_of, scopes_of_scope, paths_of_scope, scopes_of_alias, paths_of_alias, scopes_of_element, paths_of_element, paths_of_key, scopes_of_clause, paths_of_clause, scopes_of_choice, paths_by_order, paths_of_choice, scopes_of_rows, paths_of_rows, scopes_of_loop, paths_of_loop}
use Rattle.core_ir.specs.declared.tree.Occurrence.{Occurrence}
use Rattle.core_ir.specs.declared.tree.Misfit.{Misfit}
use Rattle.core_ir.specs.declared.tree.Scope.{Scope}
use Rattle.core_ir.specs.declared.tree.SetFunction.{SetFunction}
use Rattle.core_ir.specs.declared.tree.Alias.{Alias}
use Rattle.core_ir.specs.declared.tree.Element.{Element}
use Rattle.core_ir.specs.declared.tree.Conditional.{Conditional}
use Rattle.core_ir.specs.declared.tree.Select.{Select, out-Select, roll-Select, roll-out-Select}
use Rattle.core_ir.specs.declared.tree.Key.{Key}
use Rattle.core_ir.specs.declared.tree.Key.TheVariants as key
use Rattle.core_ir.specs.declared.tree.Order.{Order}
use Rattle.core_ir.specs.declared.tree.Order.TheVariants as order
use Rattle.core_ir.specs.declared.tree.Expr.{Expr}
use Rattle.core_ir.specs.declared.tree.Expr as e
use Rattle.core_ir.specs.declared.tree.Expr.TheVariants as form
use Rattle.core_ir.specs.declared.tree.Expr.TheBlock as block
use Rattle.core_ir.specs.declared.ty.Ty.{Ty}
use denote.Hole.Carrier as carrier

-- how many scopes there are

one : (x : Expr) → scopes_in_all (block.hidden-the_row-Expr-0 x) ≡ scopes_in x
unfolding scopes_in carrier.hidden block.hidden-the_row-Expr-0
one x = omega arith

row : (xs : List Expr) → scopes_in_all (block.hidden-the_row-Expr-1 xs) ≡ total scopes_in xs
unfolding scopes_in carrier.hidden block.hidden-the_row-Expr-1
row [] = refl
row (x ∷ xs) = λ i. scopes_in x + row xs i

scopes : (xs : List Scope) → scopes_among (block.hidden-the_row-Scope-2 xs) ≡ total scopes_of_scope xs
unfolding scopes_in carrier.hidden block.hidden-the_row-Scope-2
scopes [] = refl
scopes (x ∷ xs) = λ i. suc (one x.body i) + scopes xs i

elements : (xs : List Element) → scopes_in_elements (block.hidden-the_row-Element-3 xs) ≡ total scopes_of_element xs
unfolding scopes_in carrier.hidden block.hidden-the_row-Element-3
elements [] = refl
elements (x ∷ xs) = λ i. suc (one x.value.body i) + elements xs i

aliases : (xs : List Alias) → scopes_in_aliases (block.hidden-the_row-Alias-4 xs) ≡ total scopes_of_alias xs
unfolding scopes_in carrier.hidden block.hidden-the_row-Alias-4
aliases [] = refl
aliases (x ∷ xs) = λ i. suc (one x.value.body i) + aliases xs i

clause : (f : Option Scope) → scopes_in_clause (block.back-Select-filter f) ≡ scopes_of_clause f
unfolding scopes_in carrier.hidden block.hidden-the_row-Scope-5
clause None = refl
clause (Some s) = omega arith

keys : (ks : List Key) → scopes_in_keys (block.hidden-the_row-Key-6 ks) ≡ total scopes_in_key ks
unfolding scopes_in carrier.hidden block.hidden-the_row-Key-6
keys [] = refl
keys (k ∷ ks) = λ i. scopes_in_key k + keys ks i

pub scopes_ascending : (a : Absent) (s : Scope) → scopes_in_key (key.Ascending a s) ≡ suc (scopes_in s.body)
unfolding scopes_in carrier.hidden block.hidden-the_row-Expr-0
scopes_ascending a s = λ i. suc (one s.body i)

pub scopes_descending : (a : Absent) (s : Scope) → scopes_in_key (key.Descending a s) ≡ suc (scopes_in s.body)
unfolding scopes_in carrier.hidden block.hidden-the_row-Expr-0
scopes_descending a s = λ i. suc (one s.body i)

module _ (m : ℕ) where
  pub scopes_literal : (v : Val) → scopes_in (form.Literal m v) ≡ 0
  unfolding scopes_in
  scopes_literal v = refl

  pub scopes_param : (p : Param) → scopes_in (form.Param m p) ≡ 0
  unfolding scopes_in
  scopes_param p = refl

  pub scopes_global : (name : List ℕ) → scopes_in (form.Global m name) ≡ 0
  unfolding scopes_in
  scopes_global name = refl

  pub scopes_path : (o : Occurrence) → scopes_in (form.Path m o) ≡ 0
  unfolding scopes_in
  scopes_path o = refl

  pub scopes_on_base : (s : Scope) (o : Occurrence) → scopes_in (form.OnBase m s o) ≡ scopes_of_scope s
  unfolding scopes_in
  scopes_on_base s o = λ i. suc (one s.body i)

  pub scopes_operation : (op : Op) (xs : List Expr) → scopes_in (form.Operation m op xs) ≡ total scopes_in xs
  unfolding scopes_in
  scopes_operation op xs = row xs

  pub scopes_plus : (x : Expr) → scopes_in (form.Plus m x) ≡ scopes_in x
  unfolding scopes_in
  scopes_plus x = one x

  pub scopes_cast : (t : ScalarTy) (x : Expr) → scopes_in (form.Cast m t x) ≡ scopes_in x
  unfolding scopes_in
  scopes_cast t x = one x

  pub scopes_tuple : (xs : List Expr) → scopes_in (form.Tuple m xs) ≡ total scopes_in xs
  unfolding scopes_in
  scopes_tuple xs = row xs

  pub scopes_optional_equal : (b : Bool) (x y : Expr) → scopes_in (form.OptionalEqual m b x y) ≡ scopes_in x + scopes_in y
  unfolding scopes_in
  scopes_optional_equal b x y = λ i. one x i + one y i

  pub scopes_in_set : (b : Bool) (x : Expr) (s : Scope) → scopes_in (form.In m b x s) ≡ scopes_in x + scopes_of_scope s
  unfolding scopes_in
  scopes_in_set b x s = λ i. one x i + suc (one s.body i)

  pub scopes_of_set : (f : SetFunction) (s : Scope) → scopes_in (form.OfSet m f s) ≡ scopes_of_scope s
  unfolding scopes_in
  scopes_of_set f s = λ i. suc (one s.body i)

  pub scopes_union : (s t : Scope) → scopes_in (form.Union m s t) ≡ scopes_of_scope s + scopes_of_scope t
  unfolding scopes_in
  scopes_union s t = λ i. suc (one s.body i) + suc (one t.body i)

  pub scopes_set : (xs : List Scope) → scopes_in (form.Set m xs) ≡ total scopes_of_scope xs
  unfolding scopes_in
  scopes_set xs = scopes xs

  pub scopes_coalesce : (x : Expr) (s : Scope) → scopes_in (form.Coalesce m x s) ≡ scopes_in x + scopes_of_scope s
  unfolding scopes_in
  scopes_coalesce x s = λ i. one x i + suc (one s.body i)

  pub scopes_if : (c : Conditional) → scopes_in (form.If m c) ≡ scopes_of_choice c
  unfolding scopes_in
  scopes_if c = λ i. one c.condition i + suc (one c.value.body i) + suc (one c.other.body i)

  pub scopes_shaped : (x : Expr) (t : Option Ty) (k : ℕ) (es : List Element) → scopes_in (form.Shaped m x t k es) ≡ scopes_in x + total scopes_of_element es
  unfolding scopes_in
  scopes_shaped x t k es = λ i. one x i + elements es i

  pub scopes_array : (t : Option ScalarTy) (xs : List Expr) → scopes_in (form.Array m t xs) ≡ total scopes_in xs
  unfolding scopes_in
  scopes_array t xs = row xs

  pub scopes_array_cast : (t : ScalarTy) (x : Expr) → scopes_in (form.ArrayCast m t x) ≡ scopes_in x
  unfolding scopes_in
  scopes_array_cast t x = one x

  pub scopes_unpack : (x : Expr) → scopes_in (form.Unpack m x) ≡ scopes_in x
  unfolding scopes_in
  scopes_unpack x = one x

  pub scopes_empty_set : (t : Ty) → scopes_in (form.EmptySet m t) ≡ 0
  unfolding scopes_in
  scopes_empty_set t = refl

  pub scopes_unfit : (f : Misfit) (k : ℕ) (xs : List Expr) → scopes_in (form.Unfit m f k xs) ≡ total scopes_in xs
  unfolding scopes_in
  scopes_unfit f k xs = row xs

  pub scopes_for : (xs : List Alias) (k : ℕ) (s t : Scope) → scopes_in (form.For m xs k s t) ≡ scopes_of_loop s t + total scopes_of_alias xs
  unfolding scopes_in
  scopes_for xs k s t = λ i. suc (suc (one s.body i) + suc (one t.body i)) + aliases xs i

  scopes_rolled : (xs : List Alias) (x : Expr) (y : Option Ty) (k : ℕ) (f : Option Scope) (ks : List Key) (o l : Option Scope)
      → scopes_in (form.Select m xs (roll-Select (record { subject = x; ty = y; number = k; filter = f; keys = ks; offset = o; limit = l })))
      ≡ suc (scopes_in x + scopes_of_clause f + total scopes_in_key ks) + total scopes_of_alias xs + scopes_of_clause o + scopes_of_clause l
  unfolding scopes_in roll-Select carrier.roll carrier.hidden
  scopes_rolled xs x y k f ks o l = λ i. suc (one x i + clause f i + keys ks i) + aliases xs i + clause o i + clause l i

  pub scopes_select : (xs : List Alias) (s : Select)
      → scopes_in (form.Select m xs s) ≡ scopes_of_rows s + total scopes_of_alias xs + scopes_of_clause (out-Select s).offset + scopes_of_clause (out-Select s).limit
  scopes_select xs s =
      let r = out-Select s in
      ap (λ s. scopes_in (form.Select m xs s)) (sym (roll-out-Select s)) ∙ scopes_rolled xs r.subject r.ty r.number r.filter r.keys r.offset r.limit

-- the occurrences

module _ (around : List ℕ) where
  alone : (x : Expr) (n : ℕ) (o : Bool) → paths_in_all (block.hidden-the_row-Expr-0 x) n around o ≡ paths_in x n around o
  unfolding paths_in carrier.hidden block.hidden-the_row-Expr-0
  alone x n o = append-nil (paths_in x n around o)

  scope : (x : Expr) (n : ℕ) → paths_in_scope (block.hidden-the_row-Expr-0 x) n around ≡ paths_in x (suc n) (around ++ n ∷ []) false
  unfolding paths_in carrier.hidden block.hidden-the_row-Expr-0
  scope x n = refl

  paths_row : (xs : List Expr) (n : ℕ) (o : Bool) → paths_in_all (block.hidden-the_row-Expr-1 xs) n around o ≡ in_turn scopes_in (paths_of around o) xs n
  unfolding paths_in carrier.hidden block.hidden-the_row-Expr-1
  paths_row [] n o = refl
  paths_row (x ∷ xs) n o = λ i. paths_in x n around o ++ paths_row xs (n + scopes_in x) o i

  paths_scopes : (xs : List Scope) (n : ℕ) → paths_among (block.hidden-the_row-Scope-2 xs) n around ≡ in_turn scopes_of_scope (paths_of_scope around) xs n
  unfolding paths_in carrier.hidden block.hidden-the_row-Scope-2
  paths_scopes [] n = refl
  paths_scopes (x ∷ xs) n = λ i. paths_of_scope around x n ++ paths_scopes xs (n + suc (one x.body i)) i

  paths_elements : (xs : List Element) (n : ℕ) → paths_in_elements (block.hidden-the_row-Element-3 xs) n around ≡ in_turn scopes_of_element (paths_of_element around) xs n
  unfolding paths_in carrier.hidden block.hidden-the_row-Element-3
  paths_elements [] n = refl
  paths_elements (x ∷ xs) n = λ i. paths_of_element around x n ++ paths_elements xs (n + suc (one x.value.body i)) i

  paths_aliases : (xs : List Alias) (n : ℕ) → paths_in_aliases (block.hidden-the_row-Alias-4 xs) n around ≡ in_turn scopes_of_alias (paths_of_alias around) xs n
  unfolding paths_in carrier.hidden block.hidden-the_row-Alias-4
  paths_aliases [] n = refl
  paths_aliases (x ∷ xs) n = λ i. paths_of_alias around x n ++ paths_aliases xs (n + suc (one x.value.body i)) i

  paths_clause : (f : Option Scope) (n : ℕ) → paths_in_clause (block.back-Select-filter f) n around ≡ paths_of_clause around f n
  unfolding paths_in carrier.hidden block.hidden-the_row-Scope-5
  paths_clause None n = refl
  paths_clause (Some s) n = append-nil (paths_of_scope around s n)

  paths_keys : (ks : List Key) (n : ℕ) → paths_in_keys (block.hidden-the_row-Key-6 ks) n around ≡ in_turn scopes_in_key (paths_of_key around) ks n
  unfolding paths_in carrier.hidden block.hidden-the_row-Key-6
  paths_keys [] n = refl
  paths_keys (k ∷ ks) n = λ i. paths_of_key around k n ++ paths_keys ks (n + scopes_in_key k) i

  pub paths_ascending : (a : Absent) (s : Scope) (n : ℕ) → paths_in_key (key.Ascending a s) n around ≡ paths_of_scope around s n
  unfolding paths_in
  paths_ascending a s n = scope s.body n

  pub paths_descending : (a : Absent) (s : Scope) (n : ℕ) → paths_in_key (key.Descending a s) n around ≡ paths_of_scope around s n
  unfolding paths_in
  paths_descending a s n = scope s.body n

  module _ (m n : ℕ) (o : Bool) where
    pub paths_literal : (v : Val) → paths_in (form.Literal m v) n around o ≡ []
    unfolding paths_in
    paths_literal v = refl

    pub paths_param : (p : Param) → paths_in (form.Param m p) n around o ≡ []
    unfolding paths_in
    paths_param p = refl

    pub paths_global : (name : List ℕ) → paths_in (form.Global m name) n around o ≡ []
    unfolding paths_in
    paths_global name = refl

    pub paths_path : (p : Occurrence) → paths_in (form.Path m p) n around o ≡ record { path = p.path; scopes = around; optional = o } ∷ []
    unfolding paths_in
    paths_path p = refl

    pub paths_on_base : (s : Scope) (p : Occurrence) → paths_in (form.OnBase m s p) n around o ≡ paths_of_scope around s n ++ record { path = p.path; scopes = around; optional = o } ∷ []
    unfolding paths_in
    paths_on_base s p = λ i. scope s.body n i ++ record { path = p.path; scopes = around; optional = o } ∷ []

    pub paths_operation : (op : Op) (xs : List Expr) → paths_in (form.Operation m op xs) n around o ≡ in_turn scopes_in (paths_of around o) xs n
    unfolding paths_in
    paths_operation op xs = paths_row xs n o

    pub paths_plus : (x : Expr) → paths_in (form.Plus m x) n around o ≡ paths_in x n around o
    unfolding paths_in
    paths_plus x = alone x n o

    pub paths_cast : (t : ScalarTy) (x : Expr) → paths_in (form.Cast m t x) n around o ≡ paths_in x n around o
    unfolding paths_in
    paths_cast t x = alone x n o

    pub paths_tuple : (xs : List Expr) → paths_in (form.Tuple m xs) n around o ≡ in_turn scopes_in (paths_of around o) xs n
    unfolding paths_in
    paths_tuple xs = paths_row xs n o

    pub paths_optional_equal : (b : Bool) (x y : Expr) → paths_in (form.OptionalEqual m b x y) n around o ≡ paths_in x n around true ++ paths_in y (n + scopes_in x) around true
    unfolding paths_in
    paths_optional_equal b x y = λ i. alone x n true i ++ alone y (n + one x i) true i

    pub paths_in_set : (b : Bool) (x : Expr) (s : Scope) → paths_in (form.In m b x s) n around o ≡ paths_in x n around o ++ paths_of_scope around s (n + scopes_in x)
    unfolding paths_in
    paths_in_set b x s = λ i. alone x n o i ++ scope s.body (n + one x i) i

    pub paths_of_set : (f : SetFunction) (s : Scope) → paths_in (form.OfSet m f s) n around o ≡ paths_of_scope around s n
    unfolding paths_in
    paths_of_set f s = scope s.body n

    pub paths_union : (s t : Scope) → paths_in (form.Union m s t) n around o ≡ paths_of_scope around s n ++ paths_of_scope around t (n + scopes_of_scope s)
    unfolding paths_in
    paths_union s t = λ i. scope s.body n i ++ scope t.body (n + suc (one s.body i)) i

    pub paths_set : (xs : List Scope) → paths_in (form.Set m xs) n around o ≡ in_turn scopes_of_scope (paths_of_scope around) xs n
    unfolding paths_in
    paths_set xs = paths_scopes xs n

    pub paths_coalesce : (x : Expr) (s : Scope) → paths_in (form.Coalesce m x s) n around o ≡ paths_in x n around true ++ paths_of_scope around s (n + scopes_in x)
    unfolding paths_in
    paths_coalesce x s = λ i. alone x n true i ++ scope s.body (n + one x i) i

    choice : (d : Order) (c : Expr) (s t : Scope) (f g h : _)
        → paths_in (e.If' m d f (block.hidden-the_row-Expr-0 c) s.start s.ty g (block.hidden-the_row-Expr-0 s.body) t.start t.ty h (block.hidden-the_row-Expr-0 t.body)) n around o
        ≡ paths_by_order d around o c s t n
    unfolding paths_in
    choice order.ValueFirst c s t f g h =
        λ i. scope s.body n i ++ alone c (n + suc (one s.body i)) o i ++ scope t.body (n + suc (one s.body i) + one c i) i
    choice order.ConditionFirst c s t f g h =
        λ i. alone c n o i ++ scope s.body (n + one c i) i ++ scope t.body (n + one c i + suc (one s.body i)) i

    pub paths_if : (c : Conditional) → paths_in (form.If m c) n around o ≡ paths_of_choice around o c n
    paths_if c = choice c.order c.condition c.value c.other _ _ _

    pub paths_shaped : (x : Expr) (t : Option Ty) (k : ℕ) (es : List Element)
        → paths_in (form.Shaped m x t k es) n around o ≡ paths_in x n around o ++ in_turn scopes_of_element (paths_of_element around) es (n + scopes_in x)
    unfolding paths_in
    paths_shaped x t k es = λ i. alone x n o i ++ paths_elements es (n + one x i) i

    pub paths_array : (t : Option ScalarTy) (xs : List Expr) → paths_in (form.Array m t xs) n around o ≡ in_turn scopes_in (paths_of around o) xs n
    unfolding paths_in
    paths_array t xs = paths_row xs n o

    pub paths_array_cast : (t : ScalarTy) (x : Expr) → paths_in (form.ArrayCast m t x) n around o ≡ paths_in x n around o
    unfolding paths_in
    paths_array_cast t x = alone x n o

    pub paths_unpack : (x : Expr) → paths_in (form.Unpack m x) n around o ≡ paths_in x n around o
    unfolding paths_in
    paths_unpack x = alone x n o

    pub paths_empty_set : (t : Ty) → paths_in (form.EmptySet m t) n around o ≡ []
    unfolding paths_in
    paths_empty_set t = refl

    pub paths_unfit : (f : Misfit) (k : ℕ) (xs : List Expr) → paths_in (form.Unfit m f k xs) n around o ≡ in_turn scopes_in (paths_of around o) xs n
    unfolding paths_in
    paths_unfit f k xs = paths_row xs n o

pub paths_for : (around : List ℕ) (m n : ℕ) (o : Bool) (xs : List Alias) (k : ℕ) (s t : Scope)
    → paths_in (form.For m xs k s t) n around o ≡ in_turn scopes_of_alias (paths_of_alias around) xs (n + scopes_of_loop s t) ++ paths_of_loop around s t n
unfolding paths_in
paths_for around m n o xs k s t =
    (λ i. paths_aliases around xs (n + suc (suc (one s.body i) + suc (one t.body i))) i
    ++ scope (around ++ n ∷ []) s.body (suc n) i ++ scope (around ++ n ∷ []) t.body (suc n + suc (one s.body i)) i)
    ∙ append_assoc (in_turn scopes_of_alias (paths_of_alias around) xs (n + scopes_of_loop s t)) (paths_of_scope (around ++ n ∷ []) s (suc n)) (paths_of_scope (around ++ n ∷ []) t (suc n + scopes_of_scope s))

paths_rolled : (around : List ℕ) (m n : ℕ) (p : Bool) (xs : List Alias) (x : Expr) (y : Option Ty) (k : ℕ) (f : Option Scope) (ks : List Key) (o l : Option Scope)
    → paths_in (form.Select m xs (roll-Select (record { subject = x; ty = y; number = k; filter = f; keys = ks; offset = o; limit = l }))) n around p
    ≡ (let inner = around ++ n ∷ [] in
    let behind = n + suc (scopes_in x + scopes_of_clause f + total scopes_in_key ks) in
    in_turn scopes_of_alias (paths_of_alias around) xs behind
    ++ (paths_in x (suc n) inner false ++ paths_of_clause inner f (suc n + scopes_in x)
    ++ in_turn scopes_in_key (paths_of_key inner) ks (suc n + scopes_in x + scopes_of_clause f))
    ++ paths_of_clause around o (behind + total scopes_of_alias xs)
    ++ paths_of_clause around l (behind + total scopes_of_alias xs + scopes_of_clause o))
unfolding paths_in roll-Select carrier.roll carrier.hidden
paths_rolled around m n p xs x y k f ks o l =
    λ i. paths_aliases around xs (n + suc (one x i + clause f i + keys ks i)) i
    ++ (alone (around ++ n ∷ []) x (suc n) false i ++ paths_clause (around ++ n ∷ []) f (suc n + one x i) i
    ++ paths_keys (around ++ n ∷ []) ks (suc n + one x i + clause f i) i)
    ++ paths_clause around o (n + suc (one x i + clause f i + keys ks i) + aliases xs i) i
    ++ paths_clause around l (n + suc (one x i + clause f i + keys ks i) + aliases xs i + clause o i) i

pub paths_select : (around : List ℕ) (m n : ℕ) (o : Bool) (xs : List Alias) (s : Select)
    → paths_in (form.Select m xs s) n around o
    ≡ in_turn scopes_of_alias (paths_of_alias around) xs (n + scopes_of_rows s) ++ paths_of_rows around s n
    ++ paths_of_clause around (out-Select s).offset (n + scopes_of_rows s + total scopes_of_alias xs)
    ++ paths_of_clause around (out-Select s).limit (n + scopes_of_rows s + total scopes_of_alias xs + scopes_of_clause (out-Select s).offset)
paths_select around m n o xs s =
    let r = out-Select s in
    ap (λ s. paths_in (form.Select m xs s) n around o) (sym (roll-out-Select s)) ∙ paths_rolled around m n o xs r.subject r.ty r.number r.filter r.keys r.offset r.limit

pub ruleset scoped_forms = (append_assoc, append-nil, scopes_literal, scopes_param, scopes_global, scopes_path, scopes_on_base, scopes_operation, scopes_plus, scopes_cast, scopes_tuple, scopes_optional_equal, scopes_in_set, scopes_of_set, scopes_union, scopes_set, scopes_coalesce, scopes_if, scopes_shaped, scopes_for, scopes_select, scopes_array, scopes_array_cast, scopes_unpack, scopes_empty_set, scopes_unfit, scopes_ascending, scopes_descending, paths_literal, paths_param, paths_global, paths_path, paths_on_base, paths_operation, paths_plus, paths_cast, paths_tuple, paths_optional_equal, paths_in_set, paths_of_set, paths_union, paths_set, paths_coalesce, paths_if, paths_shaped, paths_for, paths_select, paths_array, paths_array_cast, paths_unpack, paths_empty_set, paths_unfit, paths_ascending, paths_descending)
