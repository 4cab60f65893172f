-- The scopes directly inside each form, as the code makes the form.
use Rattle.std.proofs.Common.{◌≡◌, ℕ, Bool, false, List, [], ◌∷◌, ◌++◌, Option, Some, None, map, refl, ap, sym, ◌∙◌, append_assoc, append-nil}
use Rattle.std.specs.List.{flat_map}
use Rattle.ev_value.specs.declared.operator.Op.{Op}
use Rattle.ev_value.specs.declared.value.Val.{Val}
use Rattle.ev_value.specs.declared.value.ScalarTy.{ScalarTy}
use Rattle.ev_list.specs.declared.param.Param.{Param}
use Rattle.ev_list.specs.declared.order.Absent.{Absent}
use Rattle.core_ir.specs.declared.path.Path.{Path}
use Rattle.core_ir.specs.declared.ty.Ty.{Ty}
use Rattle.core_ir.specs.declared.tree.Misfit.{Misfit}
use Rattle.core_ir.specs.declared.tree.Occurrence.{Occurrence}
use Rattle.core_ir.specs.declared.tree.Scope.{Scope}
use Rattle.core_ir.specs.declared.tree.SetFunction.{SetFunction}
use Rattle.core_ir.specs.declared.tree.Alias.{Alias}
use Rattle.core_ir.specs.declared.tree.Element.{Element}
use Rattle.core_ir.specs.declared.tree.Conditional.{Conditional}
use Rattle.core_ir.specs.declared.tree.Select.{Select, out-Select, roll-Select, roll-out-Select}
use Rattle.core_ir.specs.declared.tree.Key.{Key}
use Rattle.core_ir.specs.declared.tree.Key.TheVariants as key
use Rattle.core_ir.specs.declared.tree.Order.{Order}
use Rattle.core_ir.specs.declared.tree.Order.TheVariants as order
use Rattle.core_ir.specs.declared.tree.Expr.{Expr}
use Rattle.core_ir.specs.declared.tree.Expr as e
use Rattle.core_ir.specs.declared.tree.Expr.TheVariants as form
use Rattle.core_ir.specs.declared.tree.Expr.TheBlock as block
use denote.Hole.Carrier as carrier
use Rattle.core_ir.specs.Path.{subject}
use Rattle.core_ir.specs.Occurrences.{direct, all, all_of_key}
use Rattle.core_ir.specs.Parts.{in_order, all_if_there}
use Rattle.core_ir.proofs.AllLaws as laws
use Rattle.path_scope.specs.Scopes.{scope_with, inside, inside_all, scopes, element_scopes, alias_scopes, clause_scopes, key_scopes, key_scope}
use Rattle.path_scope.specs.ScopeParts.{tree_of, inside_of, tree_of_alias, tree_of_element, trees_of_key, trees_of_clause, tree_of_rows, tree_of_loop}

module _ (bound : List Path) where
  single : (x : Expr) → inside_all (block.hidden-the_row-Expr-0 x) bound ≡ inside x bound
  unfolding inside carrier.hidden block.hidden-the_row-Expr-0
  single x = append-nil (inside x bound)

  row : (xs : List Expr) → inside_all (block.hidden-the_row-Expr-1 xs) bound ≡ flat_map (inside_of bound) xs
  unfolding inside carrier.hidden block.hidden-the_row-Expr-1
  row [] = refl
  row (x ∷ xs) = λ i. inside x bound ++ row xs i

  scope_row : (xs : List Scope) → scopes (block.hidden-the_row-Scope-2 xs) bound ≡ map (tree_of bound) xs
  unfolding inside carrier.hidden block.hidden-the_row-Scope-2
  scope_row [] = refl
  scope_row (x ∷ xs) = λ i. tree_of bound x ∷ scope_row xs i

  elements : (xs : List Element) → element_scopes (block.hidden-the_row-Element-3 xs) bound ≡ map (tree_of_element bound) xs
  unfolding inside carrier.hidden block.hidden-the_row-Element-3
  elements [] = refl
  elements (x ∷ xs) = λ i. tree_of_element bound x ∷ elements xs i

  aliases : (xs : List Alias) → alias_scopes (block.hidden-the_row-Alias-4 xs) bound ≡ map (tree_of_alias bound) xs
  unfolding inside carrier.hidden block.hidden-the_row-Alias-4
  aliases [] = refl
  aliases (x ∷ xs) = λ i. tree_of_alias bound x ∷ aliases xs i

  clause : (f : Option Scope) → clause_scopes (block.back-Select-filter f) bound ≡ trees_of_clause bound f
  unfolding inside carrier.hidden block.hidden-the_row-Scope-5
  clause None = refl
  clause (Some s) = refl

  keys : (ks : List Key) → key_scopes (block.hidden-the_row-Key-6 ks) bound ≡ flat_map (trees_of_key bound) ks
  unfolding inside carrier.hidden block.hidden-the_row-Key-6
  keys [] = refl
  keys (k ∷ ks) = λ i. key_scope k bound ++ keys ks i

  pub inside_ascending : (a : Absent) (s : Scope) → key_scope (key.Ascending a s) bound ≡ tree_of bound s ∷ []
  unfolding inside carrier.hidden block.hidden-the_row-Expr-0
  inside_ascending a s = refl

  pub inside_descending : (a : Absent) (s : Scope) → key_scope (key.Descending a s) bound ≡ tree_of bound s ∷ []
  unfolding inside carrier.hidden block.hidden-the_row-Expr-0
  inside_descending a s = refl

  module _ (m : ℕ) where
    pub inside_literal : (v : Val) → inside (form.Literal m v) bound ≡ []
    unfolding inside
    inside_literal v = refl

    pub inside_param : (p : Param) → inside (form.Param m p) bound ≡ []
    unfolding inside
    inside_param p = refl

    pub inside_global : (name : List ℕ) → inside (form.Global m name) bound ≡ []
    unfolding inside
    inside_global name = refl

    pub inside_path : (o : Occurrence) → inside (form.Path m o) bound ≡ []
    unfolding inside
    inside_path o = refl

    pub inside_on_base : (s : Scope) (o : Occurrence) → inside (form.OnBase m s o) bound ≡ tree_of bound s ∷ []
    unfolding inside carrier.hidden block.hidden-the_row-Expr-0
    inside_on_base s o = refl

    pub inside_operation : (op : Op) (xs : List Expr) → inside (form.Operation m op xs) bound ≡ flat_map (inside_of bound) xs
    unfolding inside
    inside_operation op xs = row xs

    pub inside_plus : (x : Expr) → inside (form.Plus m x) bound ≡ inside x bound
    unfolding inside
    inside_plus x = single x

    pub inside_cast : (t : ScalarTy) (x : Expr) → inside (form.Cast m t x) bound ≡ inside x bound
    unfolding inside
    inside_cast t x = single x

    pub inside_tuple : (xs : List Expr) → inside (form.Tuple m xs) bound ≡ flat_map (inside_of bound) xs
    unfolding inside
    inside_tuple xs = row xs

    pub inside_optional_equal : (b : Bool) (x y : Expr) → inside (form.OptionalEqual m b x y) bound ≡ inside x bound ++ inside y bound
    unfolding inside
    inside_optional_equal b x y = λ i. single x i ++ single y i

    pub inside_in_set : (b : Bool) (x : Expr) (s : Scope) → inside (form.In m b x s) bound ≡ inside x bound ++ tree_of bound s ∷ []
    unfolding inside carrier.hidden block.hidden-the_row-Expr-0
    inside_in_set b x s = λ i. single x i ++ tree_of bound s ∷ []

    pub inside_of_set : (f : SetFunction) (s : Scope) → inside (form.OfSet m f s) bound ≡ tree_of bound s ∷ []
    unfolding inside carrier.hidden block.hidden-the_row-Expr-0
    inside_of_set f s = refl

    pub inside_union : (s t : Scope) → inside (form.Union m s t) bound ≡ tree_of bound s ∷ tree_of bound t ∷ []
    unfolding inside carrier.hidden block.hidden-the_row-Expr-0
    inside_union s t = refl

    pub inside_set : (xs : List Scope) → inside (form.Set m xs) bound ≡ map (tree_of bound) xs
    unfolding inside
    inside_set xs = scope_row xs

    pub inside_coalesce : (x : Expr) (s : Scope) → inside (form.Coalesce m x s) bound ≡ inside x bound ++ tree_of bound s ∷ []
    unfolding inside carrier.hidden block.hidden-the_row-Expr-0
    inside_coalesce x s = λ i. single x i ++ tree_of bound s ∷ []

    choice : (d : Order) (c : Expr) (s t : Scope) (f g h : _)
        → inside (e.If' m d f (block.hidden-the_row-Expr-0 c) s.start s.ty g (block.hidden-the_row-Expr-0 s.body) t.start t.ty h (block.hidden-the_row-Expr-0 t.body)) bound
        ≡ in_order d (inside c bound) (tree_of bound s ∷ []) (tree_of bound t ∷ [])
    unfolding inside carrier.hidden block.hidden-the_row-Expr-0
    choice order.ValueFirst c s t f g h = λ i. tree_of bound s ∷ single c i ++ tree_of bound t ∷ []
    choice order.ConditionFirst c s t f g h = (λ i. single c i ++ tree_of bound s ∷ tree_of bound t ∷ []) ∙ sym (append_assoc (inside c bound) (tree_of bound s ∷ []) (tree_of bound t ∷ []))

    pub inside_if : (c : Conditional) → inside (form.If m c) bound ≡ in_order c.order (inside c.condition bound) (tree_of bound c.value ∷ []) (tree_of bound c.other ∷ [])
    inside_if c = choice c.order c.condition c.value c.other _ _ _

    pub inside_array : (t : Option ScalarTy) (xs : List Expr) → inside (form.Array m t xs) bound ≡ flat_map (inside_of bound) xs
    unfolding inside
    inside_array t xs = row xs

    pub inside_array_cast : (t : ScalarTy) (x : Expr) → inside (form.ArrayCast m t x) bound ≡ inside x bound
    unfolding inside
    inside_array_cast t x = single x

    pub inside_unpack : (x : Expr) → inside (form.Unpack m x) bound ≡ inside x bound
    unfolding inside
    inside_unpack x = single x

    pub inside_empty_set : (t : Ty) → inside (form.EmptySet m t) bound ≡ []
    unfolding inside
    inside_empty_set t = refl

    pub inside_unfit : (f : Misfit) (k : ℕ) (xs : List Expr) → inside (form.Unfit m f k xs) bound ≡ flat_map (inside_of bound) xs
    unfolding inside
    inside_unfit f k xs = row xs

pub inside_shaped : (bound : List Path) (m : ℕ) (x : Expr) (y : Option Ty) (k : ℕ) (es : List Element)
    → inside (form.Shaped m x y k es) bound ≡ inside x bound ++ map (tree_of_element (subject k ∷ bound)) es
unfolding inside
inside_shaped bound m x y k es = λ i. single bound x i ++ elements (subject k ∷ bound) es i

pub inside_for : (bound : List Path) (m : ℕ) (xs : List Alias) (k : ℕ) (s t : Scope)
    → inside (form.For m xs k s t) bound ≡ tree_of_loop bound m k s t ∷ map (tree_of_alias bound) xs
unfolding inside carrier.hidden block.hidden-the_row-Expr-0
inside_for bound m xs k s t = λ i. tree_of_loop bound m k s t ∷ aliases bound xs i

rolled : (bound : List Path) (m : ℕ) (xs : List Alias) (x : Expr) (y : Option Ty) (k : ℕ) (f : Option Scope) (ks : List Key) (o l : Option Scope)
    → inside (form.Select m xs (roll-Select (record { subject = x; ty = y; number = k; filter = f; keys = ks; offset = o; limit = l }))) bound
    ≡ scope_with m (direct x false) (all x ++ all_if_there f ++ flat_map all_of_key ks)
    (λ qs. inside x qs ++ trees_of_clause (subject k ∷ qs) f ++ flat_map (trees_of_key (subject k ∷ qs)) ks) bound
    ∷ (map (tree_of_alias bound) xs ++ trees_of_clause bound o ++ trees_of_clause bound l)
unfolding inside roll-Select carrier.roll carrier.hidden block.hidden-the_row-Expr-0
rolled bound m xs x y k f ks o l =
    λ i. scope_with m (direct x false) (all x ++ laws.clause f i ++ laws.keys ks i)
    (λ qs. inside x qs ++ clause (subject k ∷ qs) f i ++ keys (subject k ∷ qs) ks i) bound
    ∷ (aliases bound xs i ++ clause bound o i ++ clause bound l i)

pub inside_select : (bound : List Path) (m : ℕ) (xs : List Alias) (s : Select)
    → inside (form.Select m xs s) bound
    ≡ tree_of_rows bound m s ∷ (map (tree_of_alias bound) xs ++ trees_of_clause bound (out-Select s).offset ++ trees_of_clause bound (out-Select s).limit)
inside_select bound m xs s =
    let r = out-Select s in
    ap (λ s. inside (form.Select m xs s) bound) (sym (roll-out-Select s)) ∙ rolled bound m xs r.subject r.ty r.number r.filter r.keys r.offset r.limit

pub ruleset inside_forms = (append_assoc, append-nil, inside_literal, inside_param, inside_global, inside_path, inside_on_base, inside_operation, inside_plus, inside_cast, inside_tuple, inside_optional_equal, inside_in_set, inside_of_set, inside_union, inside_set, inside_coalesce, inside_if, inside_array, inside_array_cast, inside_unpack, inside_empty_set, inside_unfit, inside_shaped, inside_for, inside_select, inside_ascending, inside_descending)
