-- What each form means, as the code makes the form.
use Rattle.ev_value.proofs.Items.{append_nil}
use Rattle.std.proofs.Common.{append-nil, cond, ◌≡◌, ◌==◌, ℕ, Bool, true, false, not, ◌&&◌, List, [], ◌∷◌, ◌++◌, map, Option, Some, None, refl, ap, sym, ◌∙◌}
use Rattle.std.specs.List.{flat_map}
use Rattle.ev_value.specs.Item.{bind, one, collect}
use Rattle.ev_value.specs.declared.item.Item.{Item}
use Rattle.ev_value.specs.declared.operator.Op.{Op}
use Rattle.ev_value.specs.declared.value.Val.{Val}
use Rattle.ev_value.specs.declared.value.ScalarTy.{ScalarTy}
use Rattle.ev_list.specs.declared.param.Param.{Param}
use Rattle.ev_list.specs.declared.order.Absent.{Absent}
use Rattle.ev_list.specs.declared.order.Direction.TheVariants as direction
use Rattle.core_ir.specs.Occurrences.{direct, all}
use Rattle.core_ir.specs.Path.{subject}
use Rattle.core_ir.specs.Occurrences.{all_of_key}
use Rattle.core_ir.specs.Parts.{all_if_there}
use Rattle.path_scope.specs.Factored.{factored}
use Rattle.core_ir.proofs.AllLaws as occurring
use Rattle.core_ir.specs.declared.ty.Ty.{Ty}
use Rattle.core_ir.specs.declared.tree.Misfit.{Misfit}
use Rattle.core_ir.specs.declared.tree.Occurrence.{Occurrence}
use Rattle.core_ir.specs.declared.tree.Scope.{Scope}
use Rattle.core_ir.specs.declared.tree.SetFunction.{SetFunction}
use Rattle.core_ir.specs.declared.tree.Alias.{Alias}
use Rattle.core_ir.specs.declared.tree.Element.{Element}
use Rattle.core_ir.specs.declared.tree.Conditional.{Conditional}
use Rattle.core_ir.specs.declared.tree.Select.{Select, out-Select, roll-Select, roll-out-Select}
use Rattle.core_ir.specs.declared.tree.Key.{Key}
use Rattle.core_ir.specs.declared.tree.Key.TheVariants as key
use Rattle.core_ir.specs.declared.tree.Expr.{Expr}
use Rattle.core_ir.specs.declared.tree.Expr.TheVariants as form
use Rattle.core_ir.specs.declared.tree.Expr.TheBlock as block
use denote.Hole.Carrier as carrier
use Rattle.eql_sem.specs.declared.binding.Bound.{Bound}
use Rattle.eql_sem.specs.declared.binding.Bound.TheVariants as bound
use Rattle.eql_sem.specs.declared.binding.Name.{Name}
use Rattle.eql_sem.specs.declared.binding.Name.TheVariants as name
use Rattle.eql_sem.specs.declared.form.Form.{Form}
use Rattle.eql_sem.specs.declared.form.Form.TheVariants as shape
use Rattle.eql_sem.specs.declared.form.Form.TheBlock as shapes
use Rattle.eql_sem.specs.declared.form.FormField.{FormField}
use Rattle.eql_sem.specs.declared.form.Formed.{Formed}
use Rattle.eql_sem.specs.Bindings.{paths_of, pick, within, given}
use Rattle.eql_sem.specs.Forms.{bare, strip, dress, subject_of}
use Rattle.eql_sem.specs.Selects.{first_of, finished}
use Rattle.eql_sem.specs.Operations.{is_empty, gathered, operated, cast_to, tupled, optional_equal, in_set, optional, of_set, coalesced, chosen, arrayed, unpacked}
use Rattle.eql_sem.specs.Scopes.{Gives, extensions}
use Rattle.eql_sem.specs.World.{World}
use Rattle.eql_sem.specs.Meaning.{base_among, rows_of, made, field_of, items, lists, values_of_all, bases, bases_of, finish, finished_parts, field_lists, clause, condition, key_lists, key_list, with_aliases, base_number, is_absent, has_no_keys, orders_of, order_of}
use Rattle.eql_sem.specs.Parts.{is_none, values_in, items_in, lists_of, scopes_values, fields_of, keys_of, clause_values, condition_values, finished_all, aliased, selected, repeated, base_found, or_else, or_nothing, base_in_all}

module _ (w : World) where
  lists_row : (xs : List Expr) (ns : List Name) (b : List Bound) → lists w (block.hidden-the_row-Expr-1 xs) ns b ≡ lists_of w xs ns b
  unfolding items carrier.hidden block.hidden-the_row-Expr-1
  lists_row [] ns b = refl
  lists_row (x ∷ xs) ns b = ap (λ l. items w x ns b ∷ l) (lists_row xs ns b)

  scopes_row : (xs : List Scope) (ns : List Name) (b : List Bound) → values_of_all w (block.hidden-the_row-Scope-2 xs) ns b ≡ scopes_values w xs ns b
  unfolding items carrier.hidden block.hidden-the_row-Scope-2
  scopes_row [] ns b = refl
  scopes_row (x ∷ xs) ns b = ap (λ l. values_in w x.body ns b ++ l) (scopes_row xs ns b)

  pub items_literal : (n : ℕ) (v : Val) (ns : List Name) (b : List Bound) → items w (form.Literal n v) ns b ≡ one (bare v)
  unfolding items
  items_literal n v ns b = refl

  pub items_operation : (n : ℕ) (op : Op) (xs : List Expr) (ns : List Name) (b : List Bound) → items w (form.Operation n op xs) ns b ≡ dress (operated op (map strip (lists_of w xs ns b)))
  unfolding items
  items_operation n op xs ns b = ap (λ l. dress (operated op (map strip l))) (lists_row xs ns b)

  pub items_set : (n : ℕ) (xs : List Scope) (ns : List Name) (b : List Bound) → items w (form.Set n xs) ns b ≡ dress (scopes_values w xs ns b)
  unfolding items
  items_set n xs ns b = ap dress (scopes_row xs ns b)

  pub items_param : (n : ℕ) (p : Param) (ns : List Name) (b : List Bound) → items w (form.Param n p) ns b ≡ dress (optional (w.param p.name))
  unfolding items
  items_param n p ns b = refl

  pub items_global : (n : ℕ) (g : List ℕ) (ns : List Name) (b : List Bound) → items w (form.Global n g) ns b ≡ dress (optional (w.global g))
  unfolding items
  items_global n g ns b = refl

  pub items_path : (n : ℕ) (o : Occurrence) (ns : List Name) (b : List Bound) → items w (form.Path n o) ns b ≡ dress (given (pick ns b (name.Prefix o.path)))
  unfolding items
  items_path n o ns b = refl

  pub items_on_base : (n : ℕ) (s : Scope) (o : Occurrence) (ns : List Name) (b : List Bound) → items w (form.OnBase n s o) ns b ≡ dress (given (pick ns b (name.Prefix o.path)))
  unfolding items
  items_on_base n s o ns b = refl

  pub items_plus : (n : ℕ) (x : Expr) (ns : List Name) (b : List Bound) → items w (form.Plus n x) ns b ≡ dress (strip (items w x ns b))
  unfolding items carrier.hidden block.hidden-the_row-Expr-0
  items_plus n x ns b = refl

  pub items_cast : (n : ℕ) (t : ScalarTy) (x : Expr) (ns : List Name) (b : List Bound) → items w (form.Cast n t x) ns b ≡ dress (cast_to t (strip (items w x ns b)))
  unfolding items carrier.hidden block.hidden-the_row-Expr-0
  items_cast n t x ns b = refl

  pub items_tuple : (n : ℕ) (xs : List Expr) (ns : List Name) (b : List Bound) → items w (form.Tuple n xs) ns b ≡ tupled (lists_of w xs ns b)
  unfolding items
  items_tuple n xs ns b = ap tupled (lists_row xs ns b)

  pub items_optional_equal : (n : ℕ) (negated : Bool) (x y : Expr) (ns : List Name) (b : List Bound)
      → items w (form.OptionalEqual n negated x y) ns b ≡ dress (optional_equal negated (strip (items w x ns b)) (strip (items w y ns b)))
  unfolding items carrier.hidden block.hidden-the_row-Expr-0
  items_optional_equal n negated x y ns b = refl

  pub items_in_set : (n : ℕ) (negated : Bool) (x : Expr) (s : Scope) (ns : List Name) (b : List Bound)
      → items w (form.In n negated x s) ns b ≡ dress (in_set negated (strip (items w x ns b)) (values_in w s.body ns b))
  unfolding items carrier.hidden block.hidden-the_row-Expr-0
  items_in_set n negated x s ns b = refl

  pub items_of_set : (n : ℕ) (f : SetFunction) (s : Scope) (ns : List Name) (b : List Bound) → items w (form.OfSet n f s) ns b ≡ dress (of_set f (values_in w s.body ns b))
  unfolding items carrier.hidden block.hidden-the_row-Expr-0
  items_of_set n f s ns b = refl

  pub items_union : (n : ℕ) (s t : Scope) (ns : List Name) (b : List Bound)
      → items w (form.Union n s t) ns b ≡ dress (values_in w s.body ns b ++ values_in w t.body ns b)
  unfolding items carrier.hidden block.hidden-the_row-Expr-0
  items_union n s t ns b = refl

  pub items_coalesce : (n : ℕ) (x : Expr) (s : Scope) (ns : List Name) (b : List Bound)
      → items w (form.Coalesce n x s) ns b ≡ dress (coalesced (strip (items w x ns b)) (values_in w s.body ns b))
  unfolding items carrier.hidden block.hidden-the_row-Expr-0
  items_coalesce n x s ns b = refl

  pub items_if : (n : ℕ) (c : Conditional) (ns : List Name) (b : List Bound)
      → items w (form.If n c) ns b ≡ dress (chosen (strip (items w c.condition ns b)) (values_in w c.value.body ns b) (values_in w c.other.body ns b))
  unfolding items carrier.hidden block.hidden-the_row-Expr-0
  items_if n c ns b = refl

  pub items_shaped : (n : ℕ) (x : Expr) (y : Option Ty) (k : ℕ) (es : List Element) (ns : List Name) (b : List Bound) → items w (form.Shaped n x y k es) ns b ≡ dress (strip (items w x ns b))
  unfolding items carrier.hidden block.hidden-the_row-Expr-0
  items_shaped n x y k es ns b = refl

  pub items_array : (n : ℕ) (t : Option ScalarTy) (xs : List Expr) (ns : List Name) (b : List Bound) → items w (form.Array n t xs) ns b ≡ dress (arrayed (map strip (lists_of w xs ns b)))
  unfolding items
  items_array n t xs ns b = ap (λ l. dress (arrayed (map strip l))) (lists_row xs ns b)

  pub items_array_cast : (n : ℕ) (t : ScalarTy) (x : Expr) (ns : List Name) (b : List Bound) → items w (form.ArrayCast n t x) ns b ≡ dress (strip (items w x ns b))
  unfolding items carrier.hidden block.hidden-the_row-Expr-0
  items_array_cast n t x ns b = refl

  pub items_unpack : (n : ℕ) (x : Expr) (ns : List Name) (b : List Bound) → items w (form.Unpack n x) ns b ≡ dress (unpacked (strip (items w x ns b)))
  unfolding items carrier.hidden block.hidden-the_row-Expr-0
  items_unpack n x ns b = refl

  pub items_empty_set : (n : ℕ) (t : Ty) (ns : List Name) (b : List Bound) → items w (form.EmptySet n t) ns b ≡ []
  unfolding items
  items_empty_set n t ns b = refl

  pub items_unfit : (n : ℕ) (m : Misfit) (k : ℕ) (xs : List Expr) (ns : List Name) (b : List Bound) → items w (form.Unfit n m k xs) ns b ≡ []
  unfolding items
  items_unfit n m k xs ns b = refl

  aliases_row : (xs : List Alias) (gives : Gives Formed) (ns : List Name) (b : List Bound) → with_aliases w (block.hidden-the_row-Alias-4 xs) gives ns b ≡ aliased w xs gives ns b
  unfolding items carrier.hidden block.hidden-the_row-Alias-4
  aliases_row [] gives ns b = refl
  aliases_row (x ∷ xs) gives ns b =
      ap (λ (f : List Val → List (Item Formed)). collect f (values_in w x.value.body ns b)) (λ i vs. aliases_row xs gives (name.Alias x.number ∷ ns) (bound.Listed vs ∷ b) i)

  pub items_for : (n : ℕ) (xs : List Alias) (k : ℕ) (s t : Scope) (ns : List Name) (b : List Bound)
      → items w (form.For n xs k s t) ns b ≡ aliased w xs (repeated w k s.body t.body) ns b
  unfolding items carrier.hidden block.hidden-the_row-Expr-0
  items_for n xs k s t ns b = aliases_row xs (repeated w k s.body t.body) ns b

  -- ---- statements

  clause_is : (c : Option Scope) (ns : List Name) (b : List Bound) → clause w (block.back-Select-filter c) ns b ≡ clause_values w c ns b
  unfolding items carrier.hidden block.hidden-the_row-Scope-5
  clause_is None ns b = refl
  clause_is (Some s) ns b = append_nil (values_in w s.body ns b)

  condition_is : (c : Option Scope) (ns : List Name) (b : List Bound) → condition w (block.back-Select-filter c) ns b ≡ condition_values w c ns b
  unfolding items carrier.hidden block.hidden-the_row-Scope-5
  condition_is None ns b = refl
  condition_is (Some s) ns b = append_nil (values_in w s.body ns b)

  keys_row : (ks : List Key) (ns : List Name) (b : List Bound) → key_lists w (block.hidden-the_row-Key-6 ks) ns b ≡ keys_of w ks ns b
  unfolding items carrier.hidden block.hidden-the_row-Key-6
  keys_row [] ns b = refl
  keys_row (k ∷ ks) ns b = ap (λ l. first_of (key_list w k ns b) ∷ l) (keys_row ks ns b)

  absent_is : (c : Option Scope) → is_absent (block.back-Select-filter c) ≡ is_none c
  unfolding carrier.hidden block.hidden-the_row-Scope-5
  absent_is None = refl
  absent_is (Some s) = refl

  no_keys_is : (ks : List Key) → has_no_keys (block.hidden-the_row-Key-6 ks) ≡ is_empty ks
  unfolding carrier.hidden block.hidden-the_row-Key-6
  no_keys_is [] = refl
  no_keys_is (k ∷ ks) = refl

  orders_row : (ks : List Key) → orders_of (block.hidden-the_row-Key-6 ks) ≡ map order_of ks
  unfolding carrier.hidden block.hidden-the_row-Key-6
  orders_row [] = refl
  orders_row (k ∷ ks) = ap (λ l. order_of k ∷ l) (orders_row ks)

  pub key_ascending : (a : Absent) (s : Scope) (ns : List Name) (b : List Bound) → key_list w (key.Ascending a s) ns b ≡ values_in w s.body ns b
  unfolding items carrier.hidden block.hidden-the_row-Expr-0
  key_ascending a s ns b = refl

  pub key_descending : (a : Absent) (s : Scope) (ns : List Name) (b : List Bound) → key_list w (key.Descending a s) ns b ≡ values_in w s.body ns b
  unfolding items carrier.hidden block.hidden-the_row-Expr-0
  key_descending a s ns b = refl

  pub order_ascending : (a : Absent) (s : Scope) → order_of (key.Ascending a s) ≡ record { direction = direction.Ascending; absent = a }
  unfolding carrier.hidden block.hidden-the_row-Expr-0
  order_ascending a s = refl

  pub order_descending : (a : Absent) (s : Scope) → order_of (key.Descending a s) ≡ record { direction = direction.Descending; absent = a }
  unfolding carrier.hidden block.hidden-the_row-Expr-0
  order_descending a s = refl

  parts : Expr → ℕ → Option Scope → List Key → Option Scope → Option Scope → Gives Formed
  parts x k f ks o l ns b =
      let fs = factored (direct x false) (all x ++ all_if_there f ++ flat_map all_of_key ks) (paths_of ns) in
      finished (not (is_empty ks && is_none o && is_none l)) (clause_values w o ns b) (clause_values w l ns b) (map order_of ks)
      (bind (extensions w (base_among (bases w x)) fs ns b) (rows_of w k (items w x) (condition_values w f) (λ ms a. gathered (keys_of w ks ms a)) (within fs ns)))
      (λ row. made w (finish w x) (within fs ns) row.now row.item)

  rolled : (n : ℕ) (xs : List Alias) (x : Expr) (y : Option Ty) (k : ℕ) (f : Option Scope) (ks : List Key) (o l : Option Scope) (ns : List Name) (b : List Bound)
      → items w (form.Select n xs (roll-Select (record { subject = x; ty = y; number = k; filter = f; keys = ks; offset = o; limit = l }))) ns b ≡ aliased w xs (parts x k f ks o l) ns b
  unfolding items roll-Select carrier.roll carrier.hidden block.hidden-the_row-Expr-0 parts
  rolled n xs x y k f ks o l ns b =
      ap (λ (g : Gives Formed). with_aliases w (block.hidden-the_row-Alias-4 xs) g ns b)
      (λ i ms a.
      let fs = factored (direct x false) (all x ++ occurring.clause f i ++ occurring.keys ks i) (paths_of ms) in
      finished (not (no_keys_is ks i && absent_is o i && absent_is l i)) (clause_is o ms a i) (clause_is l ms a i) (orders_row ks i)
      (bind (extensions w (base_among (bases w x)) fs ms a) (rows_of w k (items w x) (λ ns' b'. condition_is f ns' b' i) (λ ns' b'. gathered (keys_row ks ns' b' i)) (within fs ms)))
      (λ row. made w (finish w x) (within fs ms) row.now row.item))
      ∙ aliases_row xs (parts x k f ks o l) ns b

  pub items_select : (n : ℕ) (xs : List Alias) (s : Select) (ns : List Name) (b : List Bound) → items w (form.Select n xs s) ns b ≡ aliased w xs (selected w s) ns b
  unfolding parts
  items_select n xs s ns b =
      let r = out-Select s in
      ap (λ s. items w (form.Select n xs s) ns b) (sym (roll-out-Select s)) ∙ rolled n xs r.subject r.ty r.number r.filter r.keys r.offset r.limit ns b

  -- ---- bases

  pub base_append : (xs ys : List (ℕ × Gives Val)) (k : ℕ) (ns : List Name) (b : List Bound)
      → base_found (xs ++ ys) k ns b ≡ or_else (base_found xs k ns b) (base_found ys k ns b)
  base_append [] ys k ns b = refl
  base_append ((n, g) ∷ xs) ys k ns b = by_number (n == k) (base_append xs ys k ns b)
    where
      by_number : (t : Bool) → base_found (xs ++ ys) k ns b ≡ or_else (base_found xs k ns b) (base_found ys k ns b)
          → cond t (Some (g ns b)) (base_found (xs ++ ys) k ns b) ≡ or_else (cond t (Some (g ns b)) (base_found xs k ns b)) (base_found ys k ns b)
      by_number true h = refl
      by_number false h = h

  pub base_among_is : (xs : List (ℕ × Gives Val)) (k : ℕ) (ns : List Name) (b : List Bound) → base_among xs k ns b ≡ or_nothing (base_found xs k ns b)
  base_among_is [] k ns b = refl
  base_among_is ((n, g) ∷ xs) k ns b = by_number (n == k) (base_among_is xs k ns b)
    where
      by_number : (t : Bool) → base_among xs k ns b ≡ or_nothing (base_found xs k ns b)
          → cond t (g ns b) (base_among xs k ns b) ≡ or_nothing (cond t (Some (g ns b)) (base_found xs k ns b))
      by_number true h = refl
      by_number false h = h

  none_left : {A : Type 0} (o : Option A) → or_else o None ≡ o
  none_left (Some x) = refl
  none_left None = refl

  bases_one : (x : Expr) → bases_of w (block.hidden-the_row-Expr-0 x) ≡ bases w x
  unfolding items carrier.hidden block.hidden-the_row-Expr-0
  bases_one x = append-nil (bases w x)

  bases_row : (xs : List Expr) (k : ℕ) (ns : List Name) (b : List Bound) → base_found (bases_of w (block.hidden-the_row-Expr-1 xs)) k ns b ≡ base_in_all w xs k ns b
  unfolding items carrier.hidden block.hidden-the_row-Expr-1
  bases_row [] k ns b = refl
  bases_row (x ∷ xs) k ns b =
      base_append (bases w x) (bases_of w (block.hidden-the_row-Expr-1 xs)) k ns b ∙ ap (or_else (base_found (bases w x) k ns b)) (bases_row xs k ns b)

  pub base_on : (n : ℕ) (s : Scope) (o : Occurrence) (k : ℕ) (ns : List Name) (b : List Bound)
      → base_found (bases w (form.OnBase n s o)) k ns b ≡ cond (base_number o.path.root == k) (Some (values_in w s.body ns b)) None
  unfolding items carrier.hidden block.hidden-the_row-Expr-0
  base_on n s o k ns b = refl

  pub base_operation : (n : ℕ) (op : Op) (xs : List Expr) (k : ℕ) (ns : List Name) (b : List Bound) → base_found (bases w (form.Operation n op xs)) k ns b ≡ base_in_all w xs k ns b
  unfolding items
  base_operation n op xs k ns b = bases_row xs k ns b

  pub base_tuple : (n : ℕ) (xs : List Expr) (k : ℕ) (ns : List Name) (b : List Bound) → base_found (bases w (form.Tuple n xs)) k ns b ≡ base_in_all w xs k ns b
  unfolding items
  base_tuple n xs k ns b = bases_row xs k ns b

  pub bases_plus : (n : ℕ) (x : Expr) → bases w (form.Plus n x) ≡ bases w x
  unfolding items
  bases_plus n x = bases_one x

  pub bases_cast : (n : ℕ) (t : ScalarTy) (x : Expr) → bases w (form.Cast n t x) ≡ bases w x
  unfolding items
  bases_cast n t x = bases_one x

  pub base_optional_equal : (n : ℕ) (negated : Bool) (x y : Expr) (k : ℕ) (ns : List Name) (b : List Bound)
      → base_found (bases w (form.OptionalEqual n negated x y)) k ns b ≡ or_else (base_found (bases w x) k ns b) (base_found (bases w y) k ns b)
  unfolding items
  base_optional_equal n negated x y k ns b =
      ap (λ l. base_found l k ns b) (λ i. bases_one x i ++ bases_one y i) ∙ base_append (bases w x) (bases w y) k ns b

  pub bases_in_set : (n : ℕ) (negated : Bool) (x : Expr) (s : Scope) → bases w (form.In n negated x s) ≡ bases w x
  unfolding items
  bases_in_set n negated x s = bases_one x

  pub bases_coalesce : (n : ℕ) (x : Expr) (s : Scope) → bases w (form.Coalesce n x s) ≡ bases w x
  unfolding items
  bases_coalesce n x s = bases_one x

  pub bases_if : (n : ℕ) (c : Conditional) → bases w (form.If n c) ≡ bases w c.condition
  unfolding items
  bases_if n c = bases_one c.condition

  pub bases_shaped : (n : ℕ) (x : Expr) (y : Option Ty) (k : ℕ) (es : List Element) → bases w (form.Shaped n x y k es) ≡ bases w x
  unfolding items
  bases_shaped n x y k es = bases_one x

  pub base_array : (n : ℕ) (t : Option ScalarTy) (xs : List Expr) (k : ℕ) (ns : List Name) (b : List Bound) → base_found (bases w (form.Array n t xs)) k ns b ≡ base_in_all w xs k ns b
  unfolding items
  base_array n t xs k ns b = bases_row xs k ns b

  pub base_unfit : (n : ℕ) (m : Misfit) (j : ℕ) (xs : List Expr) (k : ℕ) (ns : List Name) (b : List Bound) → base_found (bases w (form.Unfit n m j xs)) k ns b ≡ base_in_all w xs k ns b
  unfolding items
  base_unfit n m j xs k ns b = bases_row xs k ns b

  pub bases_array_cast : (n : ℕ) (t : ScalarTy) (x : Expr) → bases w (form.ArrayCast n t x) ≡ bases w x
  unfolding items
  bases_array_cast n t x = bases_one x

  pub bases_unpack : (n : ℕ) (x : Expr) → bases w (form.Unpack n x) ≡ bases w x
  unfolding items
  bases_unpack n x = bases_one x

  pub bases_empty_set : (n : ℕ) (t : Ty) → bases w (form.EmptySet n t) ≡ []
  unfolding items
  bases_empty_set n t = refl

  pub bases_literal : (n : ℕ) (v : Val) → bases w (form.Literal n v) ≡ []
  unfolding items
  bases_literal n v = refl

  pub bases_param : (n : ℕ) (p : Param) → bases w (form.Param n p) ≡ []
  unfolding items
  bases_param n p = refl

  pub bases_global : (n : ℕ) (g : List ℕ) → bases w (form.Global n g) ≡ []
  unfolding items
  bases_global n g = refl

  pub bases_path : (n : ℕ) (o : Occurrence) → bases w (form.Path n o) ≡ []
  unfolding items
  bases_path n o = refl

  pub bases_of_set : (n : ℕ) (f : SetFunction) (s : Scope) → bases w (form.OfSet n f s) ≡ []
  unfolding items
  bases_of_set n f s = refl

  pub bases_union : (n : ℕ) (s t : Scope) → bases w (form.Union n s t) ≡ []
  unfolding items
  bases_union n s t = refl

  pub bases_set : (n : ℕ) (xs : List Scope) → bases w (form.Set n xs) ≡ []
  unfolding items
  bases_set n xs = refl

  pub bases_select : (n : ℕ) (xs : List Alias) (s : Select) → bases w (form.Select n xs s) ≡ []
  unfolding items
  bases_select n xs s = refl

  pub bases_for : (n : ℕ) (xs : List Alias) (k : ℕ) (s t : Scope) → bases w (form.For n xs k s t) ≡ []
  unfolding items
  bases_for n xs k s t = refl

  -- ---- forms

  finished_row : (xs : List Expr) (ns : List Name) (b : List Bound) (fs : List Form)
      → finished_parts w (block.hidden-the_row-Expr-1 xs) ns b (shapes.hidden-the_row-Form-0 fs) ≡ finished_all w xs ns b fs
  unfolding items carrier.hidden block.hidden-the_row-Expr-1 shapes.hidden-the_row-Form-0
  finished_row [] ns b fs = refl
  finished_row (x ∷ xs) ns b [] = refl
  finished_row (x ∷ xs) ns b (f ∷ fs) = ap (λ l. finish w x ns b f ∷ l) (finished_row xs ns b fs)

  fields_row : (es : List Element) (ns : List Name) (b : List Bound) → field_lists w (block.hidden-the_row-Element-3 es) ns b ≡ fields_of w es ns b
  unfolding items carrier.hidden block.hidden-the_row-Element-3
  fields_row [] ns b = refl
  fields_row (x ∷ xs) ns b = ap (λ l. field_of x.name (items_in w x.value.body ns b) ∷ l) (fields_row xs ns b)

  pub finish_tuple : (n : ℕ) (xs : List Expr) (ns : List Name) (b : List Bound) (fs : List Form)
      → finish w (form.Tuple n xs) ns b (shape.Tuple fs) ≡ bind (gathered (finished_all w xs ns b fs)) (λ gs. one (shape.Tuple gs))
  unfolding items
  finish_tuple n xs ns b fs = ap (λ l. bind (gathered l) (λ gs. one (shape.Tuple gs))) (finished_row xs ns b fs)

  pub finish_shaped : (n : ℕ) (x : Expr) (y : Option Ty) (k : ℕ) (es : List Element) (ns : List Name) (b : List Bound) (f : Form)
      → finish w (form.Shaped n x y k es) ns b f
      ≡ bind (gathered (fields_of w es (name.Prefix (subject k) ∷ ns) (subject_of f ∷ b))) (λ gs. one (shape.Shape gs))
  unfolding items
  finish_shaped n x y k es ns b f = ap (λ l. bind (gathered l) (λ gs. one (shape.Shape gs))) (fields_row es (name.Prefix (subject k) ∷ ns) (subject_of f ∷ b))

  pub finish_literal : (n : ℕ) (v : Val) (ns : List Name) (b : List Bound) (f : Form) → finish w (form.Literal n v) ns b f ≡ one f
  unfolding items
  finish_literal n v ns b f = refl

  pub finish_param : (n : ℕ) (p : Param) (ns : List Name) (b : List Bound) (f : Form) → finish w (form.Param n p) ns b f ≡ one f
  unfolding items
  finish_param n p ns b f = refl

  pub finish_global : (n : ℕ) (g : List ℕ) (ns : List Name) (b : List Bound) (f : Form) → finish w (form.Global n g) ns b f ≡ one f
  unfolding items
  finish_global n g ns b f = refl

  pub finish_path : (n : ℕ) (o : Occurrence) (ns : List Name) (b : List Bound) (f : Form) → finish w (form.Path n o) ns b f ≡ one f
  unfolding items
  finish_path n o ns b f = refl

  pub finish_on_base : (n : ℕ) (s : Scope) (o : Occurrence) (ns : List Name) (b : List Bound) (f : Form) → finish w (form.OnBase n s o) ns b f ≡ one f
  unfolding items
  finish_on_base n s o ns b f = refl

  pub finish_operation : (n : ℕ) (op : Op) (xs : List Expr) (ns : List Name) (b : List Bound) (f : Form) → finish w (form.Operation n op xs) ns b f ≡ one f
  unfolding items
  finish_operation n op xs ns b f = refl

  pub finish_plus : (n : ℕ) (x : Expr) (ns : List Name) (b : List Bound) (f : Form) → finish w (form.Plus n x) ns b f ≡ one f
  unfolding items
  finish_plus n x ns b f = refl

  pub finish_cast : (n : ℕ) (t : ScalarTy) (x : Expr) (ns : List Name) (b : List Bound) (f : Form) → finish w (form.Cast n t x) ns b f ≡ one f
  unfolding items
  finish_cast n t x ns b f = refl

  pub finish_optional_equal : (n : ℕ) (negated : Bool) (x : Expr) (y : Expr) (ns : List Name) (b : List Bound) (f : Form) → finish w (form.OptionalEqual n negated x y) ns b f ≡ one f
  unfolding items
  finish_optional_equal n negated x y ns b f = refl

  pub finish_in_set : (n : ℕ) (negated : Bool) (x : Expr) (s : Scope) (ns : List Name) (b : List Bound) (f : Form) → finish w (form.In n negated x s) ns b f ≡ one f
  unfolding items
  finish_in_set n negated x s ns b f = refl

  pub finish_of_set : (n : ℕ) (g : SetFunction) (s : Scope) (ns : List Name) (b : List Bound) (f : Form) → finish w (form.OfSet n g s) ns b f ≡ one f
  unfolding items
  finish_of_set n g s ns b f = refl

  pub finish_union : (n : ℕ) (s : Scope) (t : Scope) (ns : List Name) (b : List Bound) (f : Form) → finish w (form.Union n s t) ns b f ≡ one f
  unfolding items
  finish_union n s t ns b f = refl

  pub finish_set : (n : ℕ) (xs : List Scope) (ns : List Name) (b : List Bound) (f : Form) → finish w (form.Set n xs) ns b f ≡ one f
  unfolding items
  finish_set n xs ns b f = refl

  pub finish_coalesce : (n : ℕ) (x : Expr) (s : Scope) (ns : List Name) (b : List Bound) (f : Form) → finish w (form.Coalesce n x s) ns b f ≡ one f
  unfolding items
  finish_coalesce n x s ns b f = refl

  pub finish_if : (n : ℕ) (c : Conditional) (ns : List Name) (b : List Bound) (f : Form) → finish w (form.If n c) ns b f ≡ one f
  unfolding items
  finish_if n c ns b f = refl

  pub finish_select : (n : ℕ) (xs : List Alias) (s : Select) (ns : List Name) (b : List Bound) (f : Form) → finish w (form.Select n xs s) ns b f ≡ one f
  unfolding items
  finish_select n xs s ns b f = refl

  pub finish_for : (n : ℕ) (xs : List Alias) (k : ℕ) (s : Scope) (t : Scope) (ns : List Name) (b : List Bound) (f : Form) → finish w (form.For n xs k s t) ns b f ≡ one f
  unfolding items
  finish_for n xs k s t ns b f = refl

  pub finish_array : (n : ℕ) (t : Option ScalarTy) (xs : List Expr) (ns : List Name) (b : List Bound) (f : Form) → finish w (form.Array n t xs) ns b f ≡ one f
  unfolding items
  finish_array n t xs ns b f = refl

  pub finish_array_cast : (n : ℕ) (t : ScalarTy) (x : Expr) (ns : List Name) (b : List Bound) (f : Form) → finish w (form.ArrayCast n t x) ns b f ≡ one f
  unfolding items
  finish_array_cast n t x ns b f = refl

  pub finish_unpack : (n : ℕ) (x : Expr) (ns : List Name) (b : List Bound) (f : Form) → finish w (form.Unpack n x) ns b f ≡ one f
  unfolding items
  finish_unpack n x ns b f = refl

  pub finish_empty_set : (n : ℕ) (t : Ty) (ns : List Name) (b : List Bound) (f : Form) → finish w (form.EmptySet n t) ns b f ≡ one f
  unfolding items
  finish_empty_set n t ns b f = refl

  pub finish_unfit : (n : ℕ) (m : Misfit) (k : ℕ) (xs : List Expr) (ns : List Name) (b : List Bound) (f : Form) → finish w (form.Unfit n m k xs) ns b f ≡ one f
  unfolding items
  finish_unfit n m k xs ns b f = refl

  pub finish_tuple_value : (n : ℕ) (xs : List Expr) (ns : List Name) (b : List Bound) (v : Val) → finish w (form.Tuple n xs) ns b (shape.Value v) ≡ one (shape.Value v)
  unfolding items
  finish_tuple_value n xs ns b v = refl

  pub finish_tuple_shape : (n : ℕ) (xs : List Expr) (ns : List Name) (b : List Bound) (fs : List FormField) → finish w (form.Tuple n xs) ns b (shape.Shape fs) ≡ one (shape.Shape fs)
  unfolding items
  finish_tuple_shape n xs ns b fs = refl

pub ruleset finish_forms = (finish_tuple, finish_tuple_value, finish_tuple_shape, finish_shaped, finish_literal, finish_param, finish_global, finish_path, finish_on_base, finish_operation, finish_plus, finish_cast, finish_optional_equal, finish_in_set, finish_of_set, finish_union, finish_set, finish_coalesce, finish_if, finish_select, finish_for, finish_array, finish_array_cast, finish_unpack, finish_empty_set, finish_unfit)

pub ruleset item_forms = (items_literal, items_param, items_global, items_path, items_on_base, items_operation, items_plus, items_cast, items_tuple, items_optional_equal, items_in_set, items_of_set, items_union, items_set, items_coalesce, items_if, items_shaped, items_select, items_for, items_array, items_array_cast, items_unpack, items_empty_set, items_unfit)

pub ruleset key_forms = (key_ascending, key_descending, order_ascending, order_descending)
