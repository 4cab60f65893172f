-- Worlds that agree on the values of kinds give the same items.
use Rattle.std.proofs.Common.{◌≡◌, ℕ, suc, Bool, true, false, cond, Option, List, [], ◌∷◌, ◌++◌, map, refl, ap}
use Rattle.std.specs.List.{list_any}
use Rattle.ev_value.specs.Item.{bind, one, all_of, collect, values}
use Rattle.ev_value.specs.declared.item.Item.{Item}
use Rattle.ev_value.specs.declared.value.Val.{Val}
use Rattle.ev_list.specs.Aggregate.{is_true}
use Rattle.ev_list.specs.Cut.{section}
use Rattle.ev_list.specs.Order.{in_order, keyless}
use Rattle.ev_list.specs.declared.order.KeyOrder.{KeyOrder}
use Rattle.ev_list.specs.declared.order.Keyed.{Keyed}
use Rattle.core_ir.specs.declared.tree.Expr.{Expr, Row_of-Expr, end_of-Expr, more_of-Expr, Row_of-Scope, end_of-Scope, more_of-Scope, Row_of-Alias, end_of-Alias, more_of-Alias, Row_of-Element, end_of-Element, more_of-Element}
use Rattle.core_ir.specs.declared.tree.Expr as e
use Rattle.core_ir.specs.declared.tree.Select.{Select', Held-Select-filter, None', Some', Row_of-Key, end_of-Key, more_of-Key}
use Rattle.core_ir.specs.declared.tree.Key as key
use Rattle.core_ir.specs.Occurrences.{direct, all, all_of_clause, all_of_keys}
use Rattle.core_ir.specs.Path.{subject, variable}
use Rattle.path_scope.specs.Factored.{factored}
use Rattle.eql_sem.specs.declared.binding.Bound.{Bound}
use Rattle.eql_sem.specs.declared.binding.Bound.TheVariants as bound
use Rattle.eql_sem.specs.declared.binding.Name.{Name}
use Rattle.eql_sem.specs.declared.binding.Name.TheVariants as name
use Rattle.eql_sem.specs.declared.form.Form.{Form, Row_of-Form, end_of-Form, more_of-Form}
use Rattle.eql_sem.specs.declared.form.Form as form
use Rattle.eql_sem.specs.declared.form.Form.TheVariants as made_form
use Rattle.eql_sem.specs.declared.form.FormField.{FormField}
use Rattle.eql_sem.specs.declared.form.Formed.{Formed}
use Rattle.eql_sem.specs.declared.row.Row.{Row}
use Rattle.eql_sem.specs.Bindings.{paths_of, pick, within, given}
use Rattle.eql_sem.specs.Forms.{strip, dress, subject_of}
use Rattle.eql_sem.specs.Meaning.{base_among, is_cut, orders_of, field_of, values_of, items_of, made, rows_of, items, lists, values_of_all, bases, bases_of, finish, finished_parts, field_lists, clause, condition, key_lists, key_list, with_aliases}
use Rattle.eql_sem.specs.Operations.{gathered, optional}
use Rattle.eql_sem.specs.Scopes.{Gives, extensions}
use Rattle.eql_sem.specs.Selects.{first_of, when, keyed_rows, plain_rows, cut_rows, counted, finished}
use Rattle.eql_sem.specs.World.{World}
use Rattle.eql_agree.specs.Kinds.{Kinds, Along, Of, AreSound}
use Rattle.eql_agree.specs.Kinded.{IsPicked, Says, SaysOf, kinds_within, part_kinds, InScope, Has, HasEach, HasAll, base_kinds, kinds_of_bases, HasElements, HasClause, HasSome, HasKeys, HasKey, BehindAliases}
use Rattle.eql_agree.specs.Agreeing.{Same, AgreeBy, InBound, InForm, InForms, InItem, AgreeingIsKept}
use Rattle.eql_agree.proofs.Lists.{True, each_all_of, same_true, same_append, same_bind, same_collect, same_both, SameAlong, each_section}
use Rattle.eql_agree.proofs.Binding.{pick_in, given_in, GivesSame, BasesSame, bases_append, base_same, extensions_same, scope_same}
use Rattle.eql_agree.proofs.Operators.{strip_same, dress_same, strip_along, AreForms, in_tuple, widened_same, tupled_same, operated_same, cast_same, equal_same, in_same, of_set_same, coalesced_same, branch_same, optional_same, arrayed_same, unpacked_same}

module _ {K : Type 0} (k : Kinds K) where
  -- a row whose item is of a kind, where the names are of these kinds
  abbrev InRow : List K → K → Row → Type 0
  InRow ts t y = Along (InBound k) ts y.now × InItem k t y.item

  abbrev InKeyed : List K → K → Keyed Row → Type 0
  InKeyed ts t y = InRow ts t y.value

  subject_in : (t : K) (f : Form) → InForm k t f → InBound k t (subject_of f)
  unfolding InForm
  subject_in t (form.Value v) h = h
  subject_in t (form.Tuple' _ fs) h = tt
  subject_in t (form.Shape' _ fs) h = tt

  shape_in : (t : K) (fs : List FormField) → InForm k t (made_form.Shape fs)
  unfolding InForm
  shape_in t fs = tt

  -- the rows that are left, and what is made of each
  finished_same : (ts : List K) (t : K) (cut : Bool) (o o' l l' : List (Item Val)) (orders : List KeyOrder) (rows rows' : List (Item (Keyed Row))) (f g : Row → List (Item Formed)) → o ≡ o' → l ≡ l'
      → Same (InKeyed ts t) rows rows' → ((y : Row) → InRow ts t y → Same (InItem k t) (f y) (g y)) → Same (InItem k t) (finished cut o l orders rows f) (finished cut o' l' orders rows' g)
  finished_same ts t false o o' l l' orders rows rows' f g eo el p h =
      same_bind (InRow ts t) (InItem k t) (plain_rows rows) (plain_rows rows') f g (same_bind (InKeyed ts t) (InRow ts t) rows rows' (λ y. one y.value) (λ y. one y.value) p (λ y q. (refl, (q, tt)))) h
  finished_same ts t true o o' l l' orders rows rows' f g eo el p h =
      same_both True True (InItem k t) (counted o) (counted o') (counted l) (counted l') (λ i j. bind (cut_rows orders i j rows) f) (λ i j. bind (cut_rows orders i j rows') g)
      (same_true (counted o) (counted o') (ap counted eo)) (same_true (counted l) (counted l') (ap counted el))
      (λ i j _ _. same_bind (InRow ts t) (InItem k t) (cut_rows orders i j rows) (cut_rows orders i j rows') f g
      (same_collect (InKeyed ts t) (InRow ts t) (λ xs. all_of (section i j (keyless (in_order orders xs)))) (λ xs. all_of (section i j (keyless (in_order orders xs)))) rows rows' p
      (λ each. (refl, each_all_of (InRow ts t) (section i j (keyless (in_order orders (values rows)))) (each_section (InRow ts t) orders i j (values rows) each)))) h)

  module _ (w w' : World) (sound : AreSound k) (agree : AgreeBy k w w') where
    abbrev ItemsSame : Expr → Type 0
    ItemsSame x = GivesSame k (Has k.rules x) (InItem k) (items w x) (items w' x)

    abbrev FinishSame : Expr → Type 0
    FinishSame x = (ns : List Name) (ts : List K) (b : List Bound) (t : K) (f : Form) → Has k.rules x ns ts t → Along (InBound k) ts b → InForm k t f → Same (InForm k t) (finish w x ns b f) (finish w' x ns b f)

    abbrev OnBases : Expr → Type 0
    OnBases x = BasesSame k (base_kinds k.rules x) (bases w x) (bases w' x)

    abbrev IsScope : Expr → SaysOf K
    IsScope x = InScope k.rules x (base_kinds k.rules x) (Has k.rules x)

    values_same : (x : Expr) → ItemsSame x → OnBases x → GivesSame k (IsScope x) (Of k) (values_of w x (base_among (bases w x)) (items w x)) (values_of w' x (base_among (bases w' x)) (items w' x))
    values_same x same on =
        scope_same k w w' agree (base_kinds k.rules x) (base_among (bases w x)) (base_among (bases w' x)) (base_same k (base_kinds k.rules x) (bases w x) (bases w' x) on) (Of k) x (Has k.rules x) (λ ns b. strip (items w x ns b)) (λ ns b. strip (items w' x ns b))
        (λ ns ts b t h a. strip_same k t (items w x ns b) (items w' x ns b) (same ns ts b t h a))

    made_same : (x : Expr) → FinishSame x → (ns : List Name) (ts : List K) (b : List Bound) (t : K) (y : Formed) → Has k.rules x ns ts t → Along (InBound k) ts b → InItem k t y → Same (InItem k t) (made w (finish w x) ns b y) (made w' (finish w' x) ns b y)
    made_same x same ns ts b t y h a p =
        same_bind (InForm k t) (InItem k t) (finish w x ns b y.form) (finish w' x ns b y.form) (λ f. one (record { value = y.value; form = f })) (λ f. one (record { value = y.value; form = f })) (same ns ts b t y.form h a p.1) (λ f q. (refl, ((p.0, q), tt)))

    nested_same : (x : Expr) → ItemsSame x → OnBases x → FinishSame x
        → GivesSame k (IsScope x) (InItem k) (items_of w x (base_among (bases w x)) (items w x) (finish w x)) (items_of w' x (base_among (bases w' x)) (items w' x) (finish w' x))
    nested_same x same on done =
        scope_same k w w' agree (base_kinds k.rules x) (base_among (bases w x)) (base_among (bases w' x)) (base_same k (base_kinds k.rules x) (bases w x) (bases w' x) on) (InItem k) x (Has k.rules x) (λ ns b. bind (items w x ns b) (made w (finish w x) ns b)) (λ ns b. bind (items w' x ns b) (made w' (finish w' x) ns b))
        (λ ns ts b t h a. same_bind (InItem k t) (InItem k t) (items w x ns b) (items w' x ns b) (made w (finish w x) ns b) (made w' (finish w' x) ns b) (same ns ts b t h a) (λ y q. made_same x done ns ts b t y h a q))

    path_same : (n : Name) (ns : List Name) (ts : List K) (b : List Bound) (t : K) → IsPicked (pick ns ts n) t → Along (InBound k) ts b → Same (InItem k t) (dress (given (pick ns b n))) (dress (given (pick ns b n)))
    path_same n ns ts b t h a = dress_same k sound t (given (pick ns b n)) (given (pick ns b n)) (refl, given_in k (pick ns b n) t (pick_in k ns ts b n t a h))

    -- the rows of a select under one extension
    rows_same : (x : Expr) (n : ℕ) (c c' : Gives Val) (ks ks' : Gives (List (Option Val))) → ItemsSame x → (ns : List Name) (ts : List K) (b : List Bound) (t : K) → Has k.rules x ns ts t → Along (InBound k) ts b
        → ((v : Val) → Of k t v → c (name.Prefix (subject n) ∷ ns) (bound.One v ∷ b) ≡ c' (name.Prefix (subject n) ∷ ns) (bound.One v ∷ b))
        → ((v : Val) → Of k t v → ks (name.Prefix (subject n) ∷ ns) (bound.One v ∷ b) ≡ ks' (name.Prefix (subject n) ∷ ns) (bound.One v ∷ b))
        → Same (InKeyed ts t) (rows_of w n (items w x) c ks ns b) (rows_of w' n (items w' x) c' ks' ns b)
    rows_same x n c c' ks ks' same ns ts b t h a cs kss =
        let ns' = name.Prefix (subject n) ∷ ns in
        let pass : List Val → List (Item (Unit {0})) = λ vs. cond (list_any is_true vs) (one tt) [] in
        same_bind (InItem k t) (InKeyed ts t) (items w x ns b) (items w' x ns b) (λ y. when (c ns' (bound.One y.value ∷ b)) (keyed_rows b y (ks ns' (bound.One y.value ∷ b)))) (λ y. when (c' ns' (bound.One y.value ∷ b)) (keyed_rows b y (ks' ns' (bound.One y.value ∷ b)))) (same ns ts b t h a)
        (λ y q.
        let b' = bound.One y.value ∷ b in
        let last : List (Option Val) → List (Item (Keyed Row)) = λ us. one (record { keys = us; value = record { now = b; item = y } }) in
        same_bind True (InKeyed ts t) (collect pass (c ns' b')) (collect pass (c' ns' b')) (λ u. keyed_rows b y (ks ns' b')) (λ u. keyed_rows b y (ks' ns' b')) (same_true (collect pass (c ns' b')) (collect pass (c' ns' b')) (ap (collect pass) (cs y.value q.0)))
        (λ u _. same_bind True (InKeyed ts t) (ks ns' b') (ks' ns' b') last last (same_true (ks ns' b') (ks' ns' b') (kss y.value q.0)) (λ us _. (refl, ((a, q), tt)))))

    -- the scope of each alias
    abbrev AliasesSame : {m : _} → Row_of-Alias m → Type 0
    AliasesSame end_of-Alias = Unit {0}
    AliasesSame (more_of-Alias n _ _ _ (more_of-Expr x end_of-Expr) rest) =
        GivesSame k (IsScope x) (Of k) (values_of w x (base_among (bases w x)) (items w x)) (values_of w' x (base_among (bases w' x)) (items w' x)) × AliasesSame rest

    -- what stands behind aliases
    behind_same : {m : _} (xs : Row_of-Alias m) (says : Says K) (f g : Gives Formed) (t : K) → AliasesSame xs
        → ((ns : List Name) (ts : List K) (b : List Bound) → says ns ts → Along (InBound k) ts b → Same (InItem k t) (f ns b) (g ns b))
        → (ns : List Name) (ts : List K) (b : List Bound) → BehindAliases k.rules xs says ns ts → Along (InBound k) ts b → Same (InItem k t) (with_aliases w xs f ns b) (with_aliases w' xs g ns b)
    unfolding items Has
    behind_same end_of-Alias says f g t on same ns ts b h a = same ns ts b h a
    behind_same (more_of-Alias n _ _ _ (more_of-Expr x end_of-Expr) rest) says f g t on same ns ts b h a =
        let xs = values_of w x (base_among (bases w x)) (items w x) ns b in
        same_collect (Of k h.0) (InItem k t) (λ vs. with_aliases w rest f (name.Alias n ∷ ns) (bound.Listed vs ∷ b)) (λ vs. with_aliases w' rest g (name.Alias n ∷ ns) (bound.Listed vs ∷ b)) xs (values_of w' x (base_among (bases w' x)) (items w' x) ns b)
        (on.0 ns ts b h.0 h.1 a)
        (λ each. behind_same rest says f g t on.1 same (name.Alias n ∷ ns) (h.0 ∷ ts) (bound.Listed (values xs) ∷ b) h.2 (each, a))

    mutual
      unfolding items Has InForm

      pub items_same : (x : Expr) → ItemsSame x
      items_same (e.Literal _ v) ns ts b t h a = dress_same k sound t (one v) (one v) (refl, (sound.literals v t h, tt))
      items_same (e.Param _ p) ns ts b t h a = dress_same k sound t (optional (w.param p.name)) (optional (w'.param p.name)) (optional_same k t (w.param p.name) (w'.param p.name) (agree.params p t h))
      items_same (e.Global _ n) ns ts b t h a = dress_same k sound t (optional (w.global n)) (optional (w'.global n)) (optional_same k t (w.global n) (w'.global n) (agree.globals n t h))
      items_same (e.Path _ o) ns ts b t h a = path_same (name.Prefix o.path) ns ts b t h a
      items_same (e.OnBase' _ _ _ _ base o) ns ts b t h a = path_same (name.Prefix o.path) ns ts b t h a
      items_same (e.Operation' _ op _ xs) ns ts b t h a =
          dress_same k sound t _ _ (operated_same k sound op h.0 t (map strip (lists w xs ns b)) (map strip (lists w' xs ns b)) h.2 (strip_along k h.0 (lists w xs ns b) (lists w' xs ns b) (lists_same xs ns ts b h.0 h.1 a)))
      items_same (e.Plus' _ _ (more_of-Expr x end_of-Expr)) ns ts b t h a = dress_same k sound t (strip (items w x ns b)) (strip (items w' x ns b)) (strip_same k t (items w x ns b) (items w' x ns b) (items_same x ns ts b t h a))
      items_same (e.Cast' _ ty _ (more_of-Expr x end_of-Expr)) ns ts b t h a =
          dress_same k sound t _ _ (cast_same k sound ty h.0 t (strip (items w x ns b)) (strip (items w' x ns b)) h.2 (strip_same k h.0 (items w x ns b) (items w' x ns b) (items_same x ns ts b h.0 h.1 a)))
      items_same (e.Tuple' _ _ xs) ns ts b t h a = tupled_same k sound xs t (lists w xs ns b) (lists w' xs ns b) h.1 (lists_same xs ns ts b (part_kinds k.rules xs t 0) h.0 a)
      items_same (e.OptionalEqual' _ negated _ (more_of-Expr x end_of-Expr) _ (more_of-Expr y end_of-Expr)) ns ts b t h a =
          dress_same k sound t _ _ (equal_same k sound t negated (strip (items w x ns b)) (strip (items w' x ns b)) (strip (items w y ns b)) (strip (items w' y ns b)) h.4 (ap strip (items_same x ns ts b h.0 h.2 a).0) (ap strip (items_same y ns ts b h.1 h.3 a).0))
      items_same (e.In' _ negated _ (more_of-Expr x end_of-Expr) _ _ _ (more_of-Expr set end_of-Expr)) ns ts b t h a =
          dress_same k sound t _ _ (in_same k sound t negated (strip (items w x ns b)) (strip (items w' x ns b)) (values_of w set (base_among (bases w set)) (items w set) ns b) (values_of w' set (base_among (bases w' set)) (items w' set) ns b) h.4 (ap strip (items_same x ns ts b h.0 h.2 a).0) (values_same set (items_same set) (bases_same set) ns ts b h.1 h.3 a).0)
      items_same (e.OfSet' _ f _ _ _ (more_of-Expr set end_of-Expr)) ns ts b t h a =
          dress_same k sound t _ _ (of_set_same k sound f h.0 t (values_of w set (base_among (bases w set)) (items w set) ns b) (values_of w' set (base_among (bases w' set)) (items w' set) ns b) h.2 (values_same set (items_same set) (bases_same set) ns ts b h.0 h.1 a))
      items_same (e.Union' _ _ _ _ (more_of-Expr x end_of-Expr) _ _ _ (more_of-Expr y end_of-Expr)) ns ts b t h a =
          dress_same k sound t _ _ (same_append (Of k t) _ _ _ _
          (widened_same k sound h.0.0 t _ _ h.0.2 (values_same x (items_same x) (bases_same x) ns ts b h.0.0 h.0.1 a))
          (widened_same k sound h.1.0 t _ _ h.1.2 (values_same y (items_same y) (bases_same y) ns ts b h.1.0 h.1.1 a)))
      items_same (e.Set' _ _ elements) ns ts b t h a = dress_same k sound t (values_of_all w elements ns b) (values_of_all w' elements ns b) (all_same elements ns ts b t h a)
      items_same (e.Coalesce' _ _ (more_of-Expr x end_of-Expr) _ _ _ (more_of-Expr y end_of-Expr)) ns ts b t h a =
          dress_same k sound t _ _ (coalesced_same k t (strip (items w x ns b)) (strip (items w' x ns b)) (values_of w y (base_among (bases w y)) (items w y) ns b) (values_of w' y (base_among (bases w' y)) (items w' y) ns b)
          (widened_same k sound h.0.0 t _ _ h.0.2 (strip_same k h.0.0 (items w x ns b) (items w' x ns b) (items_same x ns ts b h.0.0 h.0.1 a)))
          (widened_same k sound h.1.0 t _ _ h.1.2 (values_same y (items_same y) (bases_same y) ns ts b h.1.0 h.1.1 a)))
      items_same (e.If' _ _ _ (more_of-Expr c end_of-Expr) _ _ _ (more_of-Expr x end_of-Expr) _ _ _ (more_of-Expr y end_of-Expr)) ns ts b t h a =
          dress_same k sound t _ _ (branch_same k t (strip (items w c ns b)) (strip (items w' c ns b)) (values_of w x (base_among (bases w x)) (items w x) ns b) (values_of w' x (base_among (bases w' x)) (items w' x) ns b) (values_of w y (base_among (bases w y)) (items w y) ns b) (values_of w' y (base_among (bases w' y)) (items w' y) ns b)
          (ap strip (items_same c ns ts b h.0 h.1 a).0)
          (widened_same k sound h.2.0 t _ _ h.2.2 (values_same x (items_same x) (bases_same x) ns ts b h.2.0 h.2.1 a))
          (widened_same k sound h.3.0 t _ _ h.3.2 (values_same y (items_same y) (bases_same y) ns ts b h.3.0 h.3.1 a)))
      items_same (e.Shaped' _ _ (more_of-Expr x end_of-Expr) _ n _ elements) ns ts b t h a = dress_same k sound t (strip (items w x ns b)) (strip (items w' x ns b)) (strip_same k t (items w x ns b) (items w' x ns b) (items_same x ns ts b t h.0 a))
      items_same (e.Select' _ _ aliases (Select' _ (more_of-Expr x end_of-Expr) _ n filter _ keys offset limit)) ns ts b t h a =
          behind_same aliases _ _ _ t (aliases_same aliases)
          (λ ms us c h a.
          let fs = factored (direct x false) (all x ++ all_of_clause filter ++ all_of_keys keys) (paths_of ms) in
          let ms' = within fs ms in
          let us' = kinds_within h.2.0 us in
          finished_same us' t (is_cut keys offset limit) (clause w offset ms c) (clause w' offset ms c) (clause w limit ms c) (clause w' limit ms c) (orders_of keys)
          (bind (extensions w (base_among (bases w x)) fs ms c) (rows_of w n (items w x) (condition w filter) (λ ns' b'. gathered (key_lists w keys ns' b')) ms'))
          (bind (extensions w' (base_among (bases w' x)) fs ms c) (rows_of w' n (items w' x) (condition w' filter) (λ ns' b'. gathered (key_lists w' keys ns' b')) ms'))
          (λ row. made w (finish w x) ms' row.now row.item) (λ row. made w' (finish w' x) ms' row.now row.item)
          (clause_same offset ms us c h.0 a) (clause_same limit ms us c h.1 a)
          (same_bind (Along (InBound k) us') (InKeyed us' t) (extensions w (base_among (bases w x)) fs ms c) (extensions w' (base_among (bases w' x)) fs ms c)
          (rows_of w n (items w x) (condition w filter) (λ ns' b'. gathered (key_lists w keys ns' b')) ms') (rows_of w' n (items w' x) (condition w' filter) (λ ns' b'. gathered (key_lists w' keys ns' b')) ms')
          (extensions_same k w w' agree (base_kinds k.rules x) (base_among (bases w x)) (base_among (bases w' x)) (base_same k (base_kinds k.rules x) (bases w x) (bases w' x) (bases_same x)) fs h.2.0 ms us c h.2.1 a)
          (λ c' a'. rows_same x n (condition w filter) (condition w' filter) (λ ns' b'. gathered (key_lists w keys ns' b')) (λ ns' b'. gathered (key_lists w' keys ns' b')) (items_same x) ms' us' c' t h.2.2.0 a'
          (λ v q. condition_same filter (name.Prefix (subject n) ∷ ms') (t ∷ us') (bound.One v ∷ c') h.2.2.1 (q, a'))
          (λ v q. ap gathered (keys_same keys (name.Prefix (subject n) ∷ ms') (t ∷ us') (bound.One v ∷ c') h.2.2.2 (q, a')))))
          (λ y q. made_same x (finish_same x) ms' us' y.now t y.item h.2.2.0 q.0 q.1))
          ns ts b h a
      items_same (e.For' _ _ aliases n _ _ _ (more_of-Expr x end_of-Expr) _ _ _ (more_of-Expr y end_of-Expr)) ns ts b t h a =
          behind_same aliases _ _ _ t (aliases_same aliases)
          (λ ms us c h a.
          same_bind (Of k h.0) (InItem k t) (values_of w x (base_among (bases w x)) (items w x) ms c) (values_of w' x (base_among (bases w' x)) (items w' x) ms c)
          (λ v. items_of w y (base_among (bases w y)) (items w y) (finish w y) (name.Prefix (variable n) ∷ ms) (bound.One v ∷ c))
          (λ v. items_of w' y (base_among (bases w' y)) (items w' y) (finish w' y) (name.Prefix (variable n) ∷ ms) (bound.One v ∷ c))
          (values_same x (items_same x) (bases_same x) ms us c h.0 h.1 a)
          (λ v q. nested_same y (items_same y) (bases_same y) (finish_same y) (name.Prefix (variable n) ∷ ms) (h.0 ∷ us) (bound.One v ∷ c) t h.2 (q, a)))
          ns ts b h a
      items_same (e.Array' _ _ _ xs) ns ts b t h a =
          dress_same k sound t _ _ (arrayed_same k sound h.0 t (map strip (lists w xs ns b)) (map strip (lists w' xs ns b)) h.2 (strip_along k h.0 (lists w xs ns b) (lists w' xs ns b) (lists_same xs ns ts b h.0 h.1 a)))
      items_same (e.ArrayCast' _ _ _ (more_of-Expr x end_of-Expr)) ns ts b t h a =
          dress_same k sound t (strip (items w x ns b)) (strip (items w' x ns b)) (strip_same k t (items w x ns b) (items w' x ns b) (items_same x ns ts b t h a))
      items_same (e.Unpack' _ _ (more_of-Expr x end_of-Expr)) ns ts b t h a =
          dress_same k sound t _ _ (unpacked_same k sound h.0 t (strip (items w x ns b)) (strip (items w' x ns b)) h.2 (strip_same k h.0 (items w x ns b) (items w' x ns b) (items_same x ns ts b h.0 h.1 a)))
      items_same (e.EmptySet _ _) ns ts b t h a = (refl, tt)
      items_same (e.Unfit' _ _ _ _ _) ns ts b t h a = (refl, tt)

      lists_same : {m : _} (xs : Row_of-Expr m) (ns : List Name) (ts : List K) (b : List Bound) (us : List K) → HasEach k.rules xs ns ts us → Along (InBound k) ts b → SameAlong (InItem k) us (lists w xs ns b) (lists w' xs ns b)
      lists_same end_of-Expr ns ts b [] h a = tt
      lists_same (more_of-Expr x rest) ns ts b (u ∷ us) h a = (items_same x ns ts b u h.0 a, lists_same rest ns ts b us h.1 a)
      lists_same end_of-Expr ns ts b (u ∷ us) h a = absurd h
      lists_same (more_of-Expr x rest) ns ts b [] h a = absurd h

      all_same : {m : _} (xs : Row_of-Scope m) → GivesSame k (HasAll k.rules xs) (Of k) (values_of_all w xs) (values_of_all w' xs)
      all_same end_of-Scope ns ts b t h a = (refl, tt)
      all_same (more_of-Scope _ _ _ (more_of-Expr x end_of-Expr) rest) ns ts b t h a =
          same_append (Of k t) _ _ _ _ (widened_same k sound h.0.0 t _ _ h.0.2 (values_same x (items_same x) (bases_same x) ns ts b h.0.0 h.0.1 a)) (all_same rest ns ts b t h.1 a)

      pub bases_same : (x : Expr) → OnBases x
      bases_same (e.OnBase' _ _ _ _ (more_of-Expr x end_of-Expr) o) = (refl, refl, values_same x (items_same x) (bases_same x), tt)
      bases_same (e.Operation' _ _ _ xs) = rows_of_bases xs
      bases_same (e.Plus' _ _ x) = rows_of_bases x
      bases_same (e.Cast' _ _ _ x) = rows_of_bases x
      bases_same (e.Tuple' _ _ xs) = rows_of_bases xs
      bases_same (e.OptionalEqual' _ _ _ x _ y) = bases_append k (kinds_of_bases k.rules x) (kinds_of_bases k.rules y) (bases_of w x) (bases_of w' x) (bases_of w y) (bases_of w' y) (rows_of_bases x) (rows_of_bases y)
      bases_same (e.In' _ _ _ x _ _ _ set) = rows_of_bases x
      bases_same (e.Coalesce' _ _ x _ _ _ y) = rows_of_bases x
      bases_same (e.If' _ _ _ c _ _ _ x _ _ _ y) = rows_of_bases c
      bases_same (e.Shaped' _ _ x _ _ _ elements) = rows_of_bases x
      bases_same (e.Array' _ _ _ xs) = rows_of_bases xs
      bases_same (e.ArrayCast' _ _ _ x) = rows_of_bases x
      bases_same (e.Unpack' _ _ x) = rows_of_bases x
      bases_same (e.Unfit' _ _ _ _ xs) = rows_of_bases xs
      bases_same (e.EmptySet _ _) = tt
      bases_same (e.Literal _ v) = tt
      bases_same (e.Param _ p) = tt
      bases_same (e.Global _ n) = tt
      bases_same (e.Path _ o) = tt
      bases_same (e.OfSet' _ _ _ _ _ _) = tt
      bases_same (e.Union' _ _ _ _ _ _ _ _ _) = tt
      bases_same (e.Set' _ _ _) = tt
      bases_same (e.Select' _ _ _ _) = tt
      bases_same (e.For' _ _ _ _ _ _ _ _ _ _ _ _) = tt

      rows_of_bases : {m : _} (xs : Row_of-Expr m) → BasesSame k (kinds_of_bases k.rules xs) (bases_of w xs) (bases_of w' xs)
      rows_of_bases end_of-Expr = tt
      rows_of_bases (more_of-Expr x rest) = bases_append k (base_kinds k.rules x) (kinds_of_bases k.rules rest) (bases w x) (bases w' x) (bases_of w rest) (bases_of w' rest) (bases_same x) (rows_of_bases rest)

      pub finish_same : (x : Expr) → FinishSame x
      finish_same (e.Tuple' _ _ xs) ns ts b t (form.Tuple' _ fs) h a p =
          same_bind (AreForms k t 0) (InForm k t) (gathered (finished_parts w xs ns b fs)) (gathered (finished_parts w' xs ns b fs)) (λ fs. one (made_form.Tuple fs)) (λ fs. one (made_form.Tuple fs)) (parts_same xs ns ts b t 0 fs h.0 a p) (λ fs q. (refl, (in_tuple k t fs q, tt)))
      finish_same (e.Tuple' _ _ xs) ns ts b t (form.Value v) h a p = (refl, (p, tt))
      finish_same (e.Tuple' _ _ xs) ns ts b t (form.Shape' _ fs) h a p = (refl, (p, tt))
      finish_same (e.Shaped' _ _ (more_of-Expr x end_of-Expr) _ n _ elements) ns ts b t f h a p =
          same_bind True (InForm k t) (gathered (field_lists w elements (name.Prefix (subject n) ∷ ns) (subject_of f ∷ b))) (gathered (field_lists w' elements (name.Prefix (subject n) ∷ ns) (subject_of f ∷ b))) (λ fs. one (made_form.Shape fs)) (λ fs. one (made_form.Shape fs))
          (same_true _ _ (ap gathered (fields_same elements (name.Prefix (subject n) ∷ ns) (t ∷ ts) (subject_of f ∷ b) h.1 (subject_in t f p, a)))) (λ fs _. (refl, (shape_in t fs, tt)))
      finish_same (e.Literal _ v) ns ts b t f h a p = (refl, (p, tt))
      finish_same (e.Param _ q) ns ts b t f h a p = (refl, (p, tt))
      finish_same (e.Global _ n) ns ts b t f h a p = (refl, (p, tt))
      finish_same (e.Path _ o) ns ts b t f h a p = (refl, (p, tt))
      finish_same (e.OnBase' _ _ _ _ _ _) ns ts b t f h a p = (refl, (p, tt))
      finish_same (e.Operation' _ _ _ _) ns ts b t f h a p = (refl, (p, tt))
      finish_same (e.Plus' _ _ _) ns ts b t f h a p = (refl, (p, tt))
      finish_same (e.Cast' _ _ _ _) ns ts b t f h a p = (refl, (p, tt))
      finish_same (e.OptionalEqual' _ _ _ _ _ _) ns ts b t f h a p = (refl, (p, tt))
      finish_same (e.In' _ _ _ _ _ _ _ _) ns ts b t f h a p = (refl, (p, tt))
      finish_same (e.OfSet' _ _ _ _ _ _) ns ts b t f h a p = (refl, (p, tt))
      finish_same (e.Union' _ _ _ _ _ _ _ _ _) ns ts b t f h a p = (refl, (p, tt))
      finish_same (e.Set' _ _ _) ns ts b t f h a p = (refl, (p, tt))
      finish_same (e.Coalesce' _ _ _ _ _ _ _) ns ts b t f h a p = (refl, (p, tt))
      finish_same (e.If' _ _ _ _ _ _ _ _ _ _ _ _) ns ts b t f h a p = (refl, (p, tt))
      finish_same (e.Select' _ _ _ _) ns ts b t f h a p = (refl, (p, tt))
      finish_same (e.For' _ _ _ _ _ _ _ _ _ _ _ _) ns ts b t f h a p = (refl, (p, tt))
      finish_same (e.Array' _ _ _ _) ns ts b t f h a p = (refl, (p, tt))
      finish_same (e.ArrayCast' _ _ _ _) ns ts b t f h a p = (refl, (p, tt))
      finish_same (e.Unpack' _ _ _) ns ts b t f h a p = (refl, (p, tt))
      finish_same (e.EmptySet _ _) ns ts b t f h a p = (refl, (p, tt))
      finish_same (e.Unfit' _ _ _ _ _) ns ts b t f h a p = (refl, (p, tt))

      parts_same : {m n : _} (xs : Row_of-Expr m) (ns : List Name) (ts : List K) (b : List Bound) (t : K) (i : ℕ) (fs : Row_of-Form n) → HasEach k.rules xs ns ts (part_kinds k.rules xs t i) → Along (InBound k) ts b → InForms k t i fs
          → Same (AreForms k t i) (gathered (finished_parts w xs ns b fs)) (gathered (finished_parts w' xs ns b fs))
      parts_same end_of-Expr ns ts b t i fs h a p = (refl, (tt, tt))
      parts_same (more_of-Expr x rest) ns ts b t i end_of-Form h a p = (refl, (tt, tt))
      parts_same (more_of-Expr x rest) ns ts b t i (more_of-Form f fs) h a p =
          same_both (InForm k (k.rules.part t i)) (AreForms k t (suc i)) (AreForms k t i) (finish w x ns b f) (finish w' x ns b f) (gathered (finished_parts w rest ns b fs)) (gathered (finished_parts w' rest ns b fs)) (λ x rest. one (x ∷ rest)) (λ x rest. one (x ∷ rest))
          (finish_same x ns ts b (k.rules.part t i) f h.0 a p.0) (parts_same rest ns ts b t (suc i) fs h.1 a p.1) (λ x rest q r. (refl, ((q, r), tt)))

      fields_same : {m : _} (xs : Row_of-Element m) (ns : List Name) (ts : List K) (b : List Bound) → HasElements k.rules xs ns ts → Along (InBound k) ts b → field_lists w xs ns b ≡ field_lists w' xs ns b
      fields_same end_of-Element ns ts b h a = refl
      fields_same (more_of-Element _ n _ _ _ _ _ _ _ (more_of-Expr x end_of-Expr) rest) ns ts b h a =
          λ i. field_of n ((nested_same x (items_same x) (bases_same x) (finish_same x) ns ts b h.0.0 h.0.1 a).0 i) ∷ fields_same rest ns ts b h.1 a i

      clause_same : (c : Held-Select-filter) (ns : List Name) (ts : List K) (b : List Bound) → HasClause k.rules c ns ts → Along (InBound k) ts b → clause w c ns b ≡ clause w' c ns b
      clause_same None' ns ts b h a = refl
      clause_same (Some' _ x) ns ts b h a = some_same x ns ts b h a

      condition_same : (c : Held-Select-filter) (ns : List Name) (ts : List K) (b : List Bound) → HasClause k.rules c ns ts → Along (InBound k) ts b → condition w c ns b ≡ condition w' c ns b
      condition_same None' ns ts b h a = refl
      condition_same (Some' _ x) ns ts b h a = some_same x ns ts b h a

      some_same : {m : _} (xs : Row_of-Scope m) (ns : List Name) (ts : List K) (b : List Bound) → HasSome k.rules xs ns ts → Along (InBound k) ts b → values_of_all w xs ns b ≡ values_of_all w' xs ns b
      some_same end_of-Scope ns ts b h a = refl
      some_same (more_of-Scope _ _ _ (more_of-Expr x end_of-Expr) rest) ns ts b h a =
          λ i. (values_same x (items_same x) (bases_same x) ns ts b h.0.0 h.0.1 a).0 i ++ some_same rest ns ts b h.1 a i

      keys_same : {m : _} (xs : Row_of-Key m) (ns : List Name) (ts : List K) (b : List Bound) → HasKeys k.rules xs ns ts → Along (InBound k) ts b → key_lists w xs ns b ≡ key_lists w' xs ns b
      keys_same end_of-Key ns ts b h a = refl
      keys_same (more_of-Key x rest) ns ts b h a = λ i. first_of (key_same x ns ts b h.0 a i) ∷ keys_same rest ns ts b h.1 a i

      key_same : (x : key.Key) (ns : List Name) (ts : List K) (b : List Bound) → HasKey k.rules x ns ts → Along (InBound k) ts b → key_list w x ns b ≡ key_list w' x ns b
      key_same (key.Ascending' _ _ _ _ (more_of-Expr x end_of-Expr)) ns ts b h a = (values_same x (items_same x) (bases_same x) ns ts b h.0 h.1 a).0
      key_same (key.Descending' _ _ _ _ (more_of-Expr x end_of-Expr)) ns ts b h a = (values_same x (items_same x) (bases_same x) ns ts b h.0 h.1 a).0

      aliases_same : {m : _} (xs : Row_of-Alias m) → AliasesSame xs
      aliases_same end_of-Alias = tt
      aliases_same (more_of-Alias n _ _ _ (more_of-Expr x end_of-Expr) rest) = (values_same x (items_same x) (bases_same x), aliases_same rest)

pub agreeing_is_kept : (K : Type 0) → AgreeingIsKept K
agreeing_is_kept K = record {
  same_items = λ k w w' sound agree x ns ts b t h a. nested_same k w w' sound agree x (items_same k w w' sound agree x) (bases_same k w w' sound agree x) (finish_same k w w' sound agree x) ns ts b t h a;
  same_values = λ k w w' sound agree x ns ts b t h a. values_same k w w' sound agree x (items_same k w w' sound agree x) (bases_same k w w' sound agree x) ns ts b t h a;
}
