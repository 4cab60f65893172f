-- What an expression means: the list of its items, where names stand for things, over a world.
use Rattle.std.specs.Prelude.{ℕ, ◌==◌, Bool, true, false, not, ◌&&◌, List, [], ◌∷◌, ◌++◌, map, Option, if◌then◌else◌}
use Rattle.ev_value.specs.Item.{bind, one, collect}
use Rattle.ev_value.specs.declared.item.Item.{Item}
use Rattle.ev_value.specs.declared.value.Val.{Val}
use Rattle.ev_value.specs.declared.value.Val as val
use Rattle.ev_list.specs.declared.order.Direction.TheVariants as direction
use Rattle.ev_list.specs.declared.order.KeyOrder.{KeyOrder}
use Rattle.ev_list.specs.declared.order.Keyed.{Keyed}
use Rattle.core_ir.specs.declared.path.Root.{Root}
use Rattle.core_ir.specs.declared.path.Root.TheVariants as root
use Rattle.core_ir.specs.declared.tree.Expr.{Expr, Row_of-Expr, end_of-Expr, more_of-Expr, Row_of-Scope, end_of-Scope, more_of-Scope, Row_of-Alias, end_of-Alias, more_of-Alias, Row_of-Element, end_of-Element, more_of-Element}
use Rattle.core_ir.specs.declared.tree.Expr as e
use Rattle.core_ir.specs.declared.tree.Select.{Select', Held-Select-filter, None', Some', Row_of-Key, end_of-Key, more_of-Key}
use Rattle.core_ir.specs.declared.tree.Key as key
use Rattle.core_ir.specs.Occurrences.{direct, all, all_of_clause, all_of_keys}
use Rattle.core_ir.specs.Path.{subject, variable}
use Rattle.path_scope.specs.Factored.{factored}
use Rattle.eql_sem.specs.declared.binding.Name.{Name}
use Rattle.eql_sem.specs.declared.binding.Name.TheVariants as name
use Rattle.eql_sem.specs.declared.binding.Bound.{Bound}
use Rattle.eql_sem.specs.declared.binding.Bound.TheVariants as bound
use Rattle.eql_sem.specs.declared.form.Form.{Form, Row_of-Form, end_of-Form, more_of-Form}
use Rattle.eql_sem.specs.declared.form.Form as form
use Rattle.eql_sem.specs.declared.form.Form.TheVariants as made_form
use Rattle.eql_sem.specs.declared.form.FormField.{FormField}
use Rattle.eql_sem.specs.declared.form.Formed.{Formed}
use Rattle.eql_sem.specs.Bindings.{paths_of, pick, within, given}
use Rattle.eql_sem.specs.Forms.{bare, strip, dress, subject_of}
use Rattle.eql_sem.specs.Operations.{gathered, operated, cast_to, tupled, optional_equal, in_set, optional, of_set, coalesced, chosen, arrayed, unpacked}
use Rattle.eql_sem.specs.Scopes.{Gives, Bases, extensions, scope}
use Rattle.eql_sem.specs.Selects.{first_of, keyed_rows, when, finished}
use Rattle.eql_sem.specs.declared.row.Row.{Row}
use Rattle.eql_sem.specs.World.{World}

-- ---- clauses

abbrev pub is_absent : Held-Select-filter → Bool
is_absent None' = true
is_absent (Some' _ one_scope) = false

abbrev pub has_no_keys : {m : _} → Row_of-Key m → Bool
has_no_keys end_of-Key = true
has_no_keys (more_of-Key k rest) = false

-- whether a statement has an order, an offset or a limit
abbrev pub is_cut : {m : _} → Row_of-Key m → Held-Select-filter → Held-Select-filter → Bool
is_cut keys offset limit = not (has_no_keys keys && is_absent offset && is_absent limit)

abbrev pub order_of : key.Key → KeyOrder
order_of (key.Ascending' absent _ _ _ value) = record { direction = direction.Ascending; absent = absent }
order_of (key.Descending' absent _ _ _ value) = record { direction = direction.Descending; absent = absent }

abbrev pub orders_of : {m : _} → Row_of-Key m → List KeyOrder
orders_of end_of-Key = []
orders_of (more_of-Key k rest) = order_of k ∷ orders_of rest

-- ---- bases

-- the list of the base with a number, if it is one of these
abbrev pub base_among : List (ℕ × Gives Val) → Bases
base_among [] k ns b = []
base_among ((n, gives) ∷ more) k ns b = if n == k then gives ns b else base_among more k ns b

abbrev pub base_number : Root → ℕ
base_number (root.Base k) = k
base_number _ = 0

-- a field with the forms of its items
abbrev pub field_of : List ℕ → List (Item Formed) → List (Item FormField)
field_of n xs = collect (λ is. one (record { name = n; forms = map (λ i. i.form) is })) xs

-- ---- scopes and statements

module _ (w : World) where
  -- the values of a scope
  abbrev pub values_of : Expr → Bases → Gives Formed → Gives Val
  values_of x bases gives = scope w (direct x false) (all x) bases (λ ns b. strip (gives ns b))

  -- what becomes of a form, once the rows that are left are known
  abbrev pub Finishes : Type 0
  Finishes = List Name → List Bound → Form → List (Item Form)

  -- an item with its form finished, or the faults that take its place
  abbrev pub made : Finishes → List Name → List Bound → Formed → List (Item Formed)
  made finishes ns b x = bind (finishes ns b x.form) (λ f. one (record { value = x.value; form = f }))

  -- the items of a scope in a result position, their forms finished
  abbrev pub items_of : Expr → Bases → Gives Formed → Finishes → Gives Formed
  items_of x bases gives finishes = scope w (direct x false) (all x) bases (λ ns b. bind (gives ns b) (made finishes ns b))

  -- The rows of a select: each item of the subject for which the condition has a true item, with its keys. The subject
  -- is bound to the item there.
  abbrev pub rows_of : ℕ → Gives Formed → Gives Val → Gives (List (Option Val)) → Gives (Keyed Row)
  rows_of k gives condition keys ns b =
      bind (gives ns b) (λ x.
      let ns' = name.Prefix (subject k) ∷ ns in let b' = bound.One x.value ∷ b in
      when (condition ns' b') (keyed_rows b x (keys ns' b')))

  unfoldable mutual
    -- The items of an expression, each with its form so far: shapes outside of statements are made by `finish`.
    pub items : Expr → Gives Formed
    items (e.Literal _ v) ns b = one (bare v)
    items (e.Param _ p) ns b = dress (optional (w.param p.name))
    items (e.Global _ n) ns b = dress (optional (w.global n))
    items (e.Path _ o) ns b = dress (given (pick ns b (name.Prefix o.path)))
    items (e.OnBase' _ _ _ _ base o) ns b = dress (given (pick ns b (name.Prefix o.path)))
    items (e.Operation' _ op _ operands) ns b = dress (operated op (map strip (lists operands ns b)))
    items (e.Plus' _ _ (more_of-Expr x end_of-Expr)) ns b = dress (strip (items x ns b))
    items (e.Cast' _ ty _ (more_of-Expr x end_of-Expr)) ns b = dress (cast_to ty (strip (items x ns b)))
    items (e.Tuple' _ _ parts) ns b = tupled (lists parts ns b)
    items (e.OptionalEqual' _ negated _ (more_of-Expr x end_of-Expr) _ (more_of-Expr y end_of-Expr)) ns b =
        dress (optional_equal negated (strip (items x ns b)) (strip (items y ns b)))
    items (e.In' _ negated _ (more_of-Expr x end_of-Expr) _ _ _ (more_of-Expr set end_of-Expr)) ns b =
        dress (in_set negated (strip (items x ns b)) (values_of set (base_among (bases set)) (items set) ns b))
    items (e.OfSet' _ f _ _ _ (more_of-Expr set end_of-Expr)) ns b =
        dress (of_set f (values_of set (base_among (bases set)) (items set) ns b))
    items (e.Union' _ _ _ _ (more_of-Expr x end_of-Expr) _ _ _ (more_of-Expr y end_of-Expr)) ns b =
        dress (values_of x (base_among (bases x)) (items x) ns b ++ values_of y (base_among (bases y)) (items y) ns b)
    items (e.Set' _ _ elements) ns b = dress (values_of_all elements ns b)
    items (e.Coalesce' _ _ (more_of-Expr x end_of-Expr) _ _ _ (more_of-Expr y end_of-Expr)) ns b =
        dress (coalesced (strip (items x ns b)) (values_of y (base_among (bases y)) (items y) ns b))
    items (e.If' _ _ _ (more_of-Expr c end_of-Expr) _ _ _ (more_of-Expr x end_of-Expr) _ _ _ (more_of-Expr y end_of-Expr)) ns b =
        dress (chosen (strip (items c ns b)) (values_of x (base_among (bases x)) (items x) ns b) (values_of y (base_among (bases y)) (items y) ns b))
    items (e.Shaped' _ _ (more_of-Expr x end_of-Expr) _ _ _ elements) ns b = dress (strip (items x ns b))
    items (e.Select' _ _ aliases (Select' _ (more_of-Expr x end_of-Expr) _ k filter _ keys offset limit)) ns b =
        with_aliases aliases (λ ms a.
        let fs = factored (direct x false) (all x ++ all_of_clause filter ++ all_of_keys keys) (paths_of ms) in
        finished (is_cut keys offset limit) (clause offset ms a) (clause limit ms a) (orders_of keys)
        (bind (extensions w (base_among (bases x)) fs ms a) (rows_of k (items x) (condition filter) (λ ns' b'. gathered (key_lists keys ns' b')) (within fs ms)))
        (λ row. made (finish x) (within fs ms) row.now row.item)) ns b
    items (e.For' _ _ aliases k _ _ _ (more_of-Expr x end_of-Expr) _ _ _ (more_of-Expr y end_of-Expr)) ns b =
        with_aliases aliases (λ ms a.
        bind (values_of x (base_among (bases x)) (items x) ms a) (λ v.
        items_of y (base_among (bases y)) (items y) (finish y) (name.Prefix (variable k) ∷ ms) (bound.One v ∷ a))) ns b
    items (e.Array' _ _ _ elements) ns b = dress (arrayed (map strip (lists elements ns b)))
    items (e.ArrayCast' _ _ _ (more_of-Expr x end_of-Expr)) ns b = dress (strip (items x ns b))
    items (e.Unpack' _ _ (more_of-Expr x end_of-Expr)) ns b = dress (unpacked (strip (items x ns b)))
    items (e.EmptySet _ _) ns b = []
    items (e.Unfit' _ _ _ _ parts) ns b = []

    -- the lists of several expressions
    pub lists : {m : _} → Row_of-Expr m → List Name → List Bound → List (List (Item Formed))
    lists end_of-Expr ns b = []
    lists (more_of-Expr x rest) ns b = items x ns b ∷ lists rest ns b

    -- the values of several scopes, one after the other
    pub values_of_all : {m : _} → Row_of-Scope m → Gives Val
    values_of_all end_of-Scope ns b = []
    values_of_all (more_of-Scope _ _ _ (more_of-Expr x end_of-Expr) rest) ns b =
        values_of x (base_among (bases x)) (items x) ns b ++ values_of_all rest ns b

    -- The base expressions of a scope, by their numbers, each a scope of its own.
    pub bases : Expr → List (ℕ × Gives Val)
    bases (e.OnBase' _ _ _ _ (more_of-Expr x end_of-Expr) o) =
        (base_number o.path.root, values_of x (base_among (bases x)) (items x)) ∷ []
    bases (e.Operation' _ _ _ operands) = bases_of operands
    bases (e.Plus' _ _ operand) = bases_of operand
    bases (e.Cast' _ _ _ operand) = bases_of operand
    bases (e.Tuple' _ _ parts) = bases_of parts
    bases (e.OptionalEqual' _ _ _ left _ right) = bases_of left ++ bases_of right
    bases (e.In' _ _ _ left _ _ _ set) = bases_of left
    bases (e.Coalesce' _ _ first _ _ _ second) = bases_of first
    bases (e.If' _ _ _ c _ _ _ value _ _ _ other) = bases_of c
    bases (e.Shaped' _ _ x _ _ _ elements) = bases_of x
    bases (e.Array' _ _ _ elements) = bases_of elements
    bases (e.ArrayCast' _ _ _ operand) = bases_of operand
    bases (e.Unpack' _ _ operand) = bases_of operand
    bases (e.Unfit' _ _ _ _ parts) = bases_of parts
    bases _ = []

    pub bases_of : {m : _} → Row_of-Expr m → List (ℕ × Gives Val)
    bases_of end_of-Expr = []
    bases_of (more_of-Expr x rest) = bases x ++ bases_of rest

    -- What becomes of an item's form in the end: shapes are made, those in components too. Those of a statement are
    -- made already.
    pub finish : Expr → Finishes
    finish (e.Tuple' _ _ parts) ns b (form.Tuple' _ forms) = bind (gathered (finished_parts parts ns b forms)) (λ fs. one (made_form.Tuple fs))
    finish (e.Shaped' _ _ x _ k _ elements) ns b f =
        bind (gathered (field_lists elements (name.Prefix (subject k) ∷ ns) (subject_of f ∷ b))) (λ fs. one (made_form.Shape fs))
    finish _ ns b f = one f

    pub finished_parts : {m n : _} → Row_of-Expr m → List Name → List Bound → Row_of-Form n → List (List (Item Form))
    finished_parts (more_of-Expr x rest) ns b (more_of-Form f fs) = finish x ns b f ∷ finished_parts rest ns b fs
    finished_parts _ ns b _ = []

    -- the fields of a shape, each with the forms of its scope's items, or with that scope's faults
    pub field_lists : {m : _} → Row_of-Element m → List Name → List Bound → List (List (Item FormField))
    field_lists end_of-Element ns b = []
    field_lists (more_of-Element _ n _ _ _ _ _ _ _ (more_of-Expr x end_of-Expr) rest) ns b =
        field_of n (items_of x (base_among (bases x)) (items x) (finish x) ns b) ∷ field_lists rest ns b

    -- the list of an offset or a limit, which may be absent
    pub clause : Held-Select-filter → Gives Val
    clause None' ns b = []
    clause (Some' _ one_scope) ns b = values_of_all one_scope ns b

    -- the list of a condition; an absent one is true
    pub condition : Held-Select-filter → Gives Val
    condition None' ns b = one (val.Bool true)
    condition (Some' _ one_scope) ns b = values_of_all one_scope ns b

    -- the keys of a row, each with its first value, if it has one, or with its faults
    pub key_lists : {m : _} → Row_of-Key m → List Name → List Bound → List (List (Item (Option Val)))
    key_lists end_of-Key ns b = []
    key_lists (more_of-Key k rest) ns b = first_of (key_list k ns b) ∷ key_lists rest ns b

    pub key_list : key.Key → Gives Val
    key_list (key.Ascending' _ _ _ _ (more_of-Expr x end_of-Expr)) ns b = values_of x (base_among (bases x)) (items x) ns b
    key_list (key.Descending' _ _ _ _ (more_of-Expr x end_of-Expr)) ns b = values_of x (base_among (bases x)) (items x) ns b

    -- what a statement gives behind its aliases, each evaluated once, whether it is used or not; the faults of one alone
    pub with_aliases : {m : _} → Row_of-Alias m → Gives Formed → Gives Formed
    with_aliases end_of-Alias gives ns b = gives ns b
    with_aliases (more_of-Alias k _ _ _ (more_of-Expr x end_of-Expr) rest) gives ns b =
        collect (λ vs. with_aliases rest gives (name.Alias k ∷ ns) (bound.Listed vs ∷ b)) (values_of x (base_among (bases x)) (items x) ns b)
