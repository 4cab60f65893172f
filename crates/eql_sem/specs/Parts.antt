-- The meaning of scopes and of lists of parts, as the code sees them.
use Rattle.std.specs.Prelude.{ℕ, ◌==◌, if◌then◌else◌, Bool, true, false, not, ◌&&◌, List, [], ◌∷◌, map, flat_map, Option, Some, None}
use Rattle.ev_value.specs.Item.{bind, one, collect}
use Rattle.ev_value.specs.declared.item.Item.{Item}
use Rattle.ev_value.specs.declared.value.Val.{Val}
use Rattle.ev_value.specs.declared.value.Val as val
use Rattle.ev_list.specs.declared.order.Keyed.{Keyed}
use Rattle.core_ir.specs.Occurrences.{direct}
use Rattle.core_ir.specs.Parts.{all_of_rows}
use Rattle.core_ir.specs.Path.{subject, variable}
use Rattle.core_ir.specs.declared.tree.Alias.{Alias}
use Rattle.core_ir.specs.declared.tree.Element.{Element}
use Rattle.core_ir.specs.declared.tree.Expr.{Expr}
use Rattle.core_ir.specs.declared.tree.Key.{Key}
use Rattle.core_ir.specs.declared.tree.Scope.{Scope}
use Rattle.core_ir.specs.declared.tree.Select.{Select, out-Select}
use Rattle.path_scope.specs.Factored.{factored}
use Rattle.path_scope.specs.declared.prefix.Prefix.{Prefix}
use Rattle.eql_sem.specs.Bindings.{paths_of, turns, within}
use Rattle.eql_sem.specs.Meaning.{order_of, base_among, values_of, items_of, made, rows_of, field_of, items, bases, finish, key_list}
use Rattle.eql_sem.specs.Operations.{gathered, is_empty}
use Rattle.eql_sem.specs.Scopes.{Bases, Gives, extensions, value_list}
use Rattle.eql_sem.specs.Selects.{first_of, keyed_rows, when, finished}
use Rattle.eql_sem.specs.declared.row.Row.{Row}
use Rattle.eql_sem.specs.World.{World}
use Rattle.eql_sem.specs.declared.binding.Bound.{Bound}
use Rattle.eql_sem.specs.declared.binding.Bound.TheVariants as bound
use Rattle.eql_sem.specs.declared.binding.Name.{Name}
use Rattle.eql_sem.specs.declared.binding.Name.TheVariants as name
use Rattle.eql_sem.specs.declared.form.Form.{Form}
use Rattle.eql_sem.specs.declared.form.FormField.{FormField}
use Rattle.eql_sem.specs.declared.form.Formed.{Formed}

abbrev pub is_none : {A : Type 0} → Option A → Bool
is_none None = true
is_none (Some x) = false

-- whether a select has an order, an offset or a limit
abbrev pub is_cut_select : Select → Bool
is_cut_select s = not (is_empty (out-Select s).keys && is_none (out-Select s).offset && is_none (out-Select s).limit)

-- the prefixes that a select's own scope binds
abbrev pub prefixes_of_select : Select → List Name → List Prefix
prefixes_of_select s ns = factored (direct (out-Select s).subject false) (all_of_rows s) (paths_of ns)

-- the list of the base with a number where it is one of these
abbrev pub base_found : List (ℕ × Gives Val) → ℕ → List Name → List Bound → Option (List (Item Val))
base_found [] k ns b = None
base_found ((n, gives) ∷ more) k ns b = if n == k then Some (gives ns b) else base_found more k ns b

-- the first of two that is there
abbrev pub or_else : {A : Type 0} → Option A → Option A → Option A
or_else (Some x) other = Some x
or_else None other = other

-- what was found, or nothing
abbrev pub or_nothing : {A : Type 0} → Option (List A) → List A
or_nothing (Some xs) = xs
or_nothing None = []

module _ (w : World) where
  -- the values of a scope with this body
  abbrev pub values_in : Expr → Gives Val
  values_in x = values_of w x (base_among (bases w x)) (items w x)

  -- the items of a scope with this body in a result position
  abbrev pub items_in : Expr → Gives Formed
  items_in x = items_of w x (base_among (bases w x)) (items w x) (finish w x)

  -- each of several bindings, extended by a prefix
  abbrev pub extended_by : Bases → Prefix → List Name → List (Item (List Bound)) → List (Item (List Bound))
  extended_by bases f ns rows = bind rows (λ b. bind (turns f.optional (value_list w bases f.path ns b)) (λ x. one (x ∷ b)))

  -- the finished items of an expression under each of several bindings
  abbrev pub made_under : Expr → List Name → List (Item (List Bound)) → List (Item Formed)
  made_under x ns rows = bind rows (λ b. bind (items w x ns b) (made w (finish w x) ns b))

  abbrev pub lists_of : List Expr → List Name → List Bound → List (List (Item Formed))
  lists_of xs ns b = map (λ x. items w x ns b) xs

  abbrev pub scopes_values : List Scope → Gives Val
  scopes_values ss ns b = flat_map (λ s. values_in s.body ns b) ss

  abbrev pub fields_of : List Element → List Name → List Bound → List (List (Item FormField))
  fields_of es ns b = map (λ x. field_of x.name (items_in x.value.body ns b)) es

  abbrev pub keys_of : List Key → List Name → List Bound → List (List (Item (Option Val)))
  keys_of ks ns b = map (λ k. first_of (key_list w k ns b)) ks

  abbrev pub clause_values : Option Scope → Gives Val
  clause_values None ns b = []
  clause_values (Some s) ns b = values_in s.body ns b

  abbrev pub condition_values : Option Scope → Gives Val
  condition_values None ns b = one (val.Bool true)
  condition_values (Some s) ns b = values_in s.body ns b

  abbrev pub finished_all : List Expr → List Name → List Bound → List Form → List (List (Item Form))
  finished_all (x ∷ xs) ns b (f ∷ fs) = finish w x ns b f ∷ finished_all xs ns b fs
  finished_all _ ns b _ = []

  -- the first base with a number in some expressions
  abbrev pub base_in_all : List Expr → ℕ → List Name → List Bound → Option (List (Item Val))
  base_in_all [] k ns b = None
  base_in_all (x ∷ xs) k ns b = or_else (base_found (bases w x) k ns b) (base_in_all xs k ns b)

  abbrev pub aliased : List Alias → Gives Formed → Gives Formed
  aliased [] gives ns b = gives ns b
  aliased (a ∷ more) gives ns b =
      collect (λ vs. aliased more gives (name.Alias a.number ∷ ns) (bound.Listed vs ∷ b)) (values_in a.value.body ns b)

  -- the rows of a select under one extension
  abbrev pub rows_under : Select → Gives (Keyed Row)
  rows_under s = let r = out-Select s in
      rows_of w r.number (items w r.subject) (condition_values r.filter) (λ ns b. gathered (keys_of r.keys ns b))

  -- the rows of a select for one item of its subject
  abbrev pub rows_of_item : Select → List Name → List Bound → Formed → List (Item (Keyed Row))
  rows_of_item s ns b x = let r = out-Select s in
      let ns' = name.Prefix (subject r.number) ∷ ns in let b' = bound.One x.value ∷ b in
      when (condition_values r.filter ns' b') (keyed_rows b x (gathered (keys_of r.keys ns' b')))

  -- the rows of a select
  abbrev pub all_rows : Select → List Prefix → Gives (Keyed Row)
  all_rows s fs ns b = bind (extensions w (base_among (bases w (out-Select s).subject)) fs ns b) (rows_under s (within fs ns))

  -- a select behind its aliases
  abbrev pub selected : Select → Gives Formed
  selected s ns b = let fs = prefixes_of_select s ns in let r = out-Select s in
      finished (is_cut_select s) (clause_values r.offset ns b) (clause_values r.limit ns b) (map order_of r.keys) (all_rows s fs ns b)
      (λ row. made w (finish w r.subject) (within fs ns) row.now row.item)

  -- what is made of a row that is left
  abbrev pub row_made : Select → List Name → Row → List (Item Formed)
  row_made s ns row = made w (finish w (out-Select s).subject) ns row.now row.item

  -- a `for` behind its aliases
  abbrev pub repeated : ℕ → Expr → Expr → Gives Formed
  repeated k iterator body ns b =
      bind (values_in iterator ns b) (λ v. items_in body (name.Prefix (variable k) ∷ ns) (bound.One v ∷ b))
