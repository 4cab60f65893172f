-- What an expression comes to: each form is a node above its parts. Keys, elements, aliases and scopes are no nodes.
use Rattle.std.specs.Prelude.{Option, Some, None}
use Rattle.core_ir.specs.declared.tree.Alias.{Alias}
use Rattle.core_ir.specs.declared.tree.Conditional.{Conditional}
use Rattle.core_ir.specs.declared.tree.Element.{Element}
use Rattle.core_ir.specs.declared.tree.Expr.{Expr, Row_of-Expr, end_of-Expr, more_of-Expr, Row_of-Scope, end_of-Scope, more_of-Scope, Row_of-Alias, end_of-Alias, more_of-Alias, Row_of-Element, end_of-Element, more_of-Element}
use Rattle.core_ir.specs.declared.tree.Expr as e
use Rattle.core_ir.specs.declared.tree.Key as key
use Rattle.core_ir.specs.declared.tree.Occurrence.{Occurrence}
use Rattle.core_ir.specs.declared.tree.Scope.{Scope}
use Rattle.core_ir.specs.declared.tree.Select.{Select, out-Select, Select', Held-Select-filter, None', Some', Row_of-Key, end_of-Key, more_of-Key}
use Rattle.tree_weight.specs.Measure.{Measure, Brought, leaf, all_behind, at_root, along}

module _ {A : Type 0} (m : Measure A) (b : Brought A) where
  -- A path: its root and then its steps. Where it begins with an expression, its root is a node above that one.
  abbrev pub path : Occurrence → A
  path o = along m b (at_root m b o.path.root) o.path.steps

  abbrev pub path_from : A → Occurrence → A
  path_from base o = along m b (m.above base) o.path.steps

  unfoldable mutual
    -- an expression: a node above its parts
    pub measured : Expr → A
    measured (e.Literal _ _) = leaf m
    measured (e.Param _ _) = leaf m
    measured (e.Global _ _) = leaf m
    measured (e.Path _ o) = path o
    measured (e.OnBase' _ _ _ _ (more_of-Expr base end_of-Expr) o) = path_from (measured base) o
    measured (e.Operation' _ _ _ operands) = m.above (exprs m.none operands)
    measured (e.Plus' _ _ (more_of-Expr x end_of-Expr)) = m.above (measured x)
    measured (e.Cast' _ _ _ (more_of-Expr x end_of-Expr)) = m.above (measured x)
    measured (e.Tuple' _ _ components) = m.above (exprs m.none components)
    measured (e.OptionalEqual' _ _ _ (more_of-Expr x end_of-Expr) _ (more_of-Expr y end_of-Expr)) = m.above (m.beside (measured x) (measured y))
    measured (e.In' _ _ _ (more_of-Expr x end_of-Expr) _ _ _ (more_of-Expr set end_of-Expr)) = m.above (m.beside (measured x) (measured set))
    measured (e.OfSet' _ _ _ _ _ (more_of-Expr set end_of-Expr)) = m.above (measured set)
    measured (e.Union' _ _ _ _ (more_of-Expr x end_of-Expr) _ _ _ (more_of-Expr y end_of-Expr)) = m.above (m.beside (measured x) (measured y))
    measured (e.Set' _ _ parts) = m.above (scopes m.none parts)
    measured (e.Coalesce' _ _ (more_of-Expr x end_of-Expr) _ _ _ (more_of-Expr y end_of-Expr)) = m.above (m.beside (measured x) (measured y))
    measured (e.If' _ _ _ (more_of-Expr condition end_of-Expr) _ _ _ (more_of-Expr value end_of-Expr) _ _ _ (more_of-Expr other end_of-Expr)) =
        m.above (m.beside (measured condition) (m.beside (measured value) (measured other)))
    measured (e.Shaped' _ _ (more_of-Expr x end_of-Expr) _ _ _ parts) = m.above (elements (measured x) parts)
    measured (e.Select' _ _ parts (Select' _ (more_of-Expr subject end_of-Expr) _ _ filter _ orders offset limit)) =
        m.above (m.beside (m.beside (aliases m.none parts) (keys (m.beside (measured subject) (clause filter)) orders)) (m.beside (clause offset) (clause limit)))
    measured (e.For' _ _ parts _ _ _ _ (more_of-Expr iterator end_of-Expr) _ _ _ (more_of-Expr body end_of-Expr)) =
        m.above (m.beside (aliases m.none parts) (m.beside (measured iterator) (measured body)))
    measured (e.Array' _ _ _ parts) = m.above (exprs m.none parts)
    measured (e.ArrayCast' _ _ _ (more_of-Expr x end_of-Expr)) = m.above (measured x)
    measured (e.Unpack' _ _ (more_of-Expr x end_of-Expr)) = m.above (measured x)
    measured (e.EmptySet _ _) = leaf m
    measured (e.Unfit' _ _ _ _ parts) = m.above (exprs m.none parts)

    -- the parts of a row, one after the other behind what stands before them
    pub exprs : {k : _} → A → Row_of-Expr k → A
    exprs before end_of-Expr = before
    exprs before (more_of-Expr x more) = exprs (m.beside before (measured x)) more

    pub scopes : {k : _} → A → Row_of-Scope k → A
    scopes before end_of-Scope = before
    scopes before (more_of-Scope _ _ _ (more_of-Expr body end_of-Expr) more) = scopes (m.beside before (measured body)) more

    pub aliases : {k : _} → A → Row_of-Alias k → A
    aliases before end_of-Alias = before
    aliases before (more_of-Alias _ _ _ _ (more_of-Expr value end_of-Expr) more) = aliases (m.beside before (measured value)) more

    pub elements : {k : _} → A → Row_of-Element k → A
    elements before end_of-Element = before
    elements before (more_of-Element _ _ _ _ _ _ _ _ _ (more_of-Expr value end_of-Expr) more) = elements (m.beside before (measured value)) more

    pub keys : {k : _} → A → Row_of-Key k → A
    keys before end_of-Key = before
    keys before (more_of-Key k more) = keys (m.beside before (key_of k)) more

    pub key_of : key.Key → A
    key_of (key.Ascending' _ _ _ _ (more_of-Expr value end_of-Expr)) = measured value
    key_of (key.Descending' _ _ _ _ (more_of-Expr value end_of-Expr)) = measured value

    -- a clause that may be absent
    pub clause : Held-Select-filter → A
    clause None' = m.none
    clause (Some' _ (more_of-Scope _ _ _ (more_of-Expr body end_of-Expr) _)) = measured body

  -- The same as the code has them: of a scope, of an alias, of an element, of a clause and of the parts of a statement.
  abbrev pub of_scope : Scope → A
  of_scope s = measured s.body

  abbrev pub of_alias : Alias → A
  of_alias a = measured a.value.body

  abbrev pub of_element : Element → A
  of_element x = measured x.value.body

  abbrev pub if_there : Option Scope → A
  if_there None = m.none
  if_there (Some s) = measured s.body

  abbrev pub of_choice : Conditional → A
  of_choice c = m.beside (measured c.condition) (m.beside (measured c.value.body) (measured c.other.body))

  abbrev pub of_rows : Select → A
  of_rows s = all_behind m key_of (m.beside (measured (out-Select s).subject) (if_there (out-Select s).filter)) (out-Select s).keys

  abbrev pub of_cut : Select → A
  of_cut s = m.beside (if_there (out-Select s).offset) (if_there (out-Select s).limit)
