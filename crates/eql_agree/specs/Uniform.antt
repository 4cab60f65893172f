-- One kind for all values, for a tree that asks for certain roots and steps alone.
use Rattle.std.specs.Prelude.{◌≡◌, IsTrue, ℕ, ℤ, ◌&&◌, Bool, true, List}
use Rattle.ev_value.specs.Item.{EachValue}
use Rattle.ev_value.specs.declared.item.Item.{Item}
use Rattle.ev_value.specs.declared.value.Val.{Val}
use Rattle.core_ir.specs.declared.path.Path.{Path}
use Rattle.core_ir.specs.declared.path.Root.{Root}
use Rattle.core_ir.specs.declared.path.Root.TheVariants as root
use Rattle.core_ir.specs.declared.path.Step.{Step}
use Rattle.core_ir.specs.declared.path.Step.TheVariants as step
use Rattle.core_ir.specs.declared.path.TypeId.{TypeId}
use Rattle.core_ir.specs.declared.tree.Occurrence.{Occurrence}
use Rattle.core_ir.specs.declared.tree.Expr.{Expr, Row_of-Expr, end_of-Expr, more_of-Expr, Row_of-Scope, end_of-Scope, more_of-Scope, Row_of-Alias, end_of-Alias, more_of-Alias, Row_of-Element, end_of-Element, more_of-Element}
use Rattle.core_ir.specs.declared.tree.Expr as e
use Rattle.core_ir.specs.declared.tree.Select.{Select', Held-Select-filter, None', Some', Row_of-Key, end_of-Key, more_of-Key}
use Rattle.core_ir.specs.declared.tree.Key as key
use Rattle.core_ir.specs.Occurrences.{all}
use Rattle.ev_value.specs.declared.value.Val as val
use Rattle.ev_value.specs.declared.value.Val.TheVariants as made
use Rattle.core_ir.specs.declared.path.PtrId.{PtrId}
use Rattle.eql_sem.specs.declared.binding.Bound.{Bound}
use Rattle.eql_sem.specs.declared.binding.Bound.TheVariants as bound
use Rattle.eql_sem.specs.declared.binding.Name.{Name}
use Rattle.eql_sem.specs.Operations.{elements_of}
use Rattle.eql_sem.specs.Parts.{values_in, items_in}
use Rattle.eql_sem.specs.World.{World}
use Rattle.eql_agree.specs.Agreeing.{Same, IfThere, InItem}
use Rattle.eql_agree.specs.Kinds.{Rules, Kinds, Each, components_of}

-- the roots and the steps that may be asked for
pub record Asked : Type 0 where
  pub extent : TypeId → Bool
  pub step : Step → Bool

-- What is asked for has the one kind, and so do the literals in p.
abbrev pub asking : (Val → Bool) → Asked → Rules (Unit {0})
asking p asked = record {
  part = λ u i. tt;
  widens = λ u t. true;
  literal = λ v t. p v;
  param = λ q t. true;
  global = λ n t. true;
  extent = λ x t. asked.extent x;
  step = λ s u t. asked.step s;
  property = λ l n u v t. asked.step (step.Link l) && asked.step (step.LinkProp n);
  operation = λ op us t. true;
  cast = λ ty u t. true;
  function = λ f u t. true;
  truth = λ t. true;
  tuple = λ us t. true;
  array = λ us t. true;
  element = λ u t. true;
}

-- The values in p are of the one kind.
abbrev pub uniform : (Val → Bool) → Asked → Kinds (Unit {0})
uniform p asked = record { rules = asking p asked; holds = λ u v. p v }

module _ (asked : Asked) where
  -- a path's root may be asked for
  abbrev pub IsAskedRoot : Root → Type 0
  IsAskedRoot (root.Extent x) = IsTrue (asked.extent x)
  IsAskedRoot _ = Unit {0}

  -- a path's root and steps may be asked for
  abbrev pub IsAsked : Path → Type 0
  IsAsked p = IsAskedRoot p.root × Each (λ s. IsTrue (asked.step s)) p.steps

  -- each path of a tree asks for these alone
  abbrev pub AsksAlone : Expr → Type 0
  AsksAlone x = Each (λ (o : Occurrence). IsAsked o.path) (all x)

module _ (p : Val → Bool) where
  unfoldable mutual
    -- each literal of a tree is in p
    pub Literals : Expr → Type 0
    Literals (e.Literal _ v) = IsTrue (p v)
    Literals (e.Param _ _) = Unit {0}
    Literals (e.Global _ _) = Unit {0}
    Literals (e.Path _ _) = Unit {0}
    Literals (e.OnBase' _ _ _ _ base _) = LiteralsOf base
    Literals (e.Operation' _ _ _ operands) = LiteralsOf operands
    Literals (e.Plus' _ _ operand) = LiteralsOf operand
    Literals (e.Cast' _ _ _ operand) = LiteralsOf operand
    Literals (e.Tuple' _ _ parts) = LiteralsOf parts
    Literals (e.OptionalEqual' _ _ _ left _ right) = LiteralsOf left × LiteralsOf right
    Literals (e.In' _ _ _ left _ _ _ set) = LiteralsOf left × LiteralsOf set
    Literals (e.OfSet' _ _ _ _ _ set) = LiteralsOf set
    Literals (e.Union' _ _ _ _ first _ _ _ second) = LiteralsOf first × LiteralsOf second
    Literals (e.Set' _ _ elements) = LiteralsOfScopes elements
    Literals (e.Coalesce' _ _ first _ _ _ second) = LiteralsOf first × LiteralsOf second
    Literals (e.If' _ _ _ c _ _ _ value _ _ _ other) = LiteralsOf c × LiteralsOf value × LiteralsOf other
    Literals (e.Shaped' _ _ x _ _ _ elements) = LiteralsOf x × LiteralsOfElements elements
    Literals (e.Select' _ _ aliases (Select' _ x _ _ filter _ keys offset limit)) =
        LiteralsOfAliases aliases × LiteralsOf x × LiteralsOfClause filter × LiteralsOfKeys keys × LiteralsOfClause offset × LiteralsOfClause limit
    Literals (e.For' _ _ aliases _ _ _ _ x _ _ _ y) = LiteralsOfAliases aliases × LiteralsOf x × LiteralsOf y
    Literals (e.Array' _ _ _ elements) = LiteralsOf elements
    Literals (e.ArrayCast' _ _ _ operand) = LiteralsOf operand
    Literals (e.Unpack' _ _ operand) = LiteralsOf operand
    Literals (e.EmptySet _ _) = Unit {0}
    Literals (e.Unfit' _ _ _ _ parts) = LiteralsOf parts

    -- the same of several expressions
    pub LiteralsOf : {m : _} → Row_of-Expr m → Type 0
    LiteralsOf end_of-Expr = Unit {0}
    LiteralsOf (more_of-Expr x rest) = Literals x × LiteralsOf rest

    -- the same of several scopes
    pub LiteralsOfScopes : {m : _} → Row_of-Scope m → Type 0
    LiteralsOfScopes end_of-Scope = Unit {0}
    LiteralsOfScopes (more_of-Scope _ _ _ body rest) = LiteralsOf body × LiteralsOfScopes rest

    -- the same of the values of aliases
    pub LiteralsOfAliases : {m : _} → Row_of-Alias m → Type 0
    LiteralsOfAliases end_of-Alias = Unit {0}
    LiteralsOfAliases (more_of-Alias _ _ _ _ value rest) = LiteralsOf value × LiteralsOfAliases rest

    -- the same of the elements of a shape
    pub LiteralsOfElements : {m : _} → Row_of-Element m → Type 0
    LiteralsOfElements end_of-Element = Unit {0}
    LiteralsOfElements (more_of-Element _ _ _ _ _ _ _ _ _ value rest) = LiteralsOf value × LiteralsOfElements rest

    -- the same of a clause that may be absent
    pub LiteralsOfClause : Held-Select-filter → Type 0
    LiteralsOfClause None' = Unit {0}
    LiteralsOfClause (Some' _ scope) = LiteralsOfScopes scope

    -- the same of keys
    pub LiteralsOfKeys : {m : _} → Row_of-Key m → Type 0
    LiteralsOfKeys end_of-Key = Unit {0}
    LiteralsOfKeys (more_of-Key k rest) = LiteralsOfKey k × LiteralsOfKeys rest

    -- the same of a key
    pub LiteralsOfKey : key.Key → Type 0
    LiteralsOfKey (key.Ascending' _ _ _ _ value) = LiteralsOf value
    LiteralsOfKey (key.Descending' _ _ _ _ value) = LiteralsOf value

-- a value is an array
abbrev pub IsArray : Val → Type 0
IsArray (val.Array' _ elements) = Unit {0}
IsArray _ = ⊥

-- Values that no operator leads out of: all scalars, and the tuples and the arrays of such values alone.
pub record IsClosed (p : Val → Bool) : Type 0 where
  pub ints : (z : ℤ) → IsTrue (p (made.Int z))
  pub texts : (s : List ℕ) → IsTrue (p (made.Str s))
  pub truths : (b : Bool) → IsTrue (p (made.Bool b))
  pub ids : (n : ℕ) → IsTrue (p (made.Id n))
  pub tuples : (vs : List Val) → Each (λ v. IsTrue (p v)) vs → IsTrue (p (made.Tuple vs))
  pub components : (v : Val) → IsTrue (p v) → Each (λ v. IsTrue (p v)) (components_of v)
  pub arrays : (v : Val) → IsArray v → Each (λ v. IsTrue (p v)) (elements_of v) → IsTrue (p v)
  pub elements : (v : Val) → IsTrue (p v) → Each (λ v. IsTrue (p v)) (elements_of v)

-- what a name stands for is in p: nothing is, a value that is, and a list whose values are
abbrev pub BoundIn : (Val → Bool) → Bound → Type 0
BoundIn p bound.Nothing = Unit {0}
BoundIn p (bound.One v) = IsTrue (p v)
BoundIn p (bound.Listed vs) = Each (λ v. IsTrue (p v)) vs

-- Two worlds agree on the values in p, for the roots and steps that may be asked for, and lead to such values alone.
pub record AgreeOn (p : Val → Bool) (asked : Asked) (w w' : World) : Type 0 where
  pub extents : (x : TypeId) → IsTrue (asked.extent x) → (w.extent x ≡ w'.extent x) × Each (λ v. IsTrue (p v)) (w.extent x)
  pub steps : (s : Step) (xs : List (Item Val)) → IsTrue (asked.step s) → EachValue (λ v. IsTrue (p v)) xs
      → Same (λ v. IsTrue (p v)) (w.step s xs) (w'.step s xs)
  pub properties : (l : PtrId) (n : List ℕ) (x y : Val) → IsTrue (asked.step (step.Link l)) → IsTrue (asked.step (step.LinkProp n)) → IsTrue (p x) → IsTrue (p y)
      → (w.link_property l n x y ≡ w'.link_property l n x y) × Each (λ v. IsTrue (p v)) (w.link_property l n x y)
  pub params : (n : List ℕ) → (w.param n ≡ w'.param n) × IfThere (λ v. IsTrue (p v)) (w.param n)
  pub globals : (n : List ℕ) → (w.global n ≡ w'.global n) × IfThere (λ v. IsTrue (p v)) (w.global n)

-- Two worlds that agree on the values in p, for what a tree asks for, give the same items of it, with the same forms, where
-- what is bound is in p. Their values are in p, and so are those that their forms are made of.
pub record AgreeingWorldsGiveTheSame : Type 0 where
  pub same_items : (p : Val → Bool) (asked : Asked) (w w' : World) → IsClosed p → AgreeOn p asked w w' → (x : Expr) → AsksAlone asked x → Literals p x
      → (ns : List Name) (b : List Bound) → Each (BoundIn p) b → Same (InItem (uniform p asked) tt) (items_in w x ns b) (items_in w' x ns b)
  pub same_values : (p : Val → Bool) (asked : Asked) (w w' : World) → IsClosed p → AgreeOn p asked w w' → (x : Expr) → AsksAlone asked x → Literals p x
      → (ns : List Name) (b : List Bound) → Each (BoundIn p) b → Same (λ v. IsTrue (p v)) (values_in w x ns b) (values_in w' x ns b)

-- where anything may be asked for
abbrev pub anything : Asked
anything = record { extent = λ x. true; step = λ s. true }
