-- Which kind an expression has, where names have kinds.
use Rattle.std.specs.Prelude.{◌≡◌, IsTrue, ℕ, suc, ◌-◌, ◌==◌, Bool, true, false, List, [], ◌∷◌, ◌++◌, length, Option, Some, None}
use Rattle.core_ir.specs.declared.path.Path.{Path}
use Rattle.core_ir.specs.declared.path.PtrId.{PtrId}
use Rattle.core_ir.specs.declared.path.Root.{Root}
use Rattle.core_ir.specs.declared.path.Root.TheVariants as root
use Rattle.core_ir.specs.declared.path.Step.{Step}
use Rattle.core_ir.specs.declared.tree.Expr.{Expr, Row_of-Expr, end_of-Expr, more_of-Expr, Row_of-Scope, end_of-Scope, more_of-Scope, Row_of-Alias, end_of-Alias, more_of-Alias, Row_of-Element, end_of-Element, more_of-Element}
use Rattle.core_ir.specs.declared.tree.Expr as e
use Rattle.core_ir.specs.declared.tree.Select.{Select', Held-Select-filter, None', Some', Row_of-Key, end_of-Key, more_of-Key}
use Rattle.core_ir.specs.declared.tree.Key as key
use Rattle.core_ir.specs.Occurrences.{direct, all, all_of_clause, all_of_keys}
use Rattle.core_ir.specs.Path.{prefix, subject, variable}
use Rattle.path_scope.specs.declared.prefix.Prefix.{Prefix}
use Rattle.path_scope.specs.Factored.{factored}
use Rattle.eql_sem.specs.declared.binding.Name.{Name}
use Rattle.eql_sem.specs.declared.binding.Name.TheVariants as name
use Rattle.eql_sem.specs.Bindings.{paths_of, pick, nearest, within}
use Rattle.eql_sem.specs.Meaning.{base_number}
use Rattle.eql_sem.specs.Scopes.{last_property}
use Rattle.eql_agree.specs.Kinds.{Rules}

-- what is said of names and of the kinds that stand beside them
abbrev pub Says : Type 0 → Type 1
Says K = List Name → List K → Type 0

-- what is said of a kind, where names have kinds
abbrev pub SaysOf : Type 0 → Type 1
SaysOf K = List Name → List K → K → Type 0

-- the base expressions of a scope by their numbers, with what is said of the kind of each
abbrev pub BaseKinds : Type 0 → Type 1
BaseKinds K = List (ℕ × SaysOf K)

-- the kind that stands beside a name, where one does
abbrev pub IsPicked : {K : Type 0} → Option K → K → Type 0
IsPicked None t = Unit {0}
IsPicked (Some u) t = u ≡ t

-- the kinds once some more stand beside the names of a scope's prefixes, the last one newest
abbrev pub kinds_within : {K : Type 0} → List K → List K → List K
kinds_within [] ts = ts
kinds_within (u ∷ us) ts = kinds_within us (u ∷ ts)

-- one of two statements, by a truth
abbrev pub Chosen : Bool → Type 0 → Type 0 → Type 0
Chosen true A B = A
Chosen false A B = B

-- the kind of the base with a number, if it is one of these
abbrev pub IsOfBase : {K : Type 0} → BaseKinds K → ℕ → SaysOf K
IsOfBase [] m ns ts t = Unit {0}
IsOfBase ((n, says) ∷ more) m ns ts t = Chosen (n == m) (says ns ts t) (IsOfBase more m ns ts t)

module _ {K : Type 0} (k : Rules K) where
  -- what has a kind may stand for another
  abbrev pub Widened : SaysOf K → SaysOf K
  Widened says ns ts t = (u : K) × says ns ts u × IsTrue (k.widens u t)

  -- ---- paths

  -- the steps of a path lead from one kind to another
  abbrev pub Leads : List Step → K → K → Type 0
  Leads [] u t = u ≡ t
  Leads (s ∷ more) u t = (v : K) × IsTrue (k.step s u v) × Leads more v t

  -- the kind of a root that is not bound
  abbrev pub IsOfRoot : BaseKinds K → Root → SaysOf K
  IsOfRoot bases (root.Extent x) ns ts t = IsTrue (k.extent x t)
  IsOfRoot bases (root.Alias n) ns ts t = IsPicked (pick ns ts (name.Alias n)) t
  IsOfRoot bases (root.Base n) ns ts t = IsOfBase bases n ns ts t
  IsOfRoot bases _ ns ts t = Unit {0}

  -- the kind of a path from its longest bound prefix, or from its root
  abbrev pub IsFrom : BaseKinds K → Path → List Name → List K → Option (K × List Step) → K → Type 0
  IsFrom bases p ns ts None t = (u : K) × IsOfRoot bases p.root ns ts u × Leads p.steps u t
  IsFrom bases p ns ts (Some (u, more)) t = Leads more u t

  -- the kind of a path that ends in the property of a link, if it does, and of any other
  abbrev pub IsByEnd : BaseKinds K → Path → List Name → List K → Option (PtrId × List ℕ) → K → Type 0
  IsByEnd bases p ns ts None t = IsFrom bases p ns ts (nearest (length p.steps) ns ts p) t
  IsByEnd bases p ns ts (Some (l, n)) t =
      (u v : K) × IsPicked (pick ns ts (name.Prefix (prefix (length p.steps - 2) p))) u
      × IsPicked (pick ns ts (name.Prefix (prefix (length p.steps - 1) p))) v
      × IsTrue (k.property l n u v t)

  -- the kind of the list of a path
  abbrev pub IsOfPath : BaseKinds K → Path → SaysOf K
  IsOfPath bases p ns ts t = IsByEnd bases p ns ts (last_property p.steps) t

  -- the kinds of a scope's prefixes, each where those before it are bound
  abbrev pub AreBound : BaseKinds K → List Prefix → List Name → List K → List K → Type 0
  AreBound bases [] ns ts [] = Unit {0}
  AreBound bases (f ∷ fs) ns ts (u ∷ us) = IsOfPath bases f.path ns ts u × AreBound bases fs (name.Prefix f.path ∷ ns) (u ∷ ts) us
  AreBound bases _ ns ts _ = ⊥

  -- what is said where a scope's prefixes are bound
  abbrev pub Extended : BaseKinds K → List Prefix → List Name → List K → Says K → Type 0
  Extended bases fs ns ts says = (us : List K) × AreBound bases fs ns ts us × says (within fs ns) (kinds_within us ts)

  -- the kind of a scope
  abbrev pub InScope : Expr → BaseKinds K → SaysOf K → SaysOf K
  InScope x bases says ns ts t = Extended bases (factored (direct x false) (all x) (paths_of ns)) ns ts (λ ns' ts'. says ns' ts' t)

  -- the kinds of as many components of a tuple
  abbrev pub part_kinds : {m : _} → Row_of-Expr m → K → ℕ → List K
  part_kinds end_of-Expr t i = []
  part_kinds (more_of-Expr x rest) t i = k.part t i ∷ part_kinds rest t (suc i)

  unfoldable mutual
    -- an expression has a kind
    pub Has : Expr → SaysOf K
    Has (e.Literal _ v) ns ts t = IsTrue (k.literal v t)
    Has (e.Param _ p) ns ts t = IsTrue (k.param p t)
    Has (e.Global _ n) ns ts t = IsTrue (k.global n t)
    Has (e.Path _ o) ns ts t = IsPicked (pick ns ts (name.Prefix o.path)) t
    Has (e.OnBase' _ _ _ _ base o) ns ts t = IsPicked (pick ns ts (name.Prefix o.path)) t
    Has (e.Operation' _ op _ operands) ns ts t = (us : List K) × HasEach operands ns ts us × IsTrue (k.operation op us t)
    Has (e.Plus' _ _ (more_of-Expr x end_of-Expr)) ns ts t = Has x ns ts t
    Has (e.Cast' _ ty _ (more_of-Expr x end_of-Expr)) ns ts t = (u : K) × Has x ns ts u × IsTrue (k.cast ty u t)
    Has (e.Tuple' _ _ parts) ns ts t = HasEach parts ns ts (part_kinds parts t 0) × IsTrue (k.tuple (part_kinds parts t 0) t)
    Has (e.OptionalEqual' _ negated _ (more_of-Expr x end_of-Expr) _ (more_of-Expr y end_of-Expr)) ns ts t =
        (u v : K) × Has x ns ts u × Has y ns ts v × IsTrue (k.truth t)
    Has (e.In' _ negated _ (more_of-Expr x end_of-Expr) _ _ _ (more_of-Expr set end_of-Expr)) ns ts t =
        (u v : K) × Has x ns ts u × InScope set (base_kinds set) (Has set) ns ts v × IsTrue (k.truth t)
    Has (e.OfSet' _ f _ _ _ (more_of-Expr set end_of-Expr)) ns ts t =
        (u : K) × InScope set (base_kinds set) (Has set) ns ts u × IsTrue (k.function f u t)
    Has (e.Union' _ _ _ _ (more_of-Expr x end_of-Expr) _ _ _ (more_of-Expr y end_of-Expr)) ns ts t =
        Widened (InScope x (base_kinds x) (Has x)) ns ts t × Widened (InScope y (base_kinds y) (Has y)) ns ts t
    Has (e.Set' _ _ elements) ns ts t = HasAll elements ns ts t
    Has (e.Coalesce' _ _ (more_of-Expr x end_of-Expr) _ _ _ (more_of-Expr y end_of-Expr)) ns ts t =
        Widened (Has x) ns ts t × Widened (InScope y (base_kinds y) (Has y)) ns ts t
    Has (e.If' _ _ _ (more_of-Expr c end_of-Expr) _ _ _ (more_of-Expr x end_of-Expr) _ _ _ (more_of-Expr y end_of-Expr)) ns ts t =
        (u : K) × Has c ns ts u × Widened (InScope x (base_kinds x) (Has x)) ns ts t × Widened (InScope y (base_kinds y) (Has y)) ns ts t
    Has (e.Shaped' _ _ (more_of-Expr x end_of-Expr) _ n _ elements) ns ts t =
        Has x ns ts t × HasElements elements (name.Prefix (subject n) ∷ ns) (t ∷ ts)
    Has (e.Select' _ _ aliases (Select' _ (more_of-Expr x end_of-Expr) _ n filter _ keys offset limit)) ns ts t =
        BehindAliases aliases (λ ms us.
        HasClause offset ms us × HasClause limit ms us
        × Extended (base_kinds x) (factored (direct x false) (all x ++ all_of_clause filter ++ all_of_keys keys) (paths_of ms)) ms us
        (λ ns' ts'. Has x ns' ts' t × HasClause filter (name.Prefix (subject n) ∷ ns') (t ∷ ts') × HasKeys keys (name.Prefix (subject n) ∷ ns') (t ∷ ts'))) ns ts
    Has (e.For' _ _ aliases n _ _ _ (more_of-Expr x end_of-Expr) _ _ _ (more_of-Expr y end_of-Expr)) ns ts t =
        BehindAliases aliases (λ ms us.
        (v : K) × InScope x (base_kinds x) (Has x) ms us v × InScope y (base_kinds y) (Has y) (name.Prefix (variable n) ∷ ms) (v ∷ us) t) ns ts
    Has (e.Array' _ _ _ elements) ns ts t = (us : List K) × HasEach elements ns ts us × IsTrue (k.array us t)
    Has (e.ArrayCast' _ _ _ (more_of-Expr x end_of-Expr)) ns ts t = Has x ns ts t
    Has (e.Unpack' _ _ (more_of-Expr x end_of-Expr)) ns ts t = (u : K) × Has x ns ts u × IsTrue (k.element u t)
    -- what has no items has any kind
    Has (e.EmptySet _ _) ns ts t = Unit {0}
    Has (e.Unfit' _ _ _ _ parts) ns ts t = Unit {0}

    -- several expressions have these kinds
    pub HasEach : {m : _} → Row_of-Expr m → List Name → List K → List K → Type 0
    HasEach end_of-Expr ns ts [] = Unit {0}
    HasEach (more_of-Expr x rest) ns ts (u ∷ us) = Has x ns ts u × HasEach rest ns ts us
    HasEach _ ns ts _ = ⊥

    -- each of several scopes may stand for a kind
    pub HasAll : {m : _} → Row_of-Scope m → SaysOf K
    HasAll end_of-Scope ns ts t = Unit {0}
    HasAll (more_of-Scope _ _ _ (more_of-Expr x end_of-Expr) rest) ns ts t =
        Widened (InScope x (base_kinds x) (Has x)) ns ts t × HasAll rest ns ts t

    -- the base expressions of a scope, by their numbers
    pub base_kinds : Expr → BaseKinds K
    base_kinds (e.OnBase' _ _ _ _ (more_of-Expr x end_of-Expr) o) = (base_number o.path.root, InScope x (base_kinds x) (Has x)) ∷ []
    base_kinds (e.Operation' _ _ _ operands) = kinds_of_bases operands
    base_kinds (e.Plus' _ _ operand) = kinds_of_bases operand
    base_kinds (e.Cast' _ _ _ operand) = kinds_of_bases operand
    base_kinds (e.Tuple' _ _ parts) = kinds_of_bases parts
    base_kinds (e.OptionalEqual' _ _ _ left _ right) = kinds_of_bases left ++ kinds_of_bases right
    base_kinds (e.In' _ _ _ left _ _ _ set) = kinds_of_bases left
    base_kinds (e.Coalesce' _ _ first _ _ _ second) = kinds_of_bases first
    base_kinds (e.If' _ _ _ c _ _ _ value _ _ _ other) = kinds_of_bases c
    base_kinds (e.Shaped' _ _ x _ _ _ elements) = kinds_of_bases x
    base_kinds (e.Array' _ _ _ elements) = kinds_of_bases elements
    base_kinds (e.ArrayCast' _ _ _ operand) = kinds_of_bases operand
    base_kinds (e.Unpack' _ _ operand) = kinds_of_bases operand
    base_kinds (e.Unfit' _ _ _ _ parts) = kinds_of_bases parts
    base_kinds _ = []

    -- the base expressions of several expressions
    pub kinds_of_bases : {m : _} → Row_of-Expr m → BaseKinds K
    kinds_of_bases end_of-Expr = []
    kinds_of_bases (more_of-Expr x rest) = base_kinds x ++ kinds_of_bases rest

    -- each element of a shape has some kind
    pub HasElements : {m : _} → Row_of-Element m → Says K
    HasElements end_of-Element ns ts = Unit {0}
    HasElements (more_of-Element _ n _ _ _ _ _ _ _ (more_of-Expr x end_of-Expr) rest) ns ts =
        ((u : K) × InScope x (base_kinds x) (Has x) ns ts u) × HasElements rest ns ts

    -- a condition, an offset or a limit, which may be absent
    pub HasClause : Held-Select-filter → Says K
    HasClause None' ns ts = Unit {0}
    HasClause (Some' _ one_scope) ns ts = HasSome one_scope ns ts

    -- each of several scopes has some kind
    pub HasSome : {m : _} → Row_of-Scope m → Says K
    HasSome end_of-Scope ns ts = Unit {0}
    HasSome (more_of-Scope _ _ _ (more_of-Expr x end_of-Expr) rest) ns ts =
        ((u : K) × InScope x (base_kinds x) (Has x) ns ts u) × HasSome rest ns ts

    -- each key has some kind
    pub HasKeys : {m : _} → Row_of-Key m → Says K
    HasKeys end_of-Key ns ts = Unit {0}
    HasKeys (more_of-Key k rest) ns ts = HasKey k ns ts × HasKeys rest ns ts

    -- a key has some kind
    pub HasKey : key.Key → Says K
    HasKey (key.Ascending' _ _ _ _ (more_of-Expr x end_of-Expr)) ns ts = (u : K) × InScope x (base_kinds x) (Has x) ns ts u
    HasKey (key.Descending' _ _ _ _ (more_of-Expr x end_of-Expr)) ns ts = (u : K) × InScope x (base_kinds x) (Has x) ns ts u

    -- each alias in turn has a kind, and what is said behind them
    pub BehindAliases : {m : _} → Row_of-Alias m → Says K → Says K
    BehindAliases end_of-Alias says ns ts = says ns ts
    BehindAliases (more_of-Alias n _ _ _ (more_of-Expr x end_of-Expr) rest) says ns ts =
        (u : K) × InScope x (base_kinds x) (Has x) ns ts u × BehindAliases rest says (name.Alias n ∷ ns) (u ∷ ts)

  -- an expression as a scope has a kind
  abbrev pub HasAsScope : Expr → SaysOf K
  HasAsScope x = InScope x (base_kinds x) (Has x)
