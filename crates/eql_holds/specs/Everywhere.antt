-- What is said of each scope of a query, and of each part of a scope, at every binding under which it is evaluated.
use Rattle.std.specs.Prelude.{◌≡◌, ℕ, ◌==◌, Bool, true, false, List, [], ◌∷◌, ◌++◌}
use Rattle.ev_value.specs.Item.{all_of, EachValue}
use Rattle.ev_value.specs.declared.value.Val.{Val}
use Rattle.core_ir.specs.declared.path.Root.{Root}
use Rattle.core_ir.specs.declared.path.Root.TheVariants as root
use Rattle.core_ir.specs.declared.tree.Expr.{Expr, Row_of-Expr, end_of-Expr, more_of-Expr, Row_of-Scope, end_of-Scope, more_of-Scope, Row_of-Alias, end_of-Alias, more_of-Alias, Row_of-Element, end_of-Element, more_of-Element}
use Rattle.core_ir.specs.declared.tree.Expr as e
use Rattle.core_ir.specs.declared.tree.Select.{Select', Held-Select-filter, None', Some', Row_of-Key, end_of-Key, more_of-Key}
use Rattle.core_ir.specs.declared.tree.Key as key
use Rattle.core_ir.specs.Occurrences.{direct, all, all_of_clause, all_of_keys}
use Rattle.core_ir.specs.Path.{subject, variable}
use Rattle.path_scope.specs.declared.prefix.Prefix.{Prefix}
use Rattle.path_scope.specs.Factored.{factored}
use Rattle.eql_sem.specs.declared.binding.Name.{Name}
use Rattle.eql_sem.specs.declared.binding.Name.TheVariants as name
use Rattle.eql_sem.specs.declared.binding.Bound.{Bound}
use Rattle.eql_sem.specs.declared.binding.Bound.TheVariants as bound
use Rattle.eql_sem.specs.Bindings.{paths_of, within}
use Rattle.eql_sem.specs.Meaning.{base_among, base_number, items, bases}
use Rattle.eql_sem.specs.Parts.{values_in}
use Rattle.eql_sem.specs.Scopes.{extensions}
use Rattle.eql_sem.specs.World.{World}

-- what is said of an expression where names stand for things
abbrev pub Says : Type 1
Says = List Name → List Bound → Type 0

abbrev pub is_base : ℕ → Root → Bool
is_base k (root.Base n) = n == k
is_base k _ = false

-- the condition and the keys of a row
abbrev pub AtRow : Says → Says → Says
AtRow condition keys ns b = condition ns b × keys ns b

-- a prefix begins at the base expression with a number
abbrev pub begins_at : ℕ → Prefix → Bool
begins_at k f = is_base k f.path.root

-- none of some prefixes begins at the base expression
abbrev pub NoneBeginsAt : ℕ → List Prefix → Type 0
NoneBeginsAt k [] = Unit {0}
NoneBeginsAt k (f ∷ more) = (begins_at k f ≡ false) × NoneBeginsAt k more

-- `OfPart` is said of each part of a scope under each extension, `OfScope` of each scope at the bindings that it is evaluated under.
module _ (w : World) (OfPart OfScope : Expr → Says) where
  -- Each base expression of a scope, where the loop takes its list: under the extensions by the prefixes before the first one
  -- that begins at it.
  abbrev pub AtBases : Expr → List Prefix → List (ℕ × Says) → Says
  AtBases x fs [] ns b = Unit {0}
  AtBases x fs ((k, says) ∷ more) ns b =
      ((pre post : List Prefix) (f : Prefix) → fs ≡ pre ++ f ∷ post → begins_at k f ≡ true → NoneBeginsAt k pre → EachValue (says (within pre ns)) (extensions w (base_among (bases w x)) pre ns b))
      × AtBases x fs more ns b

  -- a part under each extension by some prefixes
  abbrev pub Extended : Expr → List Prefix → List (ℕ × Says) → Says → Says
  Extended x fs on_bases inside ns b =
      AtBases x fs on_bases ns b
      × EachValue (λ b'. OfPart x (within fs ns) b' × inside (within fs ns) b') (extensions w (base_among (bases w x)) fs ns b)

  -- a scope, and what stands in it
  abbrev pub AtScope : Expr → List (ℕ × Says) → Says → Says
  AtScope x on_bases inside ns b =
      OfScope x ns b × Extended x (factored (direct x false) (all x) (paths_of ns)) on_bases inside ns b

  unfoldable mutual
    -- what stands inside an expression
    pub Inside : Expr → Says
    Inside (e.Literal _ v) ns b = Unit {0}
    Inside (e.Param _ p) ns b = Unit {0}
    Inside (e.Global _ n) ns b = Unit {0}
    Inside (e.Path _ o) ns b = Unit {0}
    Inside (e.OnBase' _ _ _ _ base o) ns b = Unit {0}
    Inside (e.Operation' _ op _ operands) ns b = InParts operands ns b
    Inside (e.Plus' _ _ operand) ns b = InParts operand ns b
    Inside (e.Cast' _ ty _ operand) ns b = InParts operand ns b
    Inside (e.Tuple' _ _ parts) ns b = InParts parts ns b
    Inside (e.OptionalEqual' _ negated _ left _ right) ns b = InParts left ns b × InParts right ns b
    Inside (e.In' _ negated _ left _ _ _ set) ns b = InParts left ns b × InScopes set ns b
    Inside (e.OfSet' _ f _ _ _ set) ns b = InScopes set ns b
    Inside (e.Union' _ _ _ _ left _ _ _ right) ns b = InScopes left ns b × InScopes right ns b
    Inside (e.Set' _ _ elements) ns b = InElementsOfSet elements ns b
    Inside (e.Coalesce' _ _ first _ _ _ second) ns b = InParts first ns b × InScopes second ns b
    Inside (e.If' _ _ _ c _ _ _ value _ _ _ other) ns b = InParts c ns b × InScopes value ns b × InScopes other ns b
    Inside (e.Shaped' _ _ (more_of-Expr x end_of-Expr) _ k _ elements) ns b =
        OfPart x ns b × Inside x ns b × EachValue (λ i. InElements elements (name.Prefix (subject k) ∷ ns) (bound.One i.value ∷ b)) (items w x ns b)
    Inside (e.Select' _ _ aliases (Select' _ (more_of-Expr x end_of-Expr) _ k filter _ keys offset limit)) ns b =
        WithAliases aliases (λ ms a.
        let fs = factored (direct x false) (all x ++ all_of_clause filter ++ all_of_keys keys) (paths_of ms) in
        InClause offset ms a × InClause limit ms a
        × Extended x fs (OnBases x) (λ ns' b'. Inside x ns' b' × EachValue (λ i. AtRow (InClause filter) (InKeys keys) (name.Prefix (subject k) ∷ ns') (bound.One i.value ∷ b')) (items w x ns' b')) ms a) ns b
    Inside (e.For' _ _ aliases k _ _ _ (more_of-Expr x end_of-Expr) _ _ _ (more_of-Expr y end_of-Expr)) ns b =
        WithAliases aliases (λ ms a.
        AtScope x (OnBases x) (Inside x) ms a
        × EachValue (λ v. AtScope y (OnBases y) (Inside y) (name.Prefix (variable k) ∷ ms) (bound.One v ∷ a)) (values_in w x ms a)) ns b
    Inside (e.Array' _ _ _ elements) ns b = InParts elements ns b
    Inside (e.ArrayCast' _ _ _ operand) ns b = InParts operand ns b
    Inside (e.Unpack' _ _ operand) ns b = InParts operand ns b
    Inside (e.EmptySet _ _) ns b = Unit {0}
    Inside (e.Unfit' _ _ _ _ parts) ns b = InParts parts ns b

    -- each of several parts, and what stands inside it
    pub InParts : {m : _} → Row_of-Expr m → Says
    InParts end_of-Expr ns b = Unit {0}
    InParts (more_of-Expr x rest) ns b = OfPart x ns b × Inside x ns b × InParts rest ns b

    -- each of several scopes with these bodies
    pub InScopes : {m : _} → Row_of-Expr m → Says
    InScopes end_of-Expr ns b = Unit {0}
    InScopes (more_of-Expr x rest) ns b = AtScope x (OnBases x) (Inside x) ns b × InScopes rest ns b

    pub InElementsOfSet : {m : _} → Row_of-Scope m → Says
    InElementsOfSet end_of-Scope ns b = Unit {0}
    InElementsOfSet (more_of-Scope _ _ _ body rest) ns b = InScopes body ns b × InElementsOfSet rest ns b

    pub InElements : {m : _} → Row_of-Element m → Says
    InElements end_of-Element ns b = Unit {0}
    InElements (more_of-Element _ n _ _ _ _ _ _ _ body rest) ns b = InScopes body ns b × InElements rest ns b

    -- an offset, a limit or a condition, which may be absent
    pub InClause : Held-Select-filter → Says
    InClause None' ns b = Unit {0}
    InClause (Some' _ one_scope) ns b = InElementsOfSet one_scope ns b

    pub InKeys : {m : _} → Row_of-Key m → Says
    InKeys end_of-Key ns b = Unit {0}
    InKeys (more_of-Key k rest) ns b = InKey k ns b × InKeys rest ns b

    pub InKey : key.Key → Says
    InKey (key.Ascending' _ _ _ _ body) ns b = InScopes body ns b
    InKey (key.Descending' _ _ _ _ body) ns b = InScopes body ns b

    -- each alias in turn, and what stands behind them where their lists are known
    pub WithAliases : {m : _} → Row_of-Alias m → Says → Says
    WithAliases end_of-Alias says ns b = says ns b
    WithAliases (more_of-Alias k _ _ _ (more_of-Expr x end_of-Expr) rest) says ns b =
        AtScope x (OnBases x) (Inside x) ns b
        × ((vs : List Val) → values_in w x ns b ≡ all_of vs → WithAliases rest says (name.Alias k ∷ ns) (bound.Listed vs ∷ b))

    -- the base expressions of a scope, by their numbers
    pub OnBases : Expr → List (ℕ × Says)
    OnBases (e.OnBase' _ _ _ _ (more_of-Expr x end_of-Expr) o) = (base_number o.path.root, AtScope x (OnBases x) (Inside x)) ∷ []
    OnBases (e.Operation' _ _ _ operands) = OnBasesOf operands
    OnBases (e.Plus' _ _ operand) = OnBasesOf operand
    OnBases (e.Cast' _ _ _ operand) = OnBasesOf operand
    OnBases (e.Tuple' _ _ parts) = OnBasesOf parts
    OnBases (e.OptionalEqual' _ _ _ left _ right) = OnBasesOf left ++ OnBasesOf right
    OnBases (e.In' _ _ _ left _ _ _ set) = OnBasesOf left
    OnBases (e.Coalesce' _ _ first _ _ _ second) = OnBasesOf first
    OnBases (e.If' _ _ _ c _ _ _ value _ _ _ other) = OnBasesOf c
    OnBases (e.Shaped' _ _ x _ _ _ elements) = OnBasesOf x
    OnBases (e.Array' _ _ _ elements) = OnBasesOf elements
    OnBases (e.ArrayCast' _ _ _ operand) = OnBasesOf operand
    OnBases (e.Unpack' _ _ operand) = OnBasesOf operand
    OnBases (e.Unfit' _ _ _ _ parts) = OnBasesOf parts
    OnBases _ = []

    pub OnBasesOf : {m : _} → Row_of-Expr m → List (ℕ × Says)
    OnBasesOf end_of-Expr = []
    OnBasesOf (more_of-Expr x rest) = OnBases x ++ OnBasesOf rest

  -- A whole query: its scope, at the binding in which nothing is bound.
  abbrev pub Everywhere : Expr → Type 0
  Everywhere x = AtScope x (OnBases x) (Inside x) [] []

  -- A schema's expression: its scope, where its subject is bound to one object.
  abbrev pub EverywhereFor : Val → Expr → Type 0
  EverywhereFor v x = AtScope x (OnBases x) (Inside x) (name.Prefix (subject 0) ∷ []) (bound.One v ∷ [])
