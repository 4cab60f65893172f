-- The scopes of names, of types and of well-formedness, side by side: the same aliases with the same columns, each with a type.
use Rattle.std.proofs.Common.{◌≡◌, ◌⊎◌, inl, inr, Bool, true, false, ◌||◌, List, [], ◌∷◌, ◌++◌, codes, map, Option, Some, None, if◌then◌else◌, refl, ap, sym, ◌∙◌, subst, true≢false, arith}
use Rattle.std.specs.Bool.{Decides}
use Rattle.std.specs.List.{Contains}
use Rattle.std.specs.Str.{bytes_eq}
use Rattle.std.proofs.lemmas.List.Elements.{Contains-append_cases, Contains-append_left, Contains-append_right, Contains-push_cases, Contains-push}
use Rattle.std.proofs.lemmas.Slice.Eq.{bytes_eq-Decides}
use Rattle.sql_ast.specs.declared.catalog.Catalog.{Catalog}
use Rattle.sql_ast.specs.declared.catalog.TableShape.{TableShape}
use Rattle.sql_ast.specs.declared.catalog.Typed.{Typed}
use Rattle.sql_ast.specs.declared.select.FromItem.{FromItem}
use Rattle.sql_ast.specs.declared.ty.SqlTy.{SqlTy}
use Rattle.sql_ast.specs.WellFormed.{Name, AreApart, alias_of, columns_under, element_column, names_of, type_under, types_of}
use Rattle.sql_ast.specs.WellFormed as formed
use Rattle.sql_check.specs.declared.sort.Known.{Known}
use Rattle.sql_check.specs.Names.{Scope, with_items, has_alias, has_column, is_among, is_column, is_listed, is_there}
use Rattle.sql_check.specs.Types.{Sorts, column_type, sort_under, sorts_of}

-- ---- names in lists

pub in_cons : {A : Type 0} (x : A) (xs : List A) (y : A) → Contains (x ∷ xs) y → (x ≡ y) ⊎ Contains xs y
in_cons x xs y h = by_case (Contains-append_cases (x ∷ []) xs y h)
  where
    first : Contains [] y ⊎ (x ≡ y) → x ≡ y
    first (inl none) = let lt = none.1 in absurd (omega (arith, lt))
    first (inr e) = e

    by_case : Contains (x ∷ []) y ⊎ Contains xs y → (x ≡ y) ⊎ Contains xs y
    by_case (inl here) = inl (first (Contains-push_cases [] x y here))
    by_case (inr there) = inr there

pub is_first : {A : Type 0} (x : A) (xs : List A) → Contains (x ∷ xs) x
is_first x xs = Contains-append_left (x ∷ []) xs x (Contains-push [] x)

pub is_further : {A : Type 0} (x : A) (xs : List A) (y : A) → Contains xs y → Contains (x ∷ xs) y
is_further x xs y h = Contains-append_right (x ∷ []) xs y h

pub same_name : (name : Name) → bytes_eq name name ≡ true
same_name name = (bytes_eq-Decides name name).1 refl

itself : (b : Bool) → (if b then true else false) ≡ b
itself true = refl
itself false = refl

among_more : (name : Name) (xs : List Name) (x : Name) → is_among name (xs ++ x ∷ []) ≡ (is_among name xs || bytes_eq x name)
among_more name [] x = itself (bytes_eq x name)
among_more name (y ∷ ys) x = by_case (bytes_eq y name) (among_more name ys x)
  where
    by_case : (b : Bool) → is_among name (ys ++ x ∷ []) ≡ (is_among name ys || bytes_eq x name) → (if b then true else is_among name (ys ++ x ∷ [])) ≡ ((if b then true else is_among name ys) || bytes_eq x name)
    by_case true h = refl
    by_case false h = h

alias_more : (name : Name) (is : List FromItem) (i : FromItem) → has_alias name (is ++ i ∷ []) ≡ (has_alias name is || bytes_eq (alias_of i) name)
alias_more name [] i = itself (bytes_eq (alias_of i) name)
alias_more name (j ∷ js) i = by_case (bytes_eq (alias_of j) name) (alias_more name js i)
  where
    by_case : (b : Bool) → has_alias name (js ++ i ∷ []) ≡ (has_alias name js || bytes_eq (alias_of i) name) → (if b then true else has_alias name (js ++ i ∷ [])) ≡ ((if b then true else has_alias name js) || bytes_eq (alias_of i) name)
    by_case true h = refl
    by_case false h = h

neither_first : (a b : Bool) → (a || b) ≡ false → a ≡ false
neither_first true b h = h
neither_first false b h = refl

neither_second : (a b : Bool) → (a || b) ≡ false → b ≡ false
neither_second true b h = absurd (cc h)
neither_second false b h = h

neither_is : (a b : Bool) → a ≡ false → b ≡ false → (a || b) ≡ false
neither_is a b e f = rw (e, f) refl

left_is : (a b : Bool) → a ≡ true → (a || b) ≡ true
left_is a b e = rw e refl

right_is : (a b : Bool) → b ≡ true → (a || b) ≡ true
right_is true b e = refl
right_is false b e = e

one_of : (a b : Bool) → (a || b) ≡ true → (a ≡ true) ⊎ (b ≡ true)
one_of true b h = inl refl
one_of false b h = inr h

both_ways : (b : Bool) → b ≡ true → b ≡ false → ⊥
both_ways b e f = true≢false (sym e ∙ f)

not_true : (b : Bool) → (b ≡ true → ⊥) → b ≡ false
not_true true h = absurd (h refl)
not_true false h = refl

-- ---- columns that stand apart

-- none of the names stands among those before
abbrev pub AreNew : List Name → List Name → Type 0
AreNew before names = (name : Name) → Contains names name → is_among name before ≡ false

pub none_new : (before : List Name) → AreNew before []
none_new before = λ name there. let lt = there.1 in absurd (omega (arith, lt))

-- a new name before new ones that are apart
pub new_first : (before : List Name) (name : Name) (more : List Name) → is_among name before ≡ false → AreNew (before ++ name ∷ []) more → AreNew before (name ∷ more)
new_first before name more new rest = λ other there. by_case other (in_cons name more other there)
  where
    by_case : (other : Name) → (name ≡ other) ⊎ Contains more other → is_among other before ≡ false
    by_case other (inl e) = subst (λ (n : Name). is_among n before ≡ false) e new
    by_case other (inr there) = neither_first _ _ (sym (among_more other before name) ∙ rest other there)

pub apart_first : (before : List Name) (name : Name) (more : List Name) → AreNew (before ++ name ∷ []) more → Contains more name → ⊥
apart_first before name more rest there =
    let other : bytes_eq name name ≡ false = neither_second (is_among name before) _ (sym (among_more name before name) ∙ rest name there) in
    both_ways _ (same_name name) other

-- and the other way round
pub new_rest : (before : List Name) (name : Name) (more : List Name) → AreNew before (name ∷ more) → (Contains more name → ⊥) → AreNew (before ++ name ∷ []) more
new_rest before name more new apart = λ other there.
    among_more other before name
    ∙ neither_is _ _ (new other (is_further name more other there)) (not_true _ (λ same. apart (subst (λ (n : Name). Contains more n) (sym ((bytes_eq-Decides name other).0 same)) there)))

-- ---- aliases before

-- the names are among the aliases of the items, and the other way round
abbrev pub AreAliases : List Name → List FromItem → Type 0
AreAliases names before = (name : Name) → Decides (has_alias name before) (Contains names name)

pub no_aliases : AreAliases [] []
no_aliases = λ name. (λ e. absurd (cc e), λ there. let lt = there.1 in absurd (omega (arith, lt)))

pub one_alias : (names : List Name) (before : List FromItem) (i : FromItem) → AreAliases names before → AreAliases (alias_of i ∷ names) (before ++ i ∷ [])
one_alias names before i are = λ name. (λ e. found name (one_of _ _ (sym (alias_more name before i) ∙ e)), λ there. alias_more name before i ∙ is name (in_cons (alias_of i) names name there))
  where
    found : (name : Name) → (has_alias name before ≡ true) ⊎ (bytes_eq (alias_of i) name ≡ true) → Contains (alias_of i ∷ names) name
    found name (inl e) = is_further (alias_of i) names name ((are name).0 e)
    found name (inr e) = subst (λ (n : Name). Contains (alias_of i ∷ names) n) ((bytes_eq-Decides (alias_of i) name).0 e) (is_first (alias_of i) names)

    is : (name : Name) → (alias_of i ≡ name) ⊎ Contains names name → (has_alias name before || bytes_eq (alias_of i) name) ≡ true
    is name (inl e) = right_is (has_alias name before) _ ((bytes_eq-Decides (alias_of i) name).1 e)
    is name (inr there) = left_is _ _ ((are name).1 there)

pub new_alias : (names : List Name) (before : List FromItem) (name : Name) → AreAliases names before → has_alias name before ≡ false → Contains names name → ⊥
new_alias names before name are new there = both_ways _ ((are name).1 there) new

pub alias_is_new : (names : List Name) (before : List FromItem) (name : Name) → AreAliases names before → (Contains names name → ⊥) → has_alias name before ≡ false
alias_is_new names before name are new = not_true _ (λ e. new ((are name).0 e))

-- one more item is the newest
pub with_more : (before : List FromItem) (i : FromItem) (d : Scope) → with_items (before ++ i ∷ []) d ≡ i ∷ with_items before d
with_more [] i d = refl
with_more (j ∷ more) i d = with_more more i (j ∷ d)

-- ---- scopes side by side

-- the columns of an alias, each with its type
abbrev pub known_as : TableShape → Known
known_as t = record { alias = t.name; columns = sorts_of t.columns }

abbrev pub sorted : formed.Scope → Sorts
sorted d = map known_as d

-- a name is that of a column where it has a type
abbrev pub IsGivenBy : (Name → Bool) → List Typed → Type 0
IsGivenBy gives columns = (name : Name) → gives name ≡ is_there (type_under name columns)

-- items with their aliases and columns
abbrev pub Gives : Catalog → Scope → formed.Scope → Type 0
Gives catalog [] [] = Unit {0}
Gives catalog [] (t ∷ ts) = ⊥
Gives catalog (i ∷ is) [] = ⊥
Gives catalog (i ∷ is) (t ∷ ts) = (alias_of i ≡ t.name) × IsGivenBy (λ name. has_column catalog name i) t.columns × Gives catalog is ts

abbrev pub type_listed : Name → Option (List Typed) → Option SqlTy
type_listed name None = None
type_listed name (Some columns) = type_under name columns

pub column_is : (catalog : Catalog) (alias name : Name) (n : Scope) (d : formed.Scope) → Gives catalog n d → is_column catalog alias name n ≡ is_listed name (columns_under alias d)
column_is catalog alias name [] [] g = refl
column_is catalog alias name [] (t ∷ ts) g = absurd g
column_is catalog alias name (i ∷ is) [] g = absurd g
column_is catalog alias name (i ∷ is) (t ∷ ts) g =
    ap (λ (a : Name). if bytes_eq a alias then has_column catalog name i else is_column catalog alias name is) g.0
    ∙ by_case (bytes_eq t.name alias) (g.1 name) (column_is catalog alias name is ts g.2)
  where
    by_case : (b : Bool) → has_column catalog name i ≡ is_there (type_under name t.columns) → is_column catalog alias name is ≡ is_listed name (columns_under alias ts)
        → (if b then has_column catalog name i else is_column catalog alias name is) ≡ is_listed name (if b then Some t.columns else columns_under alias ts)
    by_case true h k = h
    by_case false h k = k

pub type_in_sorts : (name : Name) (cs : List Typed) → sort_under name (sorts_of cs) ≡ type_under name cs
type_in_sorts name [] = refl
type_in_sorts name (x ∷ more) = ap (λ (o : Option SqlTy). if bytes_eq x.name name then Some x.ty else o) (type_in_sorts name more)

pub type_is : (alias name : Name) (d : formed.Scope) → column_type alias name (sorted d) ≡ type_listed name (columns_under alias d)
type_is alias name [] = refl
type_is alias name (t ∷ ts) = by_case (bytes_eq t.name alias) (type_in_sorts name t.columns) (type_is alias name ts)
  where
    by_case : (b : Bool) → sort_under name (sorts_of t.columns) ≡ type_under name t.columns → column_type alias name (sorted ts) ≡ type_listed name (columns_under alias ts)
        → (if b then sort_under name (sorts_of t.columns) else column_type alias name (sorted ts)) ≡ type_listed name (if b then Some t.columns else columns_under alias ts)
    by_case true h k = h
    by_case false h k = k

pub there_sound : {A : Type 0} (o : Option A) → is_there o ≡ true → (a : A) × (o ≡ Some a)
there_sound None h = absurd (cc h)
there_sound (Some a) h = (a, refl)

-- a column that is there has a type
pub listed_sound : (name : Name) (o : Option (List Typed)) → is_listed name o ≡ true → (cs : List Typed) × (t : SqlTy) × (o ≡ Some cs) × (type_under name cs ≡ Some t)
listed_sound name None h = absurd (cc h)
listed_sound name (Some cs) h = let found : (t : SqlTy) × (type_under name cs ≡ Some t) = there_sound (type_under name cs) h in (cs, found.0, refl, found.1)

-- ---- the names that columns give

pub column_gives : (name other : Name) (t : SqlTy) (b : Bool) (cs : List Typed) → b ≡ is_there (type_under other cs)
    → (if bytes_eq name other then true else b) ≡ is_there (if bytes_eq name other then Some t else type_under other cs)
column_gives name other t b cs h = by_case (bytes_eq name other)
  where
    by_case : (is : Bool) → (if is then true else b) ≡ is_there (if is then Some t else type_under other cs)
    by_case true = refl
    by_case false = h

pub element_gives : (name : Name) (t : SqlTy) → bytes_eq (codes "c1") name ≡ is_there (type_under name (element_column t))
element_gives name t = by_case (bytes_eq (codes "c1") name)
  where
    by_case : (is : Bool) → is ≡ is_there (if is then Some t else None)
    by_case true = refl
    by_case false = refl
