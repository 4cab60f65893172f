-- What a scope binds has the types of its paths.
use Rattle.std.proofs.Common.{◌≡◌, ℕ, zero, suc, ◌-◌, ◌==◌, Bool, true, false, not, ◌||◌, if◌then◌else◌, Option, Some, None, List, [], ◌∷◌, ◌++◌, length, drop, refl, sym, ap, ◌∙◌, subst}
use Rattle.std.specs.List.{filter, flat_map, list_any}
use Rattle.std.proofs.lemmas.Bool.Decides.{Decides-eqb, Decides-and}
use Rattle.ev_value.specs.declared.args.Args.{Args}
use Rattle.core_ir.specs.declared.path.Path.{Path}
use Rattle.core_ir.specs.declared.path.PtrId.{PtrId}
use Rattle.core_ir.specs.declared.path.Root.{Root}
use Rattle.core_ir.specs.declared.path.Root.TheVariants as root
use Rattle.core_ir.specs.declared.path.Step.{Step}
use Rattle.core_ir.specs.declared.tree.Direct.{Direct}
use Rattle.core_ir.specs.declared.tree.Occurrence.{Occurrence}
use Rattle.core_ir.specs.declared.ty.Ty.{Ty}
use Rattle.core_ir.specs.Path.{root_eq, path_eq, alike, prefix}
use Rattle.core_ir.proofs.Paths as same
use Rattle.ev_schema.specs.declared.schema.Schema.{Schema}
use Rattle.path_scope.specs.declared.prefix.Prefix.{Prefix}
use Rattle.path_scope.specs.Factored.{is_common, joins, is_bound, is_listed, binds, prefixes_of, added, factored}
use Rattle.eql_sem.specs.declared.binding.Name.{Name}
use Rattle.eql_sem.specs.declared.binding.Name.TheVariants as name
use Rattle.eql_sem.specs.Bindings.{name_eq, pick, or_shorter, nearest, within}
use Rattle.eql_sem.specs.Scopes.{last_property}
use Rattle.eql_agree.specs.Kinds.{Each, Along}
use Rattle.eql_agree.specs.Kinded.{IsPicked, kinds_within, Chosen, BaseKinds, IsOfBase, Leads, IsOfRoot, IsFrom, IsByEnd, IsOfPath, AreBound}
use Rattle.type_rules.specs.Known.{Known, root_type}
use Rattle.store_agree.specs.Typed.{typing}
use Rattle.type_agree.specs.Premises.{IsTypedSchema}
use Rattle.type_agree.proofs.Widened.{none_some, some_same, chosen, itself, first_of_two}
use Rattle.type_agree.proofs.Walks.{Walks, walks_one, lead_on, parted}
use Rattle.type_agree.proofs.Ends.{property_leads_on}

name_is : (m n : Name) → name_eq m n ≡ true → m ≡ n
name_is (name.Prefix p) (name.Prefix q) h = ap (λ p. name.Prefix p) ((same.paths p q).0 h)
name_is (name.Alias a) (name.Alias b) h = ap (λ a. name.Alias a) ((Decides-eqb a b).0 h)
name_is (name.Prefix p) (name.Alias b) h = absurd cc
name_is (name.Alias a) (name.Prefix q) h = absurd cc

module _ (s : Schema) (types : ℕ → Option Ty) where
  -- the numbers as what is known
  abbrev pub roots : Known
  roots = record { type_of = types; parameter = λ n. None }

  -- a path has a type: its root has one, and its steps lead on from there
  abbrev pub HasPathType : Path → Ty → Type 0
  HasPathType p t = (u : Ty) × (root_type roots p.root ≡ Some u) × Walks s None u p.steps t

  -- a path has some type
  abbrev pub IsPathTyped : Path → Type 0
  IsPathTyped p = (u : Ty) × HasPathType p u

  -- what a name stands for has a type
  abbrev pub NameHas : Name → Ty → Type 0
  NameHas (name.Prefix p) t = HasPathType p t
  NameHas (name.Alias n) t = types n ≡ Some t

  abbrev pub Named : List Name → List Ty → Type 0
  Named ns ts = Along NameHas ns ts

  pub path_one : (p : Path) (t v : Ty) → HasPathType p t → HasPathType p v → t ≡ v
  path_one p t v (u, e, h) (w, f, k) = walks_one s None u p.steps t v h (subst (λ w. Walks s None w p.steps v) (some_same (sym f ∙ e)) k)

  name_one : (n : Name) (t v : Ty) → NameHas n t → NameHas n v → t ≡ v
  name_one (name.Prefix p) t v h k = path_one p t v h k
  name_one (name.Alias n) t v h k = some_same (sym h ∙ k)

  -- what is picked has the name's type
  picked_has : (ns : List Name) (ts : List Ty) (n : Name) (v : Ty) → Named ns ts → pick ns ts n ≡ Some v → NameHas n v
  picked_has [] ts n v h e = none_some e
  picked_has (m ∷ ns) [] n v h e = none_some e
  picked_has (m ∷ ns) (t ∷ ts) n v h e =
      chosen (name_eq m n) (Some t) (pick ns ts n) (Some v) e
      (λ i j. subst (λ n. NameHas n v) (name_is m n i) (subst (NameHas m) (some_same j) h.0))
      (λ i j. picked_has ns ts n v h.1 j)

  pub is_picked : (ns : List Name) (ts : List Ty) (n : Name) (t : Ty) → Named ns ts → NameHas n t → IsPicked (pick ns ts n) t
  is_picked ns ts n t h k = by_found (pick ns ts n) refl
    where
      by_found : (o : Option Ty) → pick ns ts n ≡ o → IsPicked o t
      by_found None e = tt
      by_found (Some v) e = name_one n v t (picked_has ns ts n v h e) k

  some_picked : (o : Option Ty) (t : Ty) → (u : Ty) × IsPicked o u
  some_picked None t = (t, tt)
  some_picked (Some v) t = (v, refl)

  -- ---- the prefixes of a scope

  -- each base expression of a scope has the type of its number
  abbrev pub BasesHave : BaseKinds Ty → Type 0
  BasesHave [] = Unit {0}
  BasesHave ((n, says) ∷ more) = ((u : Ty) × (types n ≡ Some u) × ((ns : List Name) (ts : List Ty) → Named ns ts → says ns ts u)) × BasesHave more

  pub bases_append : (xs ys : BaseKinds Ty) → BasesHave xs → BasesHave ys → BasesHave (xs ++ ys)
  bases_append [] ys h k = k
  bases_append ((n, says) ∷ xs) ys h k = (h.0, bases_append xs ys h.1 k)

  base_has : (bases : BaseKinds Ty) (m : ℕ) (u : Ty) (ns : List Name) (ts : List Ty) → BasesHave bases → types m ≡ Some u → Named ns ts → IsOfBase bases m ns ts u
  base_has [] m u ns ts h e k = tt
  base_has ((n, says) ∷ more) m u ns ts h e k = by_number (n == m) refl (λ i. subst (says ns ts) (some_same (sym h.0.1 ∙ ap types i ∙ e)) (h.0.2 ns ts k)) (base_has more m u ns ts h.1 e k)
    where
      by_number : (b : Bool) → (n == m) ≡ b → (n ≡ m → says ns ts u) → IsOfBase more m ns ts u → Chosen b (says ns ts u) (IsOfBase more m ns ts u)
      by_number true i f g = f ((Decides-eqb n m).0 i)
      by_number false i f g = g

  module _ (typed : IsTypedSchema s) (args : Args) where
    root_has : (bases : BaseKinds Ty) (r : Root) (u : Ty) (ns : List Name) (ts : List Ty) → BasesHave bases → root_type roots r ≡ Some u → Named ns ts → IsOfRoot (typing s args) bases r ns ts u
    root_has bases (root.Extent a) u ns ts h e k = subst (λ u. IsOfRoot (typing s args) bases (root.Extent a) ns ts u) (some_same e) (itself s _)
    root_has bases (root.Alias n) u ns ts h e k = is_picked ns ts (name.Alias n) u k e
    root_has bases (root.Base n) u ns ts h e k = base_has bases n u ns ts h e k
    root_has bases (root.Var n) u ns ts h e k = tt
    root_has bases (root.Subject n) u ns ts h e k = tt

    -- the first steps of a path have a type, from which the others lead on
    beginning : (p : Path) (t : Ty) (n : ℕ) → HasPathType p t → (v : Ty) × HasPathType (prefix n p) v × Leads (typing s args) (drop n p.steps) v t
    beginning p t n (u, e, h) =
        let q = parted s typed args None u n p.steps t h in
        (q.0, (u, e, q.1), q.2)

    -- what is found leads on
    abbrev LeadsFrom : Option (Ty × List Step) → Ty → Type 0
    LeadsFrom None t = Unit {0}
    LeadsFrom (Some (v, more)) t = Leads (typing s args) more v t

    near : (k : ℕ) (p : Path) (t : Ty) (ns : List Name) (ts : List Ty) → Named ns ts → HasPathType p t → LeadsFrom (nearest k ns ts p) t
    near zero p t ns ts h path = tt
    near (suc k) p t ns ts h path = by_found (pick ns ts (name.Prefix (prefix k p))) refl (near k p t ns ts h path)
      where
        by_found : (o : Option Ty) → pick ns ts (name.Prefix (prefix k p)) ≡ o → LeadsFrom (nearest k ns ts p) t → LeadsFrom (or_shorter o (drop k p.steps) (nearest k ns ts p)) t
        by_found None e more = more
        by_found (Some v) e more =
            let q = beginning p t k path in
            subst (λ v. Leads (typing s args) (drop k p.steps) v t) (path_one (prefix k p) q.0 v q.1 (picked_has ns ts (name.Prefix (prefix k p)) v h e)) q.2

    from_found : (bases : BaseKinds Ty) (p : Path) (t : Ty) (ns : List Name) (ts : List Ty) → BasesHave bases → Named ns ts → HasPathType p t → (o : Option (Ty × List Step)) → LeadsFrom o t → IsFrom (typing s args) bases p ns ts o t
    from_found bases p t ns ts h k (u, e, w) None l = (u, root_has bases p.root u ns ts h e k, lead_on s typed args None u p.steps t w)
    from_found bases p t ns ts h k path (Some (v, more)) l = l

    path_has : (bases : BaseKinds Ty) (p : Path) (t : Ty) (ns : List Name) (ts : List Ty) → BasesHave bases → Named ns ts → HasPathType p t → IsOfPath (typing s args) bases p ns ts t
    path_has bases p t ns ts h k path = by_end (last_property p.steps) refl
      where
        by_end : (o : Option (PtrId × List ℕ)) → last_property p.steps ≡ o → IsByEnd (typing s args) bases p ns ts o t
        by_end None e = from_found bases p t ns ts h k path (nearest (length p.steps) ns ts p) (near (length p.steps) p t ns ts k path)
        by_end (Some (l, n)) e =
            let source = some_picked (pick ns ts (name.Prefix (prefix (length p.steps - 2) p))) t in
            let target = some_picked (pick ns ts (name.Prefix (prefix (length p.steps - 1) p))) t in
            (source.0, target.0, source.1, target.1, property_leads_on s typed path.0 p.steps t l n path.2 e)

    -- the prefixes of a scope, and the names within it
    pub bound : (bases : BaseKinds Ty) (fs : List Prefix) (ns : List Name) (ts : List Ty) → BasesHave bases → Each (λ (f : Prefix). IsPathTyped f.path) fs → Named ns ts
        → (us : List Ty) × AreBound (typing s args) bases fs ns ts us × Named (within fs ns) (kinds_within us ts)
    bound bases [] ns ts h e k = ([], tt, k)
    bound bases (f ∷ fs) ns ts h e k =
        let u = e.0.0 in
        let q = bound bases fs (name.Prefix f.path ∷ ns) (u ∷ ts) h e.1 (e.0.1, k) in
        (u ∷ q.0, (path_has bases f.path u ns ts h k e.0.1, q.1), q.2)

    -- ---- which prefixes there are

    begun : (p q : Path) (n : ℕ) → p ≡ prefix n q → IsPathTyped q → IsPathTyped p
    begun p q n e h =
        let b = beginning q h.0 n h.1 in
        subst IsPathTyped (sym e) (b.0, b.1)

    -- a prefix that joins begins a direct occurrence
    begun_by_common : (d o p : Path) → is_common p d o ≡ true → IsPathTyped d → IsPathTyped p
    begun_by_common d o p h k =
        let parts = (Decides-and (root_eq d.root o.root) (path_eq p (prefix (alike d.steps o.steps) d)) (same.roots d.root o.root) (same.paths p (prefix (alike d.steps o.steps) d))).0 h in
        begun p d (alike d.steps o.steps) parts.1 k

    either : {C : Type 0} (a b : Bool) → (a || b) ≡ true → (a ≡ true → C) → (b ≡ true → C) → C
    either true b h f g = f refl
    either false b h f g = g h

    with_any : (d : Path) (os : List Occurrence) (p : Path) → list_any (λ (o : Occurrence). is_common p d o.path) os ≡ true → IsPathTyped d → IsPathTyped p
    with_any d [] p h k = absurd cc
    with_any d (o ∷ os) p h k = either (is_common p d o.path) (list_any (λ (o : Occurrence). is_common p d o.path) os) h (λ i. begun_by_common d o.path p i k) (λ i. with_any d os p i k)

    joined : (ds : List Direct) (os : List Occurrence) (p : Path) → Each (λ (d : Direct). IsPathTyped d.occurrence.path) ds → joins ds os p ≡ true → IsPathTyped p
    joined [] os p h e = absurd cc
    joined (d ∷ ds) os p h e =
        either (list_any (λ (o : Occurrence). is_common p d.occurrence.path o.path) os) (joins ds os p) e
        (λ i. with_any d.occurrence.path os p i h.0)
        (λ i. joined ds os p h.1 i)

    abbrev PrefixTyped : Prefix → Type 0
    PrefixTyped f = IsPathTyped f.path

    kept : (k : Prefix → Bool) (fs : List Prefix) → ((f : Prefix) → k f ≡ true → PrefixTyped f) → Each PrefixTyped (filter k fs)
    kept k [] h = tt
    kept k (f ∷ fs) h = by_test (k f) refl (kept k fs h)
      where
        by_test : (b : Bool) → k f ≡ b → Each PrefixTyped (filter k fs) → Each PrefixTyped (if b then f ∷ filter k fs else filter k fs)
        by_test true e more = (h f e, more)
        by_test false e more = more

    each_push : (fs : List Prefix) (f : Prefix) → Each PrefixTyped fs → PrefixTyped f → Each PrefixTyped (fs ++ f ∷ [])
    each_push [] f h p = (p, tt)
    each_push (g ∷ fs) f h p = (h.0, each_push fs f h.1 p)

    each_if : (b : Bool) (found : List Prefix) (f : Prefix) → Each PrefixTyped found → PrefixTyped f → Each PrefixTyped (if b then found else found ++ f ∷ [])
    each_if true found f h p = h
    each_if false found f h p = each_push found f h p

    each_added : (found fs : List Prefix) → Each PrefixTyped found → Each PrefixTyped fs → Each PrefixTyped (added found fs)
    each_added found [] h k = h
    each_added found (f ∷ fs) h k = each_added (if is_listed found f.path then found else found ++ f ∷ []) fs (each_if (is_listed found f.path) found f h k.0) k.1

    -- each prefix of a scope has a type, where its direct occurrences have
    pub prefixes_typed : (ds : List Direct) (os : List Occurrence) (around : List Path) → Each (λ (d : Direct). IsPathTyped d.occurrence.path) ds → Each (λ (f : Prefix). IsPathTyped f.path) (factored ds os around)
    prefixes_typed ds os around h =
        each_added [] (filter (binds ds os around) (flat_map (prefixes_of ds) os)) tt
        (kept (binds ds os around) (flat_map (prefixes_of ds) os) (λ f e. joined ds os f.path h (first_of_two (joins ds os f.path) (not (is_bound around f.path)) e)))
