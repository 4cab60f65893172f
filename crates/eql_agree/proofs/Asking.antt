-- Each tree has the one kind, where it asks for nothing else and its literals are of it.
use Rattle.std.proofs.Common.{◌≡◌, IsTrue, ℕ, zero, suc, ◌+◌, ◌-◌, ◌==◌, ◌&&◌, Bool, true, false, cond, Option, Some, None, List, [], ◌∷◌, ◌++◌, length, map, filter, flat_map, take, drop, slice_get, refl}
use Rattle.ev_value.specs.declared.value.Val.{Val}
use Rattle.core_ir.specs.declared.path.Path.{Path}
use Rattle.core_ir.specs.declared.path.PtrId.{PtrId}
use Rattle.core_ir.specs.declared.path.Root.{Root}
use Rattle.core_ir.specs.declared.path.Root.TheVariants as root
use Rattle.core_ir.specs.declared.path.Step.{Step}
use Rattle.core_ir.specs.declared.path.Step.TheVariants as step
use Rattle.core_ir.specs.declared.tree.Direct.{Direct}
use Rattle.core_ir.specs.declared.tree.Occurrence.{Occurrence}
use Rattle.core_ir.specs.declared.tree.Order.TheVariants as order
use Rattle.core_ir.specs.declared.tree.Expr.{Expr, Row_of-Expr, end_of-Expr, more_of-Expr, Row_of-Scope, end_of-Scope, more_of-Scope, Row_of-Alias, end_of-Alias, more_of-Alias, Row_of-Element, end_of-Element, more_of-Element}
use Rattle.core_ir.specs.declared.tree.Expr as e
use Rattle.core_ir.specs.declared.tree.Select.{Select', Held-Select-filter, None', Some', Row_of-Key, end_of-Key, more_of-Key}
use Rattle.core_ir.specs.declared.tree.Key as key
use Rattle.core_ir.specs.Occurrences.{direct, all, all_of, all_of_scopes, all_of_aliases, all_of_elements, all_of_clause, all_of_keys, all_of_key}
use Rattle.core_ir.specs.Path.{prefix, subject, variable}
use Rattle.path_scope.specs.declared.prefix.Prefix.{Prefix}
use Rattle.path_scope.specs.Factored.{beginnings, prefixes_of, is_listed, added, binds, factored}
use Rattle.eql_sem.specs.declared.binding.Name.{Name}
use Rattle.eql_sem.specs.declared.binding.Name.TheVariants as name
use Rattle.eql_sem.specs.Bindings.{paths_of, pick, or_shorter, nearest, within}
use Rattle.eql_sem.specs.Scopes.{property_of, last_property}
use Rattle.eql_agree.specs.Kinds.{Each}
use Rattle.eql_agree.specs.Kinded.{Says, BaseKinds, IsPicked, kinds_within, Chosen, IsOfBase, Leads, IsOfRoot, IsFrom, IsByEnd, IsOfPath, AreBound, InScope, part_kinds, Has, HasEach, HasAll, base_kinds, kinds_of_bases, HasElements, HasClause, HasSome, HasKeys, HasKey, BehindAliases, HasAsScope}
use Rattle.eql_agree.specs.Agreeing.{IfThere}
use Rattle.eql_agree.specs.Uniform.{Asked, asking, IsAskedRoot, IsAsked, AsksAlone, Literals, LiteralsOf, LiteralsOfScopes, LiteralsOfAliases, LiteralsOfElements, LiteralsOfClause, LiteralsOfKeys, LiteralsOfKey}

abbrev U : Type 0
U = Unit {0}

-- ---- lists

module _ {A : Type 0} (P : A → Type 0) where
  pub each_join : (xs ys : List A) → Each P xs → Each P ys → Each P (xs ++ ys)
  each_join [] ys h r = r
  each_join (x ∷ xs) ys h r = (h.0, each_join xs ys h.1 r)

  pub left_of : (xs ys : List A) → Each P (xs ++ ys) → Each P xs
  left_of [] ys h = tt
  left_of (x ∷ xs) ys h = (h.0, left_of xs ys h.1)

  pub right_of : (xs ys : List A) → Each P (xs ++ ys) → Each P ys
  right_of [] ys h = h
  right_of (x ∷ xs) ys h = right_of xs ys h.1

  each_if : (c : Bool) (xs ys : List A) → Each P xs → Each P ys → Each P (cond c xs ys)
  each_if true xs ys h r = h
  each_if false xs ys h r = r

  each_filter : (f : A → Bool) (xs : List A) → Each P xs → Each P (filter f xs)
  each_filter f [] h = tt
  each_filter f (x ∷ xs) h = each_if (f x) (x ∷ filter f xs) (filter f xs) (h.0, each_filter f xs h.1) (each_filter f xs h.1)

  each_take : (n : ℕ) (xs : List A) → Each P xs → Each P (take n xs)
  each_take zero xs h = tt
  each_take (suc n) [] h = tt
  each_take (suc n) (x ∷ xs) h = (h.0, each_take n xs h.1)

  each_drop : (n : ℕ) (xs : List A) → Each P xs → Each P (drop n xs)
  each_drop zero xs h = h
  each_drop (suc n) [] h = tt
  each_drop (suc n) (x ∷ xs) h = each_drop n xs h.1

  each_get : (xs : List A) (n : ℕ) → Each P xs → IfThere P (slice_get xs n)
  each_get [] n h = tt
  each_get (x ∷ xs) zero h = h.0
  each_get (x ∷ xs) (suc n) h = each_get xs n h.1

each_flat : {A B : Type 0} (P : A → Type 0) (Q : B → Type 0) (f : A → List B) → ((a : A) → P a → Each Q (f a)) → (xs : List A) → Each P xs → Each Q (flat_map f xs)
each_flat P Q f g [] h = tt
each_flat P Q f g (x ∷ xs) h = each_join Q (f x) (flat_map f xs) (g x h.0) (each_flat P Q f g xs h.1)

two_true : (a b : Bool) → IsTrue a → IsTrue b → IsTrue (a && b)
two_true true b h r = r
two_true false b h r = let clash : false ≡ true = h in absurd cc

module _ (p : Val → Bool) (asked : Asked) where
  -- what is asked for, of a step and of an occurrence
  abbrev Ok : Step → Type 0
  Ok s = IsTrue (asked.step s)

  abbrev Occurs : Occurrence → Type 0
  Occurs o = IsAsked asked o.path

  abbrev OfPrefix : Prefix → Type 0
  OfPrefix f = IsAsked asked f.path

  -- ---- factored prefixes begin what occurs

  beginnings_asked : (ds : List Direct) (o : Occurrence) (n m : ℕ) → Occurs o → Each OfPrefix (beginnings ds o n m)
  beginnings_asked ds o n zero h = tt
  beginnings_asked ds o n (suc m) h = ((h.0, each_take Ok n o.path.steps h.1), beginnings_asked ds o (n + 1) m h)

  added_asked : (found more : List Prefix) → Each OfPrefix found → Each OfPrefix more → Each OfPrefix (added found more)
  added_asked found [] h r = h
  added_asked found (f ∷ more) h r =
      added_asked (cond (is_listed found f.path) found (found ++ f ∷ [])) more
      (each_if OfPrefix (is_listed found f.path) found (found ++ f ∷ []) h (each_join OfPrefix found (f ∷ []) h (r.0, tt))) r.1

  factored_asked : (ds : List Direct) (os : List Occurrence) (bound : List Path) → Each Occurs os → Each OfPrefix (factored ds os bound)
  factored_asked ds os bound h =
      added_asked [] (filter (binds ds os bound) (flat_map (prefixes_of ds) os)) tt
      (each_filter OfPrefix (binds ds os bound) (flat_map (prefixes_of ds) os)
      (each_flat Occurs OfPrefix (prefixes_of ds) (λ o r. beginnings_asked ds o 0 (suc (length o.path.steps)) r) os h))

  -- ---- paths

  picked : (o : Option U) (t : U) → IsPicked o t
  picked None t = tt
  picked (Some u) t = refl

  leads : (ss : List Step) (u t : U) → Each Ok ss → Leads (asking p asked) ss u t
  leads [] u t h = refl
  leads (s ∷ ss) u t h = (tt, h.0, leads ss tt t h.1)

  abbrev AllBases : BaseKinds U → Type 0
  AllBases [] = Unit {0}
  AllBases ((n, says) ∷ more) = ((ns : List Name) (ts : List U) (t : U) → says ns ts t) × AllBases more

  all_append : (ks ls : BaseKinds U) → AllBases ks → AllBases ls → AllBases (ks ++ ls)
  all_append [] ls h r = r
  all_append ((n, says) ∷ ks) ls h r = (h.0, all_append ks ls h.1 r)

  choose : (c : Bool) (A B : Type 0) → A → B → Chosen c A B
  choose true A B a b = a
  choose false A B a b = b

  of_base : (ks : BaseKinds U) (m : ℕ) (ns : List Name) (ts : List U) (t : U) → AllBases ks → IsOfBase ks m ns ts t
  of_base [] m ns ts t h = tt
  of_base ((n, says) ∷ ks) m ns ts t h = choose (n == m) (says ns ts t) (IsOfBase ks m ns ts t) (h.0 ns ts t) (of_base ks m ns ts t h.1)

  of_root : (ks : BaseKinds U) (r : Root) (ns : List Name) (ts : List U) (t : U) → AllBases ks → IsAskedRoot asked r → IsOfRoot (asking p asked) ks r ns ts t
  of_root ks (root.Extent x) ns ts t h a = a
  of_root ks (root.Alias n) ns ts t h a = picked (pick ns ts (name.Alias n)) t
  of_root ks (root.Base n) ns ts t h a = of_base ks n ns ts t h
  of_root ks (root.Var n) ns ts t h a = tt
  of_root ks (root.Subject n) ns ts t h a = tt

  abbrev StepsOk : U × List Step → Type 0
  StepsOk x = Each Ok x.1

  shorter_ok : (x : Option U) (ss : List Step) (f : Option (U × List Step)) → Each Ok ss → IfThere StepsOk f → IfThere StepsOk (or_shorter x ss f)
  shorter_ok None ss f h r = r
  shorter_ok (Some u) ss f h r = h

  nearest_ok : (m : ℕ) (ns : List Name) (ts : List U) (q : Path) → Each Ok q.steps → IfThere StepsOk (nearest m ns ts q)
  nearest_ok zero ns ts q h = tt
  nearest_ok (suc m) ns ts q h = shorter_ok (pick ns ts (name.Prefix (prefix m q))) (drop m q.steps) (nearest m ns ts q) (each_drop Ok m q.steps h) (nearest_ok m ns ts q h)

  from : (ks : BaseKinds U) (q : Path) (ns : List Name) (ts : List U) (o : Option (U × List Step)) (t : U) → AllBases ks → IsAsked asked q → IfThere StepsOk o → IsFrom (asking p asked) ks q ns ts o t
  from ks q ns ts None t h a n = (tt, of_root ks q.root ns ts tt h a.0, leads q.steps tt t a.1)
  from ks q ns ts (Some (u, more)) t h a n = leads more u t n

  abbrev IsProperty : PtrId × List ℕ → Type 0
  IsProperty x = IsTrue (asked.step (step.Link x.0) && asked.step (step.LinkProp x.1))

  property_ok : (a b : Option Step) → IfThere Ok a → IfThere Ok b → IfThere IsProperty (property_of a b)
  property_ok (Some (step.Link l)) (Some (step.LinkProp n)) h r = two_true (asked.step (step.Link l)) (asked.step (step.LinkProp n)) h r
  property_ok (Some (step.Link l)) None h r = tt
  property_ok (Some (step.Link l)) (Some (step.Dot n)) h r = tt
  property_ok (Some (step.Link l)) (Some (step.BackDot n t)) h r = tt
  property_ok (Some (step.Link l)) (Some (step.Prop q)) h r = tt
  property_ok (Some (step.Link l)) (Some (step.Link q)) h r = tt
  property_ok (Some (step.Link l)) (Some (step.Comp q)) h r = tt
  property_ok (Some (step.Link l)) (Some (step.Back q t)) h r = tt
  property_ok (Some (step.Link l)) (Some (step.Is t)) h r = tt
  property_ok None b h r = tt
  property_ok (Some (step.Dot n)) b h r = tt
  property_ok (Some (step.BackDot n t)) b h r = tt
  property_ok (Some (step.Prop q)) b h r = tt
  property_ok (Some (step.Comp q)) b h r = tt
  property_ok (Some (step.Back q t)) b h r = tt
  property_ok (Some (step.Is t)) b h r = tt
  property_ok (Some (step.LinkProp n)) b h r = tt

  by_end : (ks : BaseKinds U) (q : Path) (ns : List Name) (ts : List U) (l : Option (PtrId × List ℕ)) (t : U) → AllBases ks → IsAsked asked q → IfThere IsProperty l → IsByEnd (asking p asked) ks q ns ts l t
  by_end ks q ns ts None t h a r = from ks q ns ts (nearest (length q.steps) ns ts q) t h a (nearest_ok (length q.steps) ns ts q a.1)
  by_end ks q ns ts (Some (l, n)) t h a r =
      (tt, tt, picked (pick ns ts (name.Prefix (prefix (length q.steps - 2) q))) tt, picked (pick ns ts (name.Prefix (prefix (length q.steps - 1) q))) tt, r)

  of_path : (ks : BaseKinds U) (q : Path) (ns : List Name) (ts : List U) (t : U) → AllBases ks → IsAsked asked q → IsOfPath (asking p asked) ks q ns ts t
  of_path ks q ns ts t h a =
      by_end ks q ns ts (last_property q.steps) t h a (property_ok (slice_get q.steps (length q.steps - 2)) (slice_get q.steps (length q.steps - 1)) (each_get Ok q.steps (length q.steps - 2) a.1) (each_get Ok q.steps (length q.steps - 1) a.1))

  -- ---- scopes

  units : List Prefix → List U
  units fs = map (λ f. tt) fs

  are_bound : (ks : BaseKinds U) (fs : List Prefix) (ns : List Name) (ts : List U) → AllBases ks → Each OfPrefix fs → AreBound (asking p asked) ks fs ns ts (map (λ f. tt) fs)
  are_bound ks [] ns ts h a = tt
  are_bound ks (f ∷ fs) ns ts h a = (of_path ks f.path ns ts tt h a.0, are_bound ks fs (name.Prefix f.path ∷ ns) (tt ∷ ts) h a.1)

  abbrev HasKind : Expr → Type 0
  HasKind x = (ns : List Name) (ts : List U) (t : U) → Has (asking p asked) x ns ts t

  in_scope : (x : Expr) → Each Occurs (all x) → AllBases (base_kinds (asking p asked) x) → HasKind x → (ns : List Name) (ts : List U) (t : U) → InScope (asking p asked) x (base_kinds (asking p asked) x) (Has (asking p asked) x) ns ts t
  in_scope x os h has ns ts t =
      let fs = factored (direct x false) (all x) (paths_of ns) in
      (map (λ f. tt) fs, are_bound (base_kinds (asking p asked) x) fs ns ts h (factored_asked (direct x false) (all x) (paths_of ns) os), has (within fs ns) (kinds_within (map (λ f. tt) fs) ts) t)

  -- what the parts of a tree ask for
  abbrev Os : List Occurrence → Type 0
  Os os = Each Occurs os

  abbrev AliasesKind : {m : _} → Row_of-Alias m → Type 0
  AliasesKind end_of-Alias = Unit {0}
  AliasesKind (more_of-Alias n _ _ _ (more_of-Expr x end_of-Expr) rest) =
      ((ns : List Name) (ts : List U) (t : U) → InScope (asking p asked) x (base_kinds (asking p asked) x) (Has (asking p asked) x) ns ts t) × AliasesKind rest

  behind_kind : {m : _} (xs : Row_of-Alias m) (says : Says U) → AliasesKind xs → ((ns : List Name) (ts : List U) → says ns ts) → (ns : List Name) (ts : List U) → BehindAliases (asking p asked) xs says ns ts
  unfolding Has
  behind_kind end_of-Alias says on h ns ts = h ns ts
  behind_kind (more_of-Alias n _ _ _ (more_of-Expr x end_of-Expr) rest) says on h ns ts = (tt, on.0 ns ts tt, behind_kind rest says on.1 h (name.Alias n ∷ ns) (tt ∷ ts))

  mutual
    unfolding Has all direct Literals

    pub has_kind : (x : Expr) → Each Occurs (all x) → Literals p x → HasKind x
    has_kind (e.Literal _ v) os l ns ts t = l
    has_kind (e.Param _ q) os l ns ts t = refl
    has_kind (e.Global _ n) os l ns ts t = refl
    has_kind (e.Path _ o) os l ns ts t = picked (pick ns ts (name.Prefix o.path)) t
    has_kind (e.OnBase' _ _ _ _ base o) os l ns ts t = picked (pick ns ts (name.Prefix o.path)) t
    has_kind (e.Operation' _ op _ xs) os l ns ts t = (part_kinds (asking p asked) xs tt 0, each_kind xs os l ns ts tt 0, refl)
    has_kind (e.Plus' _ _ (more_of-Expr x end_of-Expr)) os l ns ts t = has_kind x (left_of Occurs (all x) [] os) l.0 ns ts t
    has_kind (e.Cast' _ ty _ (more_of-Expr x end_of-Expr)) os l ns ts t = (tt, has_kind x (left_of Occurs (all x) [] os) l.0 ns ts tt, refl)
    has_kind (e.Tuple' _ _ xs) os l ns ts t = (each_kind xs os l ns ts t 0, refl)
    has_kind (e.OptionalEqual' _ negated _ (more_of-Expr x end_of-Expr) _ (more_of-Expr y end_of-Expr)) os l ns ts t =
        (tt, tt, has_kind x (left_of Occurs (all x) [] (left_of Occurs (all x ++ []) (all y ++ []) os)) l.0.0 ns ts tt, has_kind y (left_of Occurs (all y) [] (right_of Occurs (all x ++ []) (all y ++ []) os)) l.1.0 ns ts tt, refl)
    has_kind (e.In' _ negated _ (more_of-Expr x end_of-Expr) _ _ _ (more_of-Expr y end_of-Expr)) os l ns ts t =
        let r = left_of Occurs (all y) [] (right_of Occurs (all x ++ []) (all y ++ []) os) in
        (tt, tt, has_kind x (left_of Occurs (all x) [] (left_of Occurs (all x ++ []) (all y ++ []) os)) l.0.0 ns ts tt, in_scope y r (bases_kind y r l.1.0) (has_kind y r l.1.0) ns ts tt, refl)
    has_kind (e.OfSet' _ f _ _ _ (more_of-Expr y end_of-Expr)) os l ns ts t =
        let r = left_of Occurs (all y) [] os in (tt, in_scope y r (bases_kind y r l.0) (has_kind y r l.0) ns ts tt, refl)
    has_kind (e.Union' _ _ _ _ (more_of-Expr x end_of-Expr) _ _ _ (more_of-Expr y end_of-Expr)) os l ns ts t =
        let q = left_of Occurs (all x) [] (left_of Occurs (all x ++ []) (all y ++ []) os) in
        let r = left_of Occurs (all y) [] (right_of Occurs (all x ++ []) (all y ++ []) os) in
        ((tt, in_scope x q (bases_kind x q l.0.0) (has_kind x q l.0.0) ns ts tt, refl), (tt, in_scope y r (bases_kind y r l.1.0) (has_kind y r l.1.0) ns ts tt, refl))
    has_kind (e.Set' _ _ xs) os l ns ts t = all_kind xs os l ns ts t
    has_kind (e.Coalesce' _ _ (more_of-Expr x end_of-Expr) _ _ _ (more_of-Expr y end_of-Expr)) os l ns ts t =
        let r = left_of Occurs (all y) [] (right_of Occurs (all x ++ []) (all y ++ []) os) in
        ((tt, has_kind x (left_of Occurs (all x) [] (left_of Occurs (all x ++ []) (all y ++ []) os)) l.0.0 ns ts tt, refl), (tt, in_scope y r (bases_kind y r l.1.0) (has_kind y r l.1.0) ns ts tt, refl))
    has_kind (e.If' _ order.ValueFirst _ (more_of-Expr c end_of-Expr) _ _ _ (more_of-Expr x end_of-Expr) _ _ _ (more_of-Expr y end_of-Expr)) os l ns ts t =
        let first = left_of Occurs ((all x ++ []) ++ (all c ++ [])) (all y ++ []) os in
        let q = left_of Occurs (all x) [] (left_of Occurs (all x ++ []) (all c ++ []) first) in
        let a = left_of Occurs (all c) [] (right_of Occurs (all x ++ []) (all c ++ []) first) in
        let r = left_of Occurs (all y) [] (right_of Occurs ((all x ++ []) ++ (all c ++ [])) (all y ++ []) os) in
        (tt, has_kind c a l.0.0 ns ts tt, (tt, in_scope x q (bases_kind x q l.1.0) (has_kind x q l.1.0) ns ts tt, refl), (tt, in_scope y r (bases_kind y r l.2.0) (has_kind y r l.2.0) ns ts tt, refl))
    has_kind (e.If' _ order.ConditionFirst _ (more_of-Expr c end_of-Expr) _ _ _ (more_of-Expr x end_of-Expr) _ _ _ (more_of-Expr y end_of-Expr)) os l ns ts t =
        let first = left_of Occurs ((all c ++ []) ++ (all x ++ [])) (all y ++ []) os in
        let a = left_of Occurs (all c) [] (left_of Occurs (all c ++ []) (all x ++ []) first) in
        let q = left_of Occurs (all x) [] (right_of Occurs (all c ++ []) (all x ++ []) first) in
        let r = left_of Occurs (all y) [] (right_of Occurs ((all c ++ []) ++ (all x ++ [])) (all y ++ []) os) in
        (tt, has_kind c a l.0.0 ns ts tt, (tt, in_scope x q (bases_kind x q l.1.0) (has_kind x q l.1.0) ns ts tt, refl), (tt, in_scope y r (bases_kind y r l.2.0) (has_kind y r l.2.0) ns ts tt, refl))
    has_kind (e.Shaped' _ _ (more_of-Expr x end_of-Expr) _ n _ elements) os l ns ts t =
        (has_kind x (left_of Occurs (all x) [] (left_of Occurs (all x ++ []) (all_of_elements elements) os)) l.0.0 ns ts t, elements_kind elements (right_of Occurs (all x ++ []) (all_of_elements elements) os) l.1 (name.Prefix (subject n) ∷ ns) (t ∷ ts))
    has_kind (e.Select' _ _ aliases (Select' _ (more_of-Expr x end_of-Expr) _ n clause _ keys offset limit)) os l ns ts t =
        let own = ((all x ++ []) ++ all_of_clause clause) ++ all_of_keys keys in
        let before = all_of_aliases aliases ++ own in
        let most = left_of Occurs (before ++ all_of_clause offset) (all_of_clause limit) os in
        let inner = left_of Occurs before (all_of_clause offset) most in
        let here = left_of Occurs (all_of_aliases aliases) own inner in
        let inside = right_of Occurs (all_of_aliases aliases) own inner in
        let first = left_of Occurs ((all x ++ []) ++ all_of_clause clause) (all_of_keys keys) inside in
        let q = left_of Occurs (all x) [] (left_of Occurs (all x ++ []) (all_of_clause clause) first) in
        let c = right_of Occurs (all x ++ []) (all_of_clause clause) first in
        let ks = right_of Occurs ((all x ++ []) ++ all_of_clause clause) (all_of_keys keys) inside in
        behind_kind aliases _ (aliases_kind aliases here l.0)
        (λ ms us.
        let fs = factored (direct x false) (all x ++ all_of_clause clause ++ all_of_keys keys) (paths_of ms) in
        let us' = kinds_within (map (λ f. tt) fs) us in (
          clause_kind offset (right_of Occurs before (all_of_clause offset) most) l.4 ms us,
          clause_kind limit (right_of Occurs (before ++ all_of_clause offset) (all_of_clause limit) os) l.5 ms us,
          (
            map (λ f. tt) fs,
            are_bound (base_kinds (asking p asked) x) fs ms us (bases_kind x q l.1.0) (factored_asked (direct x false) (all x ++ all_of_clause clause ++ all_of_keys keys) (paths_of ms) (each_join Occurs (all x ++ all_of_clause clause) (all_of_keys keys) (each_join Occurs (all x) (all_of_clause clause) q c) ks)),
            (
              has_kind x q l.1.0 (within fs ms) us' t,
              clause_kind clause c l.2 (name.Prefix (subject n) ∷ within fs ms) (t ∷ us'),
              keys_kind keys ks l.3 (name.Prefix (subject n) ∷ within fs ms) (t ∷ us'),
            ),
          ),
        ))
        ns ts
    has_kind (e.For' _ _ aliases n _ _ _ (more_of-Expr x end_of-Expr) _ _ _ (more_of-Expr y end_of-Expr)) os l ns ts t =
        let first = left_of Occurs (all_of_aliases aliases ++ (all x ++ [])) (all y ++ []) os in
        let here = left_of Occurs (all_of_aliases aliases) (all x ++ []) first in
        let q = left_of Occurs (all x) [] (right_of Occurs (all_of_aliases aliases) (all x ++ []) first) in
        let r = left_of Occurs (all y) [] (right_of Occurs (all_of_aliases aliases ++ (all x ++ [])) (all y ++ []) os) in
        behind_kind aliases _ (aliases_kind aliases here l.0)
        (λ ms us. (tt, in_scope x q (bases_kind x q l.1.0) (has_kind x q l.1.0) ms us tt, in_scope y r (bases_kind y r l.2.0) (has_kind y r l.2.0) (name.Prefix (variable n) ∷ ms) (tt ∷ us) t))
        ns ts
    has_kind (e.Array' _ _ _ xs) os l ns ts t = (part_kinds (asking p asked) xs tt 0, each_kind xs os l ns ts tt 0, refl)
    has_kind (e.ArrayCast' _ _ _ (more_of-Expr x end_of-Expr)) os l ns ts t = has_kind x (left_of Occurs (all x) [] os) l.0 ns ts t
    has_kind (e.Unpack' _ _ (more_of-Expr x end_of-Expr)) os l ns ts t = (tt, has_kind x (left_of Occurs (all x) [] os) l.0 ns ts tt, refl)
    has_kind (e.EmptySet _ _) os l ns ts t = tt
    has_kind (e.Unfit' _ _ _ _ _) os l ns ts t = tt

    each_kind : {m : _} (xs : Row_of-Expr m) → Each Occurs (all_of xs) → LiteralsOf p xs → (ns : List Name) (ts : List U) (t : U) (i : ℕ) → HasEach (asking p asked) xs ns ts (part_kinds (asking p asked) xs t i)
    each_kind end_of-Expr os l ns ts t i = tt
    each_kind (more_of-Expr x rest) os l ns ts t i = (has_kind x (left_of Occurs (all x) (all_of rest) os) l.0 ns ts tt, each_kind rest (right_of Occurs (all x) (all_of rest) os) l.1 ns ts t (suc i))

    all_kind : {m : _} (xs : Row_of-Scope m) → Each Occurs (all_of_scopes xs) → LiteralsOfScopes p xs → (ns : List Name) (ts : List U) (t : U) → HasAll (asking p asked) xs ns ts t
    all_kind end_of-Scope os l ns ts t = tt
    all_kind (more_of-Scope _ _ _ (more_of-Expr x end_of-Expr) rest) os l ns ts t =
        let q = left_of Occurs (all x) [] (left_of Occurs (all x ++ []) (all_of_scopes rest) os) in
        ((tt, in_scope x q (bases_kind x q l.0.0) (has_kind x q l.0.0) ns ts tt, refl), all_kind rest (right_of Occurs (all x ++ []) (all_of_scopes rest) os) l.1 ns ts t)

    some_kind : {m : _} (xs : Row_of-Scope m) → Each Occurs (all_of_scopes xs) → LiteralsOfScopes p xs → (ns : List Name) (ts : List U) → HasSome (asking p asked) xs ns ts
    some_kind end_of-Scope os l ns ts = tt
    some_kind (more_of-Scope _ _ _ (more_of-Expr x end_of-Expr) rest) os l ns ts =
        let q = left_of Occurs (all x) [] (left_of Occurs (all x ++ []) (all_of_scopes rest) os) in
        ((tt, in_scope x q (bases_kind x q l.0.0) (has_kind x q l.0.0) ns ts tt), some_kind rest (right_of Occurs (all x ++ []) (all_of_scopes rest) os) l.1 ns ts)

    elements_kind : {m : _} (xs : Row_of-Element m) → Each Occurs (all_of_elements xs) → LiteralsOfElements p xs → (ns : List Name) (ts : List U) → HasElements (asking p asked) xs ns ts
    elements_kind end_of-Element os l ns ts = tt
    elements_kind (more_of-Element _ n _ _ _ _ _ _ _ (more_of-Expr x end_of-Expr) rest) os l ns ts =
        let q = left_of Occurs (all x) [] (left_of Occurs (all x ++ []) (all_of_elements rest) os) in
        ((tt, in_scope x q (bases_kind x q l.0.0) (has_kind x q l.0.0) ns ts tt), elements_kind rest (right_of Occurs (all x ++ []) (all_of_elements rest) os) l.1 ns ts)

    clause_kind : (c : Held-Select-filter) → Each Occurs (all_of_clause c) → LiteralsOfClause p c → (ns : List Name) (ts : List U) → HasClause (asking p asked) c ns ts
    clause_kind None' os l ns ts = tt
    clause_kind (Some' _ x) os l ns ts = some_kind x os l ns ts

    keys_kind : {m : _} (xs : Row_of-Key m) → Each Occurs (all_of_keys xs) → LiteralsOfKeys p xs → (ns : List Name) (ts : List U) → HasKeys (asking p asked) xs ns ts
    keys_kind end_of-Key os l ns ts = tt
    keys_kind (more_of-Key x rest) os l ns ts = (key_kind x (left_of Occurs (all_of_key x) (all_of_keys rest) os) l.0 ns ts, keys_kind rest (right_of Occurs (all_of_key x) (all_of_keys rest) os) l.1 ns ts)

    key_kind : (x : key.Key) → Each Occurs (all_of_key x) → LiteralsOfKey p x → (ns : List Name) (ts : List U) → HasKey (asking p asked) x ns ts
    key_kind (key.Ascending' _ _ _ _ (more_of-Expr x end_of-Expr)) os l ns ts = let q = left_of Occurs (all x) [] os in (tt, in_scope x q (bases_kind x q l.0) (has_kind x q l.0) ns ts tt)
    key_kind (key.Descending' _ _ _ _ (more_of-Expr x end_of-Expr)) os l ns ts = let q = left_of Occurs (all x) [] os in (tt, in_scope x q (bases_kind x q l.0) (has_kind x q l.0) ns ts tt)

    aliases_kind : {m : _} (xs : Row_of-Alias m) → Each Occurs (all_of_aliases xs) → LiteralsOfAliases p xs → AliasesKind xs
    aliases_kind end_of-Alias os l = tt
    aliases_kind (more_of-Alias n _ _ _ (more_of-Expr x end_of-Expr) rest) os l =
        let q = left_of Occurs (all x) [] (left_of Occurs (all x ++ []) (all_of_aliases rest) os) in
        (in_scope x q (bases_kind x q l.0.0) (has_kind x q l.0.0), aliases_kind rest (right_of Occurs (all x ++ []) (all_of_aliases rest) os) l.1)

    bases_kind : (x : Expr) → Each Occurs (all x) → Literals p x → AllBases (base_kinds (asking p asked) x)
    bases_kind (e.OnBase' _ _ _ _ (more_of-Expr x end_of-Expr) o) os l =
        let q = left_of Occurs (all x) [] (left_of Occurs (all x ++ []) (o ∷ []) os) in (in_scope x q (bases_kind x q l.0) (has_kind x q l.0), tt)
    bases_kind (e.Operation' _ _ _ xs) os l = rows_kind xs os l
    bases_kind (e.Plus' _ _ x) os l = rows_kind x os l
    bases_kind (e.Cast' _ _ _ x) os l = rows_kind x os l
    bases_kind (e.Tuple' _ _ xs) os l = rows_kind xs os l
    bases_kind (e.OptionalEqual' _ _ _ x _ y) os l =
        all_append (kinds_of_bases (asking p asked) x) (kinds_of_bases (asking p asked) y) (rows_kind x (left_of Occurs (all_of x) (all_of y) os) l.0) (rows_kind y (right_of Occurs (all_of x) (all_of y) os) l.1)
    bases_kind (e.In' _ _ _ x _ _ _ set) os l = rows_kind x (left_of Occurs (all_of x) (all_of set) os) l.0
    bases_kind (e.Coalesce' _ _ x _ _ _ y) os l = rows_kind x (left_of Occurs (all_of x) (all_of y) os) l.0
    bases_kind (e.If' _ order.ValueFirst _ c _ _ _ x _ _ _ y) os l = rows_kind c (right_of Occurs (all_of x) (all_of c) (left_of Occurs (all_of x ++ all_of c) (all_of y) os)) l.0
    bases_kind (e.If' _ order.ConditionFirst _ c _ _ _ x _ _ _ y) os l = rows_kind c (left_of Occurs (all_of c) (all_of x) (left_of Occurs (all_of c ++ all_of x) (all_of y) os)) l.0
    bases_kind (e.Shaped' _ _ x _ _ _ elements) os l = rows_kind x (left_of Occurs (all_of x) (all_of_elements elements) os) l.0
    bases_kind (e.Array' _ _ _ xs) os l = rows_kind xs os l
    bases_kind (e.ArrayCast' _ _ _ x) os l = rows_kind x os l
    bases_kind (e.Unpack' _ _ x) os l = rows_kind x os l
    bases_kind (e.Unfit' _ _ _ _ xs) os l = rows_kind xs os l
    bases_kind (e.EmptySet _ _) os l = tt
    bases_kind (e.Literal _ v) os l = tt
    bases_kind (e.Param _ q) os l = tt
    bases_kind (e.Global _ n) os l = tt
    bases_kind (e.Path _ o) os l = tt
    bases_kind (e.OfSet' _ _ _ _ _ _) os l = tt
    bases_kind (e.Union' _ _ _ _ _ _ _ _ _) os l = tt
    bases_kind (e.Set' _ _ _) os l = tt
    bases_kind (e.Select' _ _ _ _) os l = tt
    bases_kind (e.For' _ _ _ _ _ _ _ _ _ _ _ _) os l = tt

    rows_kind : {m : _} (xs : Row_of-Expr m) → Each Occurs (all_of xs) → LiteralsOf p xs → AllBases (kinds_of_bases (asking p asked) xs)
    rows_kind end_of-Expr os l = tt
    rows_kind (more_of-Expr x rest) os l =
        all_append (base_kinds (asking p asked) x) (kinds_of_bases (asking p asked) rest) (bases_kind x (left_of Occurs (all x) (all_of rest) os) l.0) (rows_kind rest (right_of Occurs (all x) (all_of rest) os) l.1)

  -- a scope that asks for nothing else has the kind
  pub scope_has : (x : Expr) → AsksAlone asked x → Literals p x → (ns : List Name) (ts : List U) (t : U) → HasAsScope (asking p asked) x ns ts t
  scope_has x os l = in_scope x os (bases_kind x os l) (has_kind x os l)
