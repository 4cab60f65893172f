-- The factored prefixes are the longest common prefixes that are not bound, each once.
use Rattle.std.proofs.Common.{◌≡◌, ℕ, zero, suc, ◌+◌, ◌<◌, Bool, true, false, not, ◌&&◌, ◌||◌, List, [], ◌∷◌, ◌++◌, length, get_or, IsTrue, ◌↔◌, refl, sym, ap, ◌∙◌, arith, if◌then◌else◌}
use Rattle.std.specs.Prelude.{◌≢◌, AllPairs}
use Rattle.std.specs.List.{Any, All, filter, flat_map, list_any}
use Rattle.std.proofs.lemmas.List.{length-take}
use Rattle.std.proofs.lemmas.List.Elements.{All-nil, All-cons, All-push, All-append}
use Rattle.std.proofs.lemmas.List.Folds.{list_any-append, Any-from_list_any, list_any-from_Any, list_any_at}
use Rattle.std.proofs.lemmas.List.Quantifiers.{all_pairs_push}
use Rattle.core_ir.specs.declared.path.Path.{Path}
use Rattle.core_ir.specs.declared.tree.Direct.{Direct}
use Rattle.core_ir.specs.declared.tree.Occurrence.{Occurrence}
use Rattle.core_ir.specs.Path.{path_eq, prefix, begins}
use Rattle.core_ir.proofs.Paths.{paths}
use Rattle.path_scope.specs.declared.prefix.Prefix.{Prefix}
use Rattle.path_scope.specs.Factored.{is_common, joins, is_optional, is_bound, is_listed, binds, prefix_at, beginnings, prefixes_of, added, factored}
use Rattle.path_scope.specs.FactoredLaw.{IsLongestCommon, Joins, IsAmong}
use Rattle.path_scope.proofs.Common.{is_longest, is_common_by, starts}

same_path : (p : Path) → path_eq p p ≡ true
same_path p = (paths p p).1 refl

or_shift : (f e x : Bool) → ((f || (e || false)) || x) ≡ (f || (e || x))
or_shift true e x = refl
or_shift false true x = refl
or_shift false false x = refl

-- a path that is listed already adds nothing
absorbed : (found : List Prefix) (q p : Path) (e x : Bool) → is_listed found q ≡ true → path_eq p q ≡ e → (is_listed found p || x) ≡ (is_listed found p || (e || x))
absorbed found q p true x h e =
    let at : is_listed found p ≡ true = ap (is_listed found) ((paths p q).0 e) ∙ h in
    rw at refl
absorbed found q p false x h e = refl

more_listed : (b : Bool) (found : List Prefix) (f : Prefix) (xs : List Prefix) (p : Path)
    → ((fs : List Prefix) → is_listed (added fs xs) p ≡ (is_listed fs p || is_listed xs p)) → is_listed found f.path ≡ b
    → is_listed (added (if b then found else found ++ f ∷ []) xs) p ≡ (is_listed found p || (path_eq p f.path || is_listed xs p))
more_listed true found f xs p ih h = ih found ∙ absorbed found f.path p (path_eq p f.path) (is_listed xs p) h refl
more_listed false found f xs p ih h =
    ih (found ++ f ∷ []) ∙ ap (λ b. b || is_listed xs p) (list_any-append (λ (g : Prefix). path_eq p g.path) found (f ∷ []))
    ∙ or_shift (is_listed found p) (path_eq p f.path) (is_listed xs p)

or_none : (b : Bool) → b ≡ (b || false)
or_none true = refl
or_none false = refl

listed_added : (found xs : List Prefix) (p : Path) → is_listed (added found xs) p ≡ (is_listed found p || is_listed xs p)
listed_added found [] p = or_none (is_listed found p)
listed_added found (f ∷ xs) p = more_listed (is_listed found f.path) found f xs p (λ fs. listed_added fs xs p) refl

-- what is kept by its path
module _ (k : Path → Bool) where
  keep : Prefix → Bool
  keep f = k f.path

  kept : (b e : Bool) (q p : Path) (r l : Bool) → k q ≡ b → path_eq p q ≡ e → r ≡ (k p && l) → (if b then e || r else r) ≡ (k p && (e || l))
  kept true true q p r l h e ih = let at : k p ≡ true = ap k ((paths p q).0 e) ∙ h in rw at refl
  kept false true q p r l h e ih = let at : k p ≡ false = ap k ((paths p q).0 e) ∙ h in ih ∙ rw at refl
  kept true false q p r l h e ih = ih
  kept false false q p r l h e ih = ih

  choose : (b : Bool) (f : Prefix) (xs : List Prefix) (p : Path) → is_listed (if b then f ∷ xs else xs) p ≡ (if b then path_eq p f.path || is_listed xs p else is_listed xs p)
  choose true f xs p = refl
  choose false f xs p = refl

  and_none : (b : Bool) → false ≡ (b && false)
  and_none true = refl
  and_none false = refl

  listed_kept : (xs : List Prefix) (p : Path) → is_listed (filter (λ (f : Prefix). k f.path) xs) p ≡ (k p && is_listed xs p)
  listed_kept [] p = and_none (k p)
  listed_kept (f ∷ xs) p =
      choose (k f.path) f (filter (λ (f : Prefix). k f.path) xs) p
      ∙ kept (k f.path) (path_eq p f.path) f.path p (is_listed (filter (λ (f : Prefix). k f.path) xs) p) (is_listed xs p) refl refl (listed_kept xs p)

-- all that an occurrence begins with is listed
or_left : (a b : Bool) → a ≡ true → (a || b) ≡ true
or_left true b h = refl
or_left false b h = absurd cc

or_right : (a b : Bool) → b ≡ true → (a || b) ≡ true
or_right true b h = refl
or_right false b h = h

begins_here : (ds : List Direct) (o : Occurrence) (n m j : ℕ) → j < m → is_listed (beginnings ds o n m) (prefix (n + j) o.path) ≡ true
begins_here ds o n zero j h = absurd (omega arith)
begins_here ds o n (suc m) zero h =
    let none : n + 0 ≡ n = omega arith in
    or_left (path_eq (prefix (n + 0) o.path) (prefix n o.path)) (is_listed (beginnings ds o (n + 1) m) (prefix (n + 0) o.path)) (rw none (same_path (prefix n o.path)))
begins_here ds o n (suc m) (suc j) h =
    let next : n + suc j ≡ n + 1 + j = omega arith in
    let less : j < m = omega arith in
    or_right (path_eq (prefix (n + suc j) o.path) (prefix n o.path)) (is_listed (beginnings ds o (n + 1) m) (prefix (n + suc j) o.path))
    (ap (λ k. is_listed (beginnings ds o (n + 1) m) (prefix k o.path)) next ∙ begins_here ds o (n + 1) m j less)

begun_listed : (ds : List Direct) (o : Occurrence) (p : Path) → IsTrue (begins p o.path) → is_listed (prefixes_of ds o) p ≡ true
begun_listed ds o p h =
    let e : p ≡ prefix (length p.steps) o.path = starts p o.path h in
    let long = ap (λ (q : Path). length q.steps) e in
    let less : length p.steps < suc (length o.path.steps) = omega (arith, long, length-take (length p.steps) o.path.steps) in
    let none : 0 + length p.steps ≡ length p.steps = omega arith in
    ap (is_listed (prefixes_of ds o)) (e ∙ sym (ap (λ k. prefix k o.path) none)) ∙ begins_here ds o 0 (suc (length o.path.steps)) (length p.steps) less

listed_in_all : (g : Occurrence → List Prefix) (os : List Occurrence) (p : Path) → is_listed (flat_map g os) p ≡ list_any (λ o. is_listed (g o) p) os
listed_in_all g [] p = refl
listed_in_all g (o ∷ os) p = list_any-append (λ (f : Prefix). path_eq p f.path) (g o) (flat_map g os) ∙ ap (λ b. is_listed (g o) p || b) (listed_in_all g os p)

any_weaker : {X : Type 0} (P Q : X → Type 0) (xs : List X) → ((x : X) → P x → Q x) → Any P xs → Any Q xs
any_weaker P Q xs h found = (found.0, found.1, found.2, found.3, h found.1 found.4)

-- what joins a direct occurrence and an occurrence, by the test and by its meaning
joins_means : (ds : List Direct) (os : List Occurrence) (p : Path) → joins ds os p ≡ true → Joins ds os p
joins_means ds os p h =
    any_weaker (λ (d : Direct). list_any (λ (o : Occurrence). is_common p d.occurrence.path o.path) os ≡ true) _ ds
    (λ d one. any_weaker (λ (o : Occurrence). is_common p d.occurrence.path o.path ≡ true) (λ (o : Occurrence). IsLongestCommon p d.occurrence.path o.path) os
    (λ o it. is_longest p d.occurrence.path o.path it) (Any-from_list_any (λ (o : Occurrence). is_common p d.occurrence.path o.path) os one))
    (Any-from_list_any (λ (d : Direct). list_any (λ (o : Occurrence). is_common p d.occurrence.path o.path) os) ds h)

joins_test : (ds : List Direct) (os : List Occurrence) (p : Path) → Joins ds os p → joins ds os p ≡ true
joins_test ds os p h =
    list_any-from_Any (λ (d : Direct). list_any (λ (o : Occurrence). is_common p d.occurrence.path o.path) os) ds
    (any_weaker (λ (d : Direct). Any (λ (o : Occurrence). IsLongestCommon p d.occurrence.path o.path) os) (λ (d : Direct). list_any (λ (o : Occurrence). is_common p d.occurrence.path o.path) os ≡ true) ds
    (λ d one. list_any-from_Any (λ (o : Occurrence). is_common p d.occurrence.path o.path) os
    (any_weaker (λ (o : Occurrence). IsLongestCommon p d.occurrence.path o.path) (λ (o : Occurrence). is_common p d.occurrence.path o.path ≡ true) os
    (λ o it. is_common_by p d.occurrence.path o.path it) one)) h)

joins_listed : (ds : List Direct) (os : List Occurrence) (p : Path) → Joins ds os p → is_listed (flat_map (prefixes_of ds) os) p ≡ true
joins_listed ds os p h =
    listed_in_all (prefixes_of ds) os p
    ∙ list_any-from_Any (λ o. is_listed (prefixes_of ds o) p) os
    (any_weaker (λ (o : Occurrence). IsLongestCommon p h.1.occurrence.path o.path) (λ (o : Occurrence). is_listed (prefixes_of ds o) p ≡ true) os
    (λ o it. begun_listed ds o p it.1) h.4)

test : (ds : List Direct) (os : List Occurrence) (bound : List Path) (p : Path)
    → is_listed (factored ds os bound) p ≡ ((joins ds os p && not (is_bound bound p)) && is_listed (flat_map (prefixes_of ds) os) p)
test ds os bound p =
    listed_added [] (filter (binds ds os bound) (flat_map (prefixes_of ds) os)) p
    ∙ listed_kept (λ q. joins ds os q && not (is_bound bound q)) (flat_map (prefixes_of ds) os) p

and_parts : (a b c : Bool) → ((a && not b) && c) ≡ true → (a ≡ true) × (b ≡ false)
and_parts true true c h = absurd cc
and_parts true false c h = (refl, refl)
and_parts false b c h = absurd cc

and_whole : (a b c : Bool) → a ≡ true → b ≡ false → c ≡ true → ((a && not b) && c) ≡ true
and_whole a b c h i j = rw (h, i, j) refl

unbound : (b : Bool) → (b ≡ true → ⊥) → b ≡ false
unbound true h = absurd (h refl)
unbound false h = refl

pub listed : (ds : List Direct) (os : List Occurrence) (bound : List Path) (p : Path)
    → IsAmong (factored ds os bound) p ↔ (Joins ds os p × (Any (λ (q : Path). p ≡ q) bound → ⊥))
listed ds os bound p = (
  λ among.
      let at : is_listed (factored ds os bound) p ≡ true =
      list_any-from_Any (λ (f : Prefix). path_eq p f.path) (factored ds os bound) (any_weaker (λ (f : Prefix). p ≡ f.path) (λ (f : Prefix). path_eq p f.path ≡ true) (factored ds os bound) (λ f e. (paths p f.path).1 e) among) in
      let parts = and_parts (joins ds os p) (is_bound bound p) (is_listed (flat_map (prefixes_of ds) os) p) (sym (test ds os bound p) ∙ at) in (
        joins_means ds os p parts.0,
        λ among_bound.
            let clash : true ≡ false =
            sym (list_any-from_Any (path_eq p) bound (any_weaker (λ (q : Path). p ≡ q) (λ (q : Path). path_eq p q ≡ true) bound (λ q e. (paths p q).1 e) among_bound)) ∙ parts.1 in
            absurd cc,
      ),
  λ h.
      let at : is_listed (factored ds os bound) p ≡ true =
      test ds os bound p ∙ and_whole (joins ds os p) (is_bound bound p) (is_listed (flat_map (prefixes_of ds) os) p) (joins_test ds os p h.0)
      (unbound (is_bound bound p) (λ e. h.1 (any_weaker (λ (q : Path). path_eq p q ≡ true) (λ (q : Path). p ≡ q) bound (λ q it. (paths p q).0 it) (Any-from_list_any (path_eq p) bound e))))
      (joins_listed ds os p h.0) in
      any_weaker (λ (f : Prefix). path_eq p f.path ≡ true) (λ (f : Prefix). p ≡ f.path) (factored ds os bound) (λ f it. (paths p f.path).0 it) (Any-from_list_any (λ (f : Prefix). path_eq p f.path) (factored ds os bound) at),
)

-- each path is listed once
abbrev Apart : Prefix → Prefix → Type 0
Apart f g = f.path ≢ g.path

apart_by : (b : Bool) (found : List Prefix) (f : Prefix) → is_listed found f.path ≡ b → AllPairs Apart found → AllPairs Apart (if b then found else found ++ f ∷ [])
apart_by true found f h apart = apart
apart_by false found f h apart =
    all_pairs_push Apart found f apart (λ k d lt same.
    let clash : true ≡ false = sym (list_any_at (λ (g : Prefix). path_eq f.path g.path) found k d lt ((paths f.path (get_or found k d).path).1 (sym same))) ∙ h in
    absurd cc)

apart_added : (found xs : List Prefix) → AllPairs Apart found → AllPairs Apart (added found xs)
apart_added found [] apart = apart
apart_added found (f ∷ xs) apart = apart_added (if is_listed found f.path then found else found ++ f ∷ []) xs (apart_by (is_listed found f.path) found f refl apart)

pub once : (ds : List Direct) (os : List Occurrence) (bound : List Path) → AllPairs (λ (f g : Prefix). f.path ≢ g.path) (factored ds os bound)
once ds os bound = apart_added [] (filter (binds ds os bound) (flat_map (prefixes_of ds) os)) (λ i j d lt less. absurd (omega arith))

-- each is optional by the rule
module _ (P : Prefix → Type 0) where
  all_by : (b : Bool) (found : List Prefix) (f : Prefix) → All P found → P f → All P (if b then found else found ++ f ∷ [])
  all_by true found f h p = h
  all_by false found f h p = All-push P found f h p

  all_added : (found xs : List Prefix) → All P found → All P xs → All P (added found xs)
  all_added found [] h more = h
  all_added found (f ∷ xs) h more =
      all_added (if is_listed found f.path then found else found ++ f ∷ []) xs (all_by (is_listed found f.path) found f h (more 0 f (omega arith))) (λ k d lt. more (suc k) d (omega arith))

  all_chosen : (b : Bool) (f : Prefix) (xs : List Prefix) → P f → All P xs → All P (if b then f ∷ xs else xs)
  all_chosen true f xs p h = All-cons P f xs p h
  all_chosen false f xs p h = h

  all_kept : (k : Prefix → Bool) (xs : List Prefix) → All P xs → All P (filter k xs)
  all_kept k [] h = All-nil P
  all_kept k (f ∷ xs) h = all_chosen (k f) f (filter k xs) (h 0 f (omega arith)) (all_kept k xs (λ i d lt. h (suc i) d (omega arith)))

abbrev ByRule : List Direct → Prefix → Type 0
ByRule ds f = f.optional ≡ is_optional ds f.path

begun_by_rule : (ds : List Direct) (o : Occurrence) (n m : ℕ) → All (ByRule ds) (beginnings ds o n m)
begun_by_rule ds o n zero = All-nil (ByRule ds)
begun_by_rule ds o n (suc m) = All-cons (ByRule ds) (prefix_at ds o n) (beginnings ds o (n + 1) m) refl (begun_by_rule ds o (n + 1) m)

all_by_rule : (ds : List Direct) (os : List Occurrence) → All (ByRule ds) (flat_map (prefixes_of ds) os)
all_by_rule ds [] = All-nil (ByRule ds)
all_by_rule ds (o ∷ os) = All-append (ByRule ds) (prefixes_of ds o) (flat_map (prefixes_of ds) os) (begun_by_rule ds o 0 (suc (length o.path.steps))) (all_by_rule ds os)

pub optional : (ds : List Direct) (os : List Occurrence) (bound : List Path) → All (λ (f : Prefix). f.optional ≡ is_optional ds f.path) (factored ds os bound)
optional ds os bound =
    all_added (ByRule ds) [] (filter (binds ds os bound) (flat_map (prefixes_of ds) os)) (All-nil (ByRule ds))
    (all_kept (ByRule ds) (binds ds os bound) (flat_map (prefixes_of ds) os) (all_by_rule ds os))
