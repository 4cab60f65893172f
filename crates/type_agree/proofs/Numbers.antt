-- A tree keeps its numbers as it gets its types; where each stands once, it has one type.
use Rattle.std.proofs.Common.{◌≡◌, ℕ, ◌==◌, Bool, true, false, Option, Some, None, List, [], ◌∷◌, ◌++◌, map, if◌then◌else◌, refl, sym, ap, ◌∙◌, subst, append_assoc, append-nil}
use Rattle.std.specs.Prelude.{AllPairs}
use Rattle.std.proofs.lemmas.Bool.Decides.{Decides-eqb}
use Rattle.ev_value.specs.declared.args.Args.{Args}
use Rattle.core_ir.specs.declared.phase.Core.{Core}
use Rattle.core_ir.specs.declared.phase.Typed.{Typed}
use Rattle.core_ir.specs.declared.tree.Alias.{Alias}
use Rattle.core_ir.specs.declared.tree.Element.{Element}
use Rattle.core_ir.specs.declared.tree.Expr.{Expr, Row_of-Expr, Row_of-Scope, Row_of-Alias, Row_of-Element}
use Rattle.core_ir.specs.declared.tree.Expr.TheBlock as block
use Rattle.core_ir.specs.declared.tree.Key.{Key}
use Rattle.core_ir.specs.declared.tree.Scope.{Scope}
use Rattle.core_ir.specs.declared.tree.Select.{roll-Select, Held-Select-filter, Row_of-Key}
use Rattle.core_ir.specs.declared.ty.Ty.{Ty}
use denote.Hole.Carrier as carrier
use Rattle.ev_schema.specs.declared.schema.Schema.{Schema}
use Rattle.eql_sem.specs.Meaning.{base_number}
use Rattle.eql_agree.specs.Kinds.{Each}
use Rattle.type_infer.specs.declared.clause.Clause.{Clause}
use Rattle.type_infer.specs.HasType.{HasType, HaveTypes, ScopesHaveTypes, AliasesHaveTypes, ElementsHaveTypes, KeysHaveTypes, KeyHasType, ClauseHasType, scoped}
use Rattle.type_infer.specs.HasType as has
use Rattle.type_infer.specs.Laws.{HasTypes}
use Rattle.type_rules.specs.Known.{Known}
use Rattle.type_agree.specs.Noted.{Noted, Numbered, Asked, notes, notes_of, notes_of_scopes, notes_of_aliases, notes_of_elements, notes_of_clause, notes_of_keys, notes_of_key, notes_before, notes_of_tree}
use Rattle.type_agree.specs.Premises.{IsGivenTo, IsAnswered, HasOneTypeEach, ArgumentsSuit}
use Rattle.type_agree.specs.Numbers.{bare, slot_of, Differ, NumbersAreKept}
use Rattle.type_agree.proofs.Walks.{apart_from, apart_behind}
use Rattle.type_agree.proofs.Forms.{same_root}

-- ---- lists of places that say the same apart from slots

abbrev Alike : List Noted → List Noted → Type 0
Alike xs ys = map bare xs ≡ map bare ys

bare_append : (xs ys : List Noted) → map bare (xs ++ ys) ≡ map bare xs ++ map bare ys
bare_append [] ys = refl
bare_append (x ∷ xs) ys = ap (λ zs. bare x ∷ zs) (bare_append xs ys)

two : (a b c d : List Noted) → Alike a b → Alike c d → Alike (a ++ c) (b ++ d)
two a b c d p q = bare_append a c ∙ (λ i. p i ++ q i) ∙ sym (bare_append b d)

one : (a b : List Noted) → Alike a b → Alike (a ++ []) (b ++ [])
one a b p = two a b [] [] p refl

-- ---- what rows say behind those that are done

row_push : (xs : List Expr) (x : Expr) → notes_of (block.hidden-the_row-Expr-1 (xs ++ x ∷ [])) ≡ notes_of (block.hidden-the_row-Expr-1 xs) ++ notes x
unfolding notes carrier.hidden block.hidden-the_row-Expr-1
row_push [] x = append-nil (notes x)
row_push (y ∷ xs) x = ap (λ zs. notes y ++ zs) (row_push xs x) ∙ sym (append_assoc (notes y) _ (notes x))

scopes_push : (xs : List Scope) (x : Scope) → notes_of_scopes (block.hidden-the_row-Scope-2 (xs ++ x ∷ [])) ≡ notes_of_scopes (block.hidden-the_row-Scope-2 xs) ++ (notes x.body ++ [])
unfolding notes carrier.hidden block.hidden-the_row-Scope-2 block.hidden-the_row-Expr-0
scopes_push [] x = append-nil (notes x.body ++ [])
scopes_push (y ∷ xs) x = ap (λ zs. (notes y.body ++ []) ++ zs) (scopes_push xs x) ∙ sym (append_assoc (notes y.body ++ []) _ (notes x.body ++ []))

elements_push : (xs : List Element) (x : Element) → notes_of_elements (block.hidden-the_row-Element-3 (xs ++ x ∷ [])) ≡ notes_of_elements (block.hidden-the_row-Element-3 xs) ++ (notes x.value.body ++ [])
unfolding notes carrier.hidden block.hidden-the_row-Element-3 block.hidden-the_row-Expr-0
elements_push [] x = append-nil (notes x.value.body ++ [])
elements_push (y ∷ xs) x = ap (λ zs. (notes y.value.body ++ []) ++ zs) (elements_push xs x) ∙ sym (append_assoc (notes y.value.body ++ []) _ (notes x.value.body ++ []))

aliases_push : (xs : List Alias) (x : Alias) → notes_of_aliases (block.hidden-the_row-Alias-4 (xs ++ x ∷ [])) ≡ notes_of_aliases (block.hidden-the_row-Alias-4 xs) ++ (Numbered x.number x.value.ty ∷ notes x.value.body ++ [])
unfolding notes carrier.hidden block.hidden-the_row-Alias-4 block.hidden-the_row-Expr-0
aliases_push [] x = append-nil (Numbered x.number x.value.ty ∷ notes x.value.body ++ [])
aliases_push (y ∷ xs) x = ap (λ zs. (Numbered y.number y.value.ty ∷ notes y.value.body ++ []) ++ zs) (aliases_push xs x) ∙ sym (append_assoc (Numbered y.number y.value.ty ∷ notes y.value.body ++ []) _ (Numbered x.number x.value.ty ∷ notes x.value.body ++ []))

keys_push : (xs : List Key) (x : Key) → notes_of_keys (block.hidden-the_row-Key-6 (xs ++ x ∷ [])) ≡ notes_of_keys (block.hidden-the_row-Key-6 xs) ++ notes_of_key x
unfolding notes carrier.hidden block.hidden-the_row-Key-6
keys_push [] x = append-nil (notes_of_key x)
keys_push (y ∷ xs) x = ap (λ zs. notes_of_key y ++ zs) (keys_push xs x) ∙ sym (append_assoc (notes_of_key y) _ (notes_of_key x))

-- one more part behind those that are done, and the others behind it
behind_one : (whole done pushed z x more : List Noted) → Alike whole (pushed ++ more) → pushed ≡ done ++ z → Alike z x → Alike whole (done ++ (x ++ more))
behind_one whole done pushed z x more p e q =
    p ∙ ap (λ zs. map bare (zs ++ more)) e ∙ ap (map bare) (append_assoc done z more)
    ∙ two done done (z ++ more) (x ++ more) refl (two z x more more q refl)

-- ---- trees

module _ (s : Schema) where
  mutual
    unfolding notes roll-Select carrier.roll carrier.hidden block.hidden-the_row-Expr-0 block.hidden-the_row-Expr-1 block.hidden-the_row-Scope-2 block.hidden-the_row-Element-3 block.hidden-the_row-Alias-4 block.hidden-the_row-Scope-5 block.hidden-the_row-Key-6

    kept : {k l : Known} {x : Expr} {y : Expr × Ty} → HasType s k x y l → Alike (notes y.0) (notes x)
    kept (has.constant e) = refl
    kept (has.parameter e) = refl
    kept (has.global_value e) = refl
    kept (has.path_of p) = refl
    kept (has.on_base {x = x} {z = z} a p) = λ i. Numbered (base_number (same_root s (λ n. None) _ _ _ p i)) None ∷ one (notes z.0) (notes x) (kept a) i
    kept (has.operation a e) = all_kept a
    kept (has.plus a e) = one _ _ (kept a)
    kept (has.cast a e) = one _ _ (kept a)
    kept (has.tuple a) = all_kept a
    kept (has.optional_equal {x = x} {y = y} {z = z} {w = w} a b e) = two (notes z.0 ++ []) (notes x ++ []) (notes w.0 ++ []) (notes y ++ []) (one (notes z.0) (notes x) (kept a)) (one (notes w.0) (notes y) (kept b))
    kept (has.membership {x = x} {y = y} {z = z} {w = w} a b e) = two (notes z.0 ++ []) (notes x ++ []) (notes w.0 ++ []) (notes y ++ []) (one (notes z.0) (notes x) (kept a)) (one (notes w.0) (notes y) (kept b))
    kept (has.of_set a e) = one _ _ (kept a)
    kept (has.union {x = x} {y = y} {z = z} {w = w} a b e) = two (notes z.0 ++ []) (notes x ++ []) (notes w.0 ++ []) (notes y ++ []) (one (notes z.0) (notes x) (kept a)) (one (notes w.0) (notes y) (kept b))
    kept (has.set a e) = scopes_kept a
    kept (has.coalesce {x = x} {y = y} {z = z} {w = w} a b e) = two (notes z.0 ++ []) (notes x ++ []) (notes w.0 ++ []) (notes y ++ []) (one (notes z.0) (notes x) (kept a)) (one (notes w.0) (notes y) (kept b))
    kept (has.value_first {c = q} {x = x} {y = y} {v = v} {z = z} {w = w} a b c d e) =
        two ((notes v.0 ++ []) ++ (notes z.0 ++ [])) ((notes q ++ []) ++ (notes x ++ [])) (notes w.0 ++ []) (notes y ++ [])
        (two (notes v.0 ++ []) (notes q ++ []) (notes z.0 ++ []) (notes x ++ []) (one (notes v.0) (notes q) (kept b)) (one (notes z.0) (notes x) (kept a)))
        (one (notes w.0) (notes y) (kept c))
    kept (has.condition_first {c = q} {x = x} {y = y} {v = v} {z = z} {w = w} a b c d e) =
        two ((notes v.0 ++ []) ++ (notes z.0 ++ [])) ((notes q ++ []) ++ (notes x ++ [])) (notes w.0 ++ []) (notes y ++ [])
        (two (notes v.0 ++ []) (notes q ++ []) (notes z.0 ++ []) (notes x ++ []) (one (notes v.0) (notes q) (kept a)) (one (notes z.0) (notes x) (kept b)))
        (one (notes w.0) (notes y) (kept c))
    kept (has.shaped {x = x} {number = m} {es = es} {z = z} {ys = ys} a b e) =
        ap (λ zs. Numbered m None ∷ zs) (two (notes z.0 ++ []) (notes x ++ []) (notes_of_elements (block.hidden-the_row-Element-3 ys)) (notes_of_elements es) (one (notes z.0) (notes x) (kept a)) (elements_kept b))
    kept (has.select {ds = ds} {x = x} {number = m} {f = f0} {ks = ks} {g = g0} {h = h0} {before = before} {z = z} {filter = filter} {keys = keys} {offset = offset} {limit = limit} a b c d e f) =
        let aliases = notes_of_aliases (block.hidden-the_row-Alias-4 before) in
        let in_filter = notes_of_clause (block.back-Select-filter filter) in
        let in_keys = notes_of_keys (block.hidden-the_row-Key-6 keys) in
        let in_offset = notes_of_clause (block.back-Select-filter offset) in
        let in_limit = notes_of_clause (block.back-Select-filter limit) in
        let subject = notes z.0 ++ [] in
        let subject0 = notes x ++ [] in
        let filter0 = notes_of_clause f0 in
        let keys0 = notes_of_keys ks in
        let offset0 = notes_of_clause g0 in
        let limit0 = notes_of_clause h0 in
        let aliases0 = notes_of_aliases ds in
        ap (λ zs. Numbered m None ∷ zs)
        (two (aliases ++ subject ++ in_filter ++ in_keys ++ in_offset) (aliases0 ++ subject0 ++ filter0 ++ keys0 ++ offset0) in_limit limit0
        (two (aliases ++ subject ++ in_filter ++ in_keys) (aliases0 ++ subject0 ++ filter0 ++ keys0) in_offset offset0
        (two (aliases ++ subject ++ in_filter) (aliases0 ++ subject0 ++ filter0) in_keys keys0
        (two (aliases ++ subject) (aliases0 ++ subject0) in_filter filter0
        (two aliases aliases0 subject subject0 (aliases_kept a) (one (notes z.0) (notes x) (kept b)))
        (clause_kept c))
        (keys_kept d))
        (clause_kept e))
        (clause_kept f))
    kept (has.each {ds = ds} {number = m} {x = x} {y = y} {before = before} {z = z} {w = w} a b c) =
        let aliases = notes_of_aliases (block.hidden-the_row-Alias-4 before) in
        ap (λ zs. Numbered m None ∷ zs)
        (two (aliases ++ (notes z.0 ++ [])) (notes_of_aliases ds ++ (notes x ++ [])) (notes w.0 ++ []) (notes y ++ [])
        (two aliases (notes_of_aliases ds) (notes z.0 ++ []) (notes x ++ []) (aliases_kept a) (one (notes z.0) (notes x) (kept b)))
        (one (notes w.0) (notes y) (kept c)))
    kept (has.array a e) = all_kept a
    kept (has.array_cast a e f) = one _ _ (kept a)
    kept (has.unpack a e) = one _ _ (kept a)
    kept has.empty_set = refl

    all_kept : {g : _} {k l : Known} {xs : Row_of-Expr g} {done ys : List Expr × List Ty} → HaveTypes s _ k xs done ys l → Alike (notes_of (block.hidden-the_row-Expr-1 ys.0)) (notes_of (block.hidden-the_row-Expr-1 done.0) ++ notes_of xs)
    all_kept has.no_more = ap (map bare) (sym (append-nil _))
    all_kept (has.one_more {x = x} {xs = xs} {z = z} {done = done} {ys = ys} a b) =
        behind_one (notes_of (block.hidden-the_row-Expr-1 ys.0)) (notes_of (block.hidden-the_row-Expr-1 done.0)) _ (notes z.0) (notes x) (notes_of xs) (all_kept b) (row_push done.0 z.0) (kept a)

    scopes_kept : {g : _} {k l : Known} {xs : Row_of-Scope g} {done ys : List Scope × List Ty} → ScopesHaveTypes s _ k xs done ys l → Alike (notes_of_scopes (block.hidden-the_row-Scope-2 ys.0)) (notes_of_scopes (block.hidden-the_row-Scope-2 done.0) ++ notes_of_scopes xs)
    scopes_kept has.no_scope = ap (map bare) (sym (append-nil _))
    scopes_kept (has.one_scope {s1 = s1} {x = x} {xs = xs} {z = z} {done = done} {ys = ys} a b) =
        behind_one (notes_of_scopes (block.hidden-the_row-Scope-2 ys.0)) (notes_of_scopes (block.hidden-the_row-Scope-2 done.0)) _ (notes z.0 ++ []) (notes x ++ []) (notes_of_scopes xs) (scopes_kept b) (scopes_push done.0 (scoped s1 z)) (one (notes z.0) (notes x) (kept a))

    aliases_kept : {g : _} {k l : Known} {xs : Row_of-Alias g} {done ys : List Alias} → AliasesHaveTypes s _ k xs done ys l → Alike (notes_of_aliases (block.hidden-the_row-Alias-4 ys)) (notes_of_aliases (block.hidden-the_row-Alias-4 done) ++ notes_of_aliases xs)
    aliases_kept has.no_alias = ap (map bare) (sym (append-nil _))
    aliases_kept (has.one_alias {number = n} {s1 = s1} {t1 = t1} {x = x} {xs = xs} {z = z} {done = done} {ys = ys} a b) =
        behind_one (notes_of_aliases (block.hidden-the_row-Alias-4 ys)) (notes_of_aliases (block.hidden-the_row-Alias-4 done)) _ (Numbered n (Some z.1) ∷ notes z.0 ++ []) (Numbered n t1 ∷ notes x ++ []) (notes_of_aliases xs)
        (aliases_kept b) (aliases_push done (record { number = n; value = scoped s1 z })) (λ i. Numbered n None ∷ one (notes z.0) (notes x) (kept a) i)

    elements_kept : {g : _} {k l : Known} {xs : Row_of-Element g} {done ys : List Element} → ElementsHaveTypes s _ k xs done ys l → Alike (notes_of_elements (block.hidden-the_row-Element-3 ys)) (notes_of_elements (block.hidden-the_row-Element-3 done) ++ notes_of_elements xs)
    elements_kept has.no_element = ap (map bare) (sym (append-nil _))
    elements_kept (has.one_element {byte = byte} {s1 = s1} {name = name} {need = need} {width = width} {card = card} {x = x} {xs = xs} {z = z} {done = done} {ys = ys} a b) =
        behind_one (notes_of_elements (block.hidden-the_row-Element-3 ys)) (notes_of_elements (block.hidden-the_row-Element-3 done)) _ (notes z.0 ++ []) (notes x ++ []) (notes_of_elements xs)
        (elements_kept b) (elements_push done (record { start = byte; name = name; need = need; width = width; ty = Some z.1; card = card; value = scoped s1 z })) (one (notes z.0) (notes x) (kept a))

    keys_kept : {g : _} {k l : Known} {xs : Row_of-Key g} {done ys : List Key} → KeysHaveTypes s _ k xs done ys l → Alike (notes_of_keys (block.hidden-the_row-Key-6 ys)) (notes_of_keys (block.hidden-the_row-Key-6 done) ++ notes_of_keys xs)
    keys_kept has.no_key = ap (map bare) (sym (append-nil _))
    keys_kept (has.one_key {x = x} {xs = xs} {y = y} {done = done} {ys = ys} a b) =
        behind_one (notes_of_keys (block.hidden-the_row-Key-6 ys)) (notes_of_keys (block.hidden-the_row-Key-6 done)) _ (notes_of_key y) (notes_of_key x) (notes_of_keys xs) (keys_kept b) (keys_push done y) (key_kept a)

    key_kept : {k l : Known} {x y : Key} → KeyHasType s k x y l → Alike (notes_of_key y) (notes_of_key x)
    key_kept (has.ascending a e) = one _ _ (kept a)
    key_kept (has.descending a e) = one _ _ (kept a)

    clause_kept : {r : Clause} {k l : Known} {f : Held-Select-filter} {o : Option Scope} → ClauseHasType s r k f o l → Alike (notes_of_clause (block.back-Select-filter o)) (notes_of_clause f)
    clause_kept has.absent = refl
    clause_kept (has.present {x = x} {z = z} a e) = one (notes z.0 ++ []) (notes x ++ []) (one (notes z.0) (notes x) (kept a))

tree_kept : (s : Schema) (core : Core) (typed : Typed) → HasTypes s core typed → map bare (notes_of_tree typed.core) ≡ map bare (notes_of_tree core)
tree_kept s core typed (x, l, d, is) =
    ap (λ (t : Typed). map bare (notes_of_tree t.core)) is ∙ two (notes_before core.subject) (notes_before core.subject) (notes x.0) (notes core.root.body) refl (kept s d)

-- ---- numbers that stand once

own_slot : (n : ℕ) (t o : Option Ty) → (if n == n then t else o) ≡ t
own_slot n t o = ap (λ b. if b then t else o) ((Decides-eqb n n).1 refl)

other_slot : (n m : ℕ) (t o : Option Ty) → (n ≡ m → ⊥) → (if n == m then t else o) ≡ o
other_slot n m t o h = by_test (n == m) refl
  where
    by_test : (b : Bool) → (n == m) ≡ b → (if b then t else o) ≡ o
    by_test true e = absurd (h ((Decides-eqb n m).0 e))
    by_test false e = refl

-- each place speaks of another number than each behind it
abbrev Apart : List Noted → Type 0
Apart [] = Unit {0}
Apart (x ∷ xs) = Each (Differ x) xs × Apart xs

from_pairs : (xs : List Noted) → AllPairs Differ xs → Apart xs
from_pairs [] h = tt
from_pairs (x ∷ xs) h = (apart_from Differ x xs h, from_pairs xs (apart_behind Differ x xs h))

-- it is so of places that say the same apart from slots
differ_alike : (a b x y : Noted) → bare a ≡ bare b → bare x ≡ bare y → Differ b y → Differ a x
differ_alike (Numbered n t) (Numbered m u) (Numbered i v) (Numbered j w) e f h = λ k. let same : m ≡ j = cc in h same
differ_alike (Numbered n t) (Numbered m u) (Numbered i v) (Asked q) e f h = absurd cc
differ_alike (Numbered n t) (Numbered m u) (Asked p) y e f h = tt
differ_alike (Numbered n t) (Asked q) x y e f h = absurd cc
differ_alike (Asked p) b x y e f h = tt

each_alike : (a b : Noted) (xs ys : List Noted) → bare a ≡ bare b → Alike xs ys → Each (Differ b) ys → Each (Differ a) xs
each_alike a b [] ys e f h = tt
each_alike a b (x ∷ xs) [] e f h = absurd cc
each_alike a b (x ∷ xs) (y ∷ ys) e f h =
    let heads : bare x ≡ bare y = cc in
    let tails : map bare xs ≡ map bare ys = cc in
    (differ_alike a b x y e heads h.0, each_alike a b xs ys e tails h.1)

apart_alike : (xs ys : List Noted) → Alike xs ys → Apart ys → Apart xs
apart_alike [] ys f h = tt
apart_alike (x ∷ xs) [] f h = absurd cc
apart_alike (x ∷ xs) (y ∷ ys) f h =
    let heads : bare x ≡ bare y = cc in
    let tails : map bare xs ≡ map bare ys = cc in
    (each_alike x y xs ys heads tails h.0, apart_alike xs ys tails h.1)

-- what is so of other places stays so
behind : (x : Noted) (more xs : List Noted) → Each (Differ x) xs → Each (IsGivenTo (slot_of more)) xs → Each (IsGivenTo (slot_of (x ∷ more))) xs
behind x more [] d h = tt
behind (Numbered n t) more (Numbered m u ∷ xs) d h = (other_slot n m t (slot_of more m) d.0 ∙ h.0, behind (Numbered n t) more xs d.1 h.1)
behind (Numbered n t) more (Asked p ∷ xs) d h = (tt, behind (Numbered n t) more xs d.1 h.1)
behind (Asked p) more (y ∷ xs) d h = h

first : (x : Noted) (more : List Noted) → IsGivenTo (slot_of (x ∷ more)) x
first (Numbered n t) more = own_slot n t (slot_of more n)
first (Asked p) more = tt

each_slot : (xs : List Noted) → Apart xs → Each (IsGivenTo (slot_of xs)) xs
each_slot [] d = tt
each_slot (x ∷ xs) d = (first x xs, behind x xs xs d.0 (each_slot xs d.1))

one_type : (s : Schema) (core : Core) (typed : Typed) → HasTypes s core typed → AllPairs Differ (notes_of_tree core) → HasOneTypeEach (slot_of (notes_of_tree typed.core)) (notes_of_tree typed.core)
one_type s core typed h d = record { each = each_slot (notes_of_tree typed.core) (apart_alike (notes_of_tree typed.core) (notes_of_tree core) (tree_kept s core typed h) (from_pairs (notes_of_tree core) d)) }

-- ---- arguments

answered_alike : (args : Args) (x y : Noted) → bare x ≡ bare y → IsAnswered args y → IsAnswered args x
answered_alike args (Numbered n t) y e h = tt
answered_alike args (Asked p) (Numbered n t) e h = absurd cc
answered_alike args (Asked p) (Asked q) e h = subst (λ a. IsAnswered args a) (sym e) h

each_answered : (args : Args) (xs ys : List Noted) → Alike xs ys → Each (IsAnswered args) ys → Each (IsAnswered args) xs
each_answered args [] ys f h = tt
each_answered args (x ∷ xs) [] f h = absurd cc
each_answered args (x ∷ xs) (y ∷ ys) f h =
    let heads : bare x ≡ bare y = cc in
    let tails : map bare xs ≡ map bare ys = cc in
    (answered_alike args x y heads h.0, each_answered args xs ys tails h.1)

arguments : (s : Schema) (args : Args) (core : Core) (typed : Typed) → HasTypes s core typed → ArgumentsSuit s args (notes_of_tree core) → ArgumentsSuit s args (notes_of_tree typed.core)
arguments s args core typed h suit = record { globals = suit.globals; parameters = each_answered args (notes_of_tree typed.core) (notes_of_tree core) (tree_kept s core typed h) suit.parameters }

pub numbers_are_kept : NumbersAreKept
numbers_are_kept = record { of_trees = tree_kept; one_type = one_type; arguments = arguments }
