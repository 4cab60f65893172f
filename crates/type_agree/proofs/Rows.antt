-- What is said of the parts of a form, as they stand in lists and in rows.
use Rattle.std.proofs.Common.{◌≡◌, IsTrue, ℕ, suc, Bool, false, Option, Some, None, List, [], ◌∷◌, ◌++◌, refl}
use Rattle.ev_value.specs.declared.args.Args.{Args}
use Rattle.core_ir.specs.declared.tree.Alias.{Alias}
use Rattle.core_ir.specs.declared.tree.Direct.{Direct}
use Rattle.core_ir.specs.declared.tree.Element.{Element}
use Rattle.core_ir.specs.declared.tree.Expr.{Expr}
use Rattle.core_ir.specs.declared.tree.Expr.TheBlock as block
use Rattle.core_ir.specs.declared.tree.Key.{Key}
use Rattle.core_ir.specs.declared.tree.Scope.{Scope}
use Rattle.core_ir.specs.declared.ty.Ty.{Ty}
use Rattle.core_ir.specs.Occurrences.{direct, direct_of, all}
use denote.Hole.Carrier as carrier
use Rattle.ev_schema.specs.declared.schema.Schema.{Schema}
use Rattle.path_scope.specs.Factored.{factored}
use Rattle.eql_sem.specs.declared.binding.Name.{Name}
use Rattle.eql_sem.specs.declared.binding.Name.TheVariants as name
use Rattle.eql_sem.specs.Bindings.{paths_of, within}
use Rattle.eql_agree.specs.Kinds.{Each, Along}
use Rattle.eql_agree.specs.Kinded.{Says, Extended, kinds_within, part_kinds, BaseKinds, Has, HasEach, HasAll, base_kinds, kinds_of_bases, HasElements, HasClause, HasKeys, HasKey, BehindAliases, HasAsScope}
use Rattle.store_agree.specs.Typed.{part_of, widens, typing}
use Rattle.type_agree.specs.Noted.{Noted, Numbered, notes, notes_of, notes_of_scopes, notes_of_aliases, notes_of_elements, notes_of_clause, notes_of_keys, notes_of_key}
use Rattle.type_agree.specs.Premises.{IsTypedSchema}
use Rattle.type_agree.proofs.Tables.{PartsFrom}
use Rattle.type_agree.proofs.Scopes.{IsPathTyped, Named, BasesHave, bases_append, bound, prefixes_typed}

-- ---- lists

module _ {A : Type 0} (P : A → Type 0) where
  pub each_front : (xs ys : List A) → Each P (xs ++ ys) → Each P xs
  each_front [] ys h = tt
  each_front (x ∷ xs) ys h = (h.0, each_front xs ys h.1)

  pub each_back : (xs ys : List A) → Each P (xs ++ ys) → Each P ys
  each_back [] ys h = h
  each_back (x ∷ xs) ys h = each_back xs ys h.1

  pub each_append : (xs ys : List A) → Each P xs → Each P ys → Each P (xs ++ ys)
  each_append [] ys h k = k
  each_append (x ∷ xs) ys h k = (h.0, each_append xs ys h.1 k)

pub along_push : {A B : Type 0} (R : A → B → Type 0) (xs : List A) (ys : List B) (x : A) (y : B) → Along R xs ys → R x y → Along R (xs ++ x ∷ []) (ys ++ y ∷ [])
along_push R [] [] x y h r = (r, tt)
along_push R (a ∷ xs) (b ∷ ys) x y h r = (h.0, along_push R xs ys x y h.1 r)
along_push R [] (b ∷ ys) x y h r = absurd h
along_push R (a ∷ xs) [] x y h r = absurd h

-- ---- what places say

module _ (P : Noted → Type 0) where
  -- it holds of what an expression says
  abbrev pub Throughout : Expr → Type 0
  Throughout x = Each P (notes x)

  abbrev pub InAlias : Alias → Type 0
  InAlias a = P (Numbered a.number a.value.ty) × Throughout a.value.body

  abbrev pub InClause : Option Scope → Type 0
  InClause None = Unit {0}
  InClause (Some c) = Throughout c.body

  abbrev pub InKey : Key → Type 0
  InKey k = Each P (notes_of_key k)

  pub one_noted : (x : Expr) → Each P (notes_of (block.hidden-the_row-Expr-0 x)) → Throughout x
  unfolding notes carrier.hidden block.hidden-the_row-Expr-0
  one_noted x h = each_front P (notes x) [] h

  pub row_noted : (xs : List Expr) → Each P (notes_of (block.hidden-the_row-Expr-1 xs)) → Each Throughout xs
  unfolding notes carrier.hidden block.hidden-the_row-Expr-1
  row_noted [] h = tt
  row_noted (x ∷ xs) h = (each_front P (notes x) _ h, row_noted xs (each_back P (notes x) _ h))

  pub scopes_noted : (xs : List Scope) → Each P (notes_of_scopes (block.hidden-the_row-Scope-2 xs)) → Each (λ (c : Scope). Throughout c.body) xs
  unfolding notes carrier.hidden block.hidden-the_row-Scope-2
  scopes_noted [] h = tt
  scopes_noted (c ∷ xs) h = (one_noted c.body (each_front P (notes_of (block.hidden-the_row-Expr-0 c.body)) _ h), scopes_noted xs (each_back P (notes_of (block.hidden-the_row-Expr-0 c.body)) _ h))

  pub elements_noted : (xs : List Element) → Each P (notes_of_elements (block.hidden-the_row-Element-3 xs)) → Each (λ (x : Element). Throughout x.value.body) xs
  unfolding notes carrier.hidden block.hidden-the_row-Element-3
  elements_noted [] h = tt
  elements_noted (c ∷ xs) h = (one_noted c.value.body (each_front P (notes_of (block.hidden-the_row-Expr-0 c.value.body)) _ h), elements_noted xs (each_back P (notes_of (block.hidden-the_row-Expr-0 c.value.body)) _ h))

  pub aliases_noted : (xs : List Alias) → Each P (notes_of_aliases (block.hidden-the_row-Alias-4 xs)) → Each InAlias xs
  unfolding notes carrier.hidden block.hidden-the_row-Alias-4
  aliases_noted [] h = tt
  aliases_noted (c ∷ xs) h = ((h.0, one_noted c.value.body (each_front P (notes_of (block.hidden-the_row-Expr-0 c.value.body)) _ h.1)), aliases_noted xs (each_back P (notes_of (block.hidden-the_row-Expr-0 c.value.body)) _ h.1))

  pub clause_noted : (c : Option Scope) → Each P (notes_of_clause (block.back-Select-filter c)) → InClause c
  unfolding notes carrier.hidden block.hidden-the_row-Scope-5
  clause_noted None h = tt
  clause_noted (Some c) h = one_noted c.body (each_front P (notes_of (block.hidden-the_row-Expr-0 c.body)) _ h)

  pub keys_noted : (ks : List Key) → Each P (notes_of_keys (block.hidden-the_row-Key-6 ks)) → Each InKey ks
  unfolding notes carrier.hidden block.hidden-the_row-Key-6
  keys_noted [] h = tt
  keys_noted (k ∷ ks) h = (each_front P (notes_of_key k) _ h, keys_noted ks (each_back P (notes_of_key k) _ h))

-- ---- kinds

module _ (s : Schema) (types : ℕ → Option Ty) (typed : IsTypedSchema s) (args : Args) where
  -- an expression has a type where names have theirs, its direct paths have types, and so have its bases
  abbrev pub Gives : Expr → Ty → Type 0
  Gives x t =
      ((ns : List Name) (ts : List Ty) → Named s types ns ts → Has (typing s args) x ns ts t)
      × ((o : Bool) → Each (λ (d : Direct). IsPathTyped s types d.occurrence.path) (direct x o))
      × BasesHave s types (base_kinds (typing s args) x)

  abbrev pub DirectTyped : List Direct → Type 0
  DirectTyped ds = Each (λ (d : Direct). IsPathTyped s types d.occurrence.path) ds

  -- what is said behind the prefixes of a scope, where names have their types
  pub extended : (bases : BaseKinds Ty) (ds : List Direct) (os : _) (ns : List Name) (ts : List Ty) (says : Says Ty) → BasesHave s types bases → DirectTyped ds → Named s types ns ts
      → ((ms : List Name) (us : List Ty) → Named s types ms us → says ms us) → Extended (typing s args) bases (factored ds os (paths_of ns)) ns ts says
  extended bases ds os ns ts says b d h f =
      let q = bound s types typed args bases (factored ds os (paths_of ns)) ns ts b (prefixes_typed s types typed args ds os (paths_of ns) d) h in
      (q.0, q.1, f (within (factored ds os (paths_of ns)) ns) (kinds_within q.0 ts) q.2)

  pub in_scope : (x : Expr) (t : Ty) → Gives x t → (ns : List Name) (ts : List Ty) → Named s types ns ts → HasAsScope (typing s args) x ns ts t
  in_scope x t g ns ts h = extended (base_kinds (typing s args) x) (direct x false) (all x) ns ts (λ ms us. Has (typing s args) x ms us t) g.2 (g.1 false) h g.0

  -- ---- one part

  pub one_direct : (x : Expr) (o : Bool) → DirectTyped (direct x o) → DirectTyped (direct_of (block.hidden-the_row-Expr-0 x) o)
  unfolding direct carrier.hidden block.hidden-the_row-Expr-0
  one_direct x o h = each_append (λ (d : Direct). IsPathTyped s types d.occurrence.path) (direct x o) [] h tt

  pub one_bases : (x : Expr) → BasesHave s types (base_kinds (typing s args) x) → BasesHave s types (kinds_of_bases (typing s args) (block.hidden-the_row-Expr-0 x))
  unfolding Has carrier.hidden block.hidden-the_row-Expr-0
  one_bases x h = bases_append s types (base_kinds (typing s args) x) [] h tt

  -- ---- several parts

  pub row_has : (xs : List Expr) (us : List Ty) → Along Gives xs us → (ns : List Name) (ts : List Ty) → Named s types ns ts → HasEach (typing s args) (block.hidden-the_row-Expr-1 xs) ns ts us
  unfolding Has carrier.hidden block.hidden-the_row-Expr-1
  row_has [] [] g ns ts h = tt
  row_has (x ∷ xs) (u ∷ us) g ns ts h = (g.0.0 ns ts h, row_has xs us g.1 ns ts h)
  row_has [] (u ∷ us) g ns ts h = absurd g
  row_has (x ∷ xs) [] g ns ts h = absurd g

  pub row_direct : (xs : List Expr) (us : List Ty) → Along Gives xs us → (o : Bool) → DirectTyped (direct_of (block.hidden-the_row-Expr-1 xs) o)
  unfolding direct carrier.hidden block.hidden-the_row-Expr-1
  row_direct [] [] g o = tt
  row_direct (x ∷ xs) (u ∷ us) g o = each_append (λ (d : Direct). IsPathTyped s types d.occurrence.path) (direct x o) _ (g.0.1 o) (row_direct xs us g.1 o)
  row_direct [] (u ∷ us) g o = absurd g
  row_direct (x ∷ xs) [] g o = absurd g

  pub row_bases : (xs : List Expr) (us : List Ty) → Along Gives xs us → BasesHave s types (kinds_of_bases (typing s args) (block.hidden-the_row-Expr-1 xs))
  unfolding Has carrier.hidden block.hidden-the_row-Expr-1
  row_bases [] [] g = tt
  row_bases (x ∷ xs) (u ∷ us) g = bases_append s types (base_kinds (typing s args) x) _ g.0.2 (row_bases xs us g.1)
  row_bases [] (u ∷ us) g = absurd g
  row_bases (x ∷ xs) [] g = absurd g

  pub row_parts : (xs : List Expr) (us : List Ty) → Along Gives xs us → (t : Ty) (i : ℕ) → PartsFrom (part_of t) i us → part_kinds (typing s args) (block.hidden-the_row-Expr-1 xs) t i ≡ us
  unfolding carrier.hidden block.hidden-the_row-Expr-1
  row_parts [] [] g t i h = refl
  row_parts (x ∷ xs) (u ∷ us) g t i h = λ j. h.0 j ∷ row_parts xs us g.1 t (suc i) h.1 j
  row_parts [] (u ∷ us) g t i h = absurd g
  row_parts (x ∷ xs) [] g t i h = absurd g

  pub scopes_have : (xs : List Scope) (us : List Ty) (t : Ty) → Along (λ (c : Scope). Gives c.body) xs us → Each (λ u. IsTrue (widens s u t)) us → (ns : List Name) (ts : List Ty) → Named s types ns ts
      → HasAll (typing s args) (block.hidden-the_row-Scope-2 xs) ns ts t
  unfolding Has carrier.hidden block.hidden-the_row-Scope-2 block.hidden-the_row-Expr-0
  scopes_have [] [] t g w ns ts h = tt
  scopes_have (c ∷ xs) (u ∷ us) t g w ns ts h = ((u, in_scope c.body u g.0 ns ts h, w.0), scopes_have xs us t g.1 w.1 ns ts h)
  scopes_have [] (u ∷ us) t g w ns ts h = absurd g
  scopes_have (x ∷ xs) [] t g w ns ts h = absurd g

  -- an expression gives some type
  abbrev pub GivesSome : Expr → Type 0
  GivesSome x = (u : Ty) × Gives x u

  pub elements_have : (xs : List Element) → Each (λ (x : Element). GivesSome x.value.body) xs → (ns : List Name) (ts : List Ty) → Named s types ns ts → HasElements (typing s args) (block.hidden-the_row-Element-3 xs) ns ts
  unfolding Has carrier.hidden block.hidden-the_row-Element-3 block.hidden-the_row-Expr-0
  elements_have [] g ns ts h = tt
  elements_have (x ∷ xs) g ns ts h = ((g.0.0, in_scope x.value.body g.0.0 g.0.1 ns ts h), elements_have xs g.1 ns ts h)

  -- an alias gives the type of its number
  abbrev pub AliasGives : Alias → Type 0
  AliasGives a = (u : Ty) × Gives a.value.body u × (types a.number ≡ Some u)

  pub aliases_have : (xs : List Alias) → Each AliasGives xs → (says : Says Ty) → ((ns : List Name) (ts : List Ty) → Named s types ns ts → says ns ts) → (ns : List Name) (ts : List Ty) → Named s types ns ts
      → BehindAliases (typing s args) (block.hidden-the_row-Alias-4 xs) says ns ts
  unfolding Has carrier.hidden block.hidden-the_row-Alias-4 block.hidden-the_row-Expr-0
  aliases_have [] g says f ns ts h = f ns ts h
  aliases_have (a ∷ xs) g says f ns ts h = (g.0.0, in_scope a.value.body g.0.0 g.0.1 ns ts h, aliases_have xs g.1 says f (name.Alias a.number ∷ ns) (g.0.0 ∷ ts) (g.0.2, h))

  abbrev pub ClauseGives : Option Scope → Type 0
  ClauseGives None = Unit {0}
  ClauseGives (Some c) = GivesSome c.body

  pub clause_has : (c : Option Scope) → ClauseGives c → (ns : List Name) (ts : List Ty) → Named s types ns ts → HasClause (typing s args) (block.back-Select-filter c) ns ts
  unfolding Has carrier.hidden block.hidden-the_row-Scope-5 block.hidden-the_row-Expr-0
  clause_has None g ns ts h = tt
  clause_has (Some c) g ns ts h = ((g.0, in_scope c.body g.0 g.1 ns ts h), tt)

  abbrev pub KeyGives : Key → Type 0
  KeyGives k = (ns : List Name) (ts : List Ty) → Named s types ns ts → HasKey (typing s args) k ns ts

  pub keys_have : (ks : List Key) → Each KeyGives ks → (ns : List Name) (ts : List Ty) → Named s types ns ts → HasKeys (typing s args) (block.hidden-the_row-Key-6 ks) ns ts
  unfolding Has carrier.hidden block.hidden-the_row-Key-6
  keys_have [] g ns ts h = tt
  keys_have (k ∷ ks) g ns ts h = (g.0 ns ts h, keys_have ks g.1 ns ts h)
