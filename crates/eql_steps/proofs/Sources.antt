-- The links that lead to an id.
use Rattle.std.proofs.Common.{◌≡◌, ℕ, suc, ◌==◌, ◌&&◌, ◌||◌, Bool, true, false, List, [], ◌∷◌, ◌++◌, Option, Some, None, nat_eq, if◌then◌else◌, refl, sym, ap, ◌∙◌}
use Rattle.std.proofs.lemmas.Bool.{eqb-true}
use Rattle.std.specs.List.{list_any}
use Rattle.core_ir.specs.declared.path.PtrId.{PtrId}
use Rattle.db_store.specs.declared.object.Entry.{Entry}
use Rattle.db_store.specs.declared.object.Object.{Object}
use Rattle.db_store.specs.declared.object.PtrValue.{PtrValue}
use Rattle.db_store.specs.declared.object.Target.{Target}
use Rattle.db_store.specs.Objects.{entry, targets_at, targets_if_stored}
use Rattle.eql_steps.specs.declared.source.Source.{Source}
use Rattle.eql_steps.specs.ById.{nothing, with_one}
use Rattle.eql_steps.specs.Index.{with_targets, with_entries, with_objects, sourced, by_link}
use Rattle.eql_steps.proofs.Members.{any_at, any_joined}

-- whether an object has a target with an id for a link
abbrev pub leads : PtrId → ℕ → Object → Bool
leads link id o = list_any (λ (t : Target). t.id == id) (targets_at o link)

-- whether a link is this one, from the object at a place
abbrev pub is_from : PtrId → ℕ → Source → Bool
is_from link i s = (s.link.0 == link.0) && nat_eq i s.place

by_link_at : (b : Bool) (i k : ℕ) (ks : List ℕ) (c : Bool) → list_any (nat_eq i) ks ≡ c → list_any (nat_eq i) (if b then k ∷ ks else ks) ≡ (b && nat_eq i k) || c
by_link_at true i k ks c e = ap (λ d. nat_eq i k || d) e
by_link_at false i k ks c e = e

pub in_by_link : (link : PtrId) (ss : List Source) (i : ℕ) → list_any (nat_eq i) (by_link link ss) ≡ list_any (is_from link i) ss
in_by_link link [] i = refl
in_by_link link (s ∷ more) i = by_link_at (s.link.0 == link.0) i s.place (by_link link more) (list_any (is_from link i) more) (in_by_link link more i)

module _ (link : PtrId) (i id : ℕ) where
  -- whether one of some links is this one, from the object at the place
  among : List Source → Bool
  among ss = list_any (is_from link i) ss

  one_at : (b : Bool) (ss : List Source) (s : Source) → list_any (is_from link i) (if b then ss ++ s ∷ [] else ss) ≡ list_any (is_from link i) ss || (b && is_from link i s)
  one_at true ss s = any_joined (is_from link i) ss (s ∷ []) ∙ ap (λ d. list_any (is_from link i) ss || d) (or_false (is_from link i s))
    where
      or_false : (b : Bool) → b || false ≡ b
      or_false true = refl
      or_false false = refl
  one_at false ss s = sym (or_false (list_any (is_from link i) ss))
    where
      or_false : (b : Bool) → b || false ≡ b
      or_false true = refl
      or_false false = refl

  two_targets : (x t m p : Bool) → (x || (t && p)) || (m && p) ≡ x || ((t || m) && p)
  two_targets true t m p = refl
  two_targets false true m true = refl
  two_targets false true true false = refl
  two_targets false true false false = refl
  two_targets false false m p = refl

  in_targets : (e : PtrId) (k : ℕ) (lists : ℕ → List Source) (ts : List Target)
      → list_any (is_from link i) (with_targets e k lists ts id) ≡ list_any (is_from link i) (lists id) || (list_any (λ (t : Target). t.id == id) ts && ((e.0 == link.0) && nat_eq i k))
  in_targets e k lists [] = or_false (list_any (is_from link i) (lists id))
    where
      or_false : (b : Bool) → b ≡ b || false
      or_false true = refl
      or_false false = refl
  in_targets e k lists (t ∷ more) =
      in_targets e k (with_one lists t.id (record { link = e; place = k })) more
      ∙ ap (λ d. d || (list_any (λ (t : Target). t.id == id) more && ((e.0 == link.0) && nat_eq i k))) (one_at (t.id == id) (lists id) (record { link = e; place = k }))
      ∙ two_targets (list_any (is_from link i) (lists id)) (t.id == id) (list_any (λ (t : Target). t.id == id) more) ((e.0 == link.0) && nat_eq i k)

  two_entries : (x l e n r : Bool) → (x || (l && (e && n))) || (r && n) ≡ x || (((e && l) || r) && n)
  two_entries true l e n r = refl
  two_entries false true true true r = refl
  two_entries false true true false true = refl
  two_entries false true true false false = refl
  two_entries false true false n r = refl
  two_entries false false true n r = refl
  two_entries false false false n r = refl

  in_entries_by : (o : Object) (k : ℕ) (lists : ℕ → List Source) (es : List Entry)
      → list_any (is_from link i) (with_entries o k lists es id) ≡ list_any (is_from link i) (lists id) || (list_any (λ (e : Entry). (e.pointer.0 == link.0) && leads e.pointer id o) es && nat_eq i k)
  in_entries_by o k lists [] = or_false (list_any (is_from link i) (lists id))
    where
      or_false : (b : Bool) → b ≡ b || false
      or_false true = refl
      or_false false = refl
  in_entries_by o k lists (e ∷ more) =
      in_entries_by o k (with_targets e.pointer k lists (targets_at o e.pointer)) more
      ∙ ap (λ d. d || (list_any (λ (e : Entry). (e.pointer.0 == link.0) && leads e.pointer id o) more && nat_eq i k)) (in_targets e.pointer k lists (targets_at o e.pointer))
      ∙ two_entries (list_any (is_from link i) (lists id)) (leads e.pointer id o) (e.pointer.0 == link.0) (nat_eq i k) (list_any (λ (e : Entry). (e.pointer.0 == link.0) && leads e.pointer id o) more)

  -- ---- entries of the link

  this_at : (p : PtrId) (o : Object) (b r h : Bool) → (p.0 == link.0) ≡ b → r ≡ h && leads link id o → (b && leads p id o) || r ≡ (b || h) && leads link id o
  this_at p o true r h at e = ap (λ d. d || r) same ∙ ap (λ d. leads link id o || d) e ∙ absorbed (leads link id o) h
    where
      same : leads p id o ≡ leads link id o
      same = λ j. leads (record { 0 = eqb-true p.0 link.0 at j }) id o

      absorbed : (b h : Bool) → b || (h && b) ≡ b
      absorbed true h = refl
      absorbed false true = refl
      absorbed false false = refl
  this_at p o false r h at e = e

  -- of an object's entries, those of the link lead where the link leads
  this_link : (o : Object) (es : List Entry) → list_any (λ (e : Entry). (e.pointer.0 == link.0) && leads e.pointer id o) es ≡ list_any (λ (e : Entry). e.pointer.0 == link.0) es && leads link id o
  this_link o [] = refl
  this_link o (e ∷ more) = this_at e.pointer o (e.pointer.0 == link.0) _ (list_any (λ (e : Entry). e.pointer.0 == link.0) more) refl (this_link o more)

  -- where there is no entry of the link, it leads nowhere
  nowhere_at : (b h : Bool) (v : PtrValue) (es : List Entry) → (h ≡ false → entry es link ≡ None) → b || h ≡ false → (if b then Some v else entry es link) ≡ None
  nowhere_at true h v es later e = let clash : true ≡ false = e in absurd cc
  nowhere_at false h v es later e = later e

  nowhere : (es : List Entry) → list_any (λ (e : Entry). e.pointer.0 == link.0) es ≡ false → entry es link ≡ None
  nowhere [] e = refl
  nowhere (x ∷ more) e = nowhere_at (x.pointer.0 == link.0) (list_any (λ (e : Entry). e.pointer.0 == link.0) more) x.value more (nowhere more) e

  there : (o : Object) (b : Bool) → list_any (λ (e : Entry). e.pointer.0 == link.0) o.values ≡ b → b && leads link id o ≡ leads link id o
  there o true e = refl
  there o false e = sym (ap (λ (v : Option PtrValue). list_any (λ (t : Target). t.id == id) (targets_if_stored v)) (nowhere o.values e))

  in_entries : (o : Object) (k : ℕ) (lists : ℕ → List Source)
      → list_any (is_from link i) (with_entries o k lists o.values id) ≡ list_any (is_from link i) (lists id) || (leads link id o && nat_eq i k)
  in_entries o k lists =
      in_entries_by o k lists o.values
      ∙ ap (λ d. list_any (is_from link i) (lists id) || (d && nat_eq i k)) (this_link o o.values ∙ there o (list_any (λ (e : Entry). e.pointer.0 == link.0) o.values) refl)

  or_again : (a b c : Bool) → (a || b) || c ≡ a || (b || c)
  or_again true b c = refl
  or_again false b c = refl

  in_objects : (k : ℕ) (lists : ℕ → List Source) (os : List Object)
      → list_any (is_from link i) (with_objects k lists os id) ≡ list_any (is_from link i) (lists id) || any_at k os i (leads link id)
  in_objects k lists [] = or_false (list_any (is_from link i) (lists id))
    where
      or_false : (b : Bool) → b ≡ b || false
      or_false true = refl
      or_false false = refl
  in_objects k lists (o ∷ more) =
      in_objects (suc k) (with_entries o k lists o.values) more
      ∙ ap (λ d. d || any_at (suc k) more i (leads link id)) (in_entries o k lists)
      ∙ or_again (list_any (is_from link i) (lists id)) (leads link id o && nat_eq i k) (any_at (suc k) more i (leads link id))

-- a place is among those of a link that leads to an id where the object there has such a target
pub in_sourced : (os : List Object) (link : PtrId) (id i : ℕ) → list_any (nat_eq i) (by_link link (sourced os id)) ≡ any_at 0 os i (leads link id)
in_sourced os link id i = in_by_link link (sourced os id) i ∙ in_objects link i id 0 nothing os
