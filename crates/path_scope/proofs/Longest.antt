-- Going over all attached paths finds the longest one that begins a path.
use Rattle.std.proofs.Common.{◌≡◌, ℕ, ◌<◌, ◌≤◌, Bool, true, false, ◌&&◌, List, [], ◌∷◌, ◌++◌, length, Option, Some, None, MatchOption, IsTrue, refl, sym, ap, ◌∙◌, subst, arith, length-append, append_assoc, append-nil, if◌then◌else◌}
use Rattle.std.specs.Prelude.{nat_lt, drop}
use Rattle.std.proofs.lemmas.Bool.{ltb-false}
use Rattle.std.specs.List.{Any, All, fold}
use Rattle.std.proofs.lemmas.List.{get_or_append_left, drop_all}
use Rattle.std.proofs.lemmas.List.Elements.{All-nil, All-push, All-weaker}
use Rattle.std.proofs.lemmas.List.Quantifiers.{Any-push}
use Rattle.std.proofs.lemmas.Bool.Decides.{Decides-ltb}
use Rattle.core_ir.specs.declared.path.Path.{Path}
use Rattle.core_ir.specs.Path.{begins}
use Rattle.path_scope.specs.declared.stack.Attached.{Attached}
use Rattle.path_scope.specs.Stack.{attached_in, IsLongestBound, better}

any_left : {X : Type 0} (P : X → Type 0) (xs ys : List X) → Any P xs → Any P (xs ++ ys)
any_left P xs ys found =
    let at : found.0 < length xs = found.2 in
    (found.0, found.1, omega (arith, length-append xs ys), get_or_append_left xs ys found.1 found.0 at ∙ found.3, found.4)

not_longer : (m n : ℕ) → nat_lt m n ≡ false → n ≤ m
not_longer m n h = omega (arith, ltb-false m n h)

module _ (p : Path) where
  abbrev Best : List Attached → Option (ℕ × ℕ) → Type 0
  Best xs r = MatchOption r
      (All (λ (a : Attached). begins a.path p ≡ false) xs)
      (λ found. Any (λ (a : Attached). IsTrue (begins a.path p) × (length a.path.steps ≡ found.0) × (a.alias ≡ found.1)) xs
      × All (λ (a : Attached). IsTrue (begins a.path p) → length a.path.steps ≤ found.0) xs)

  abbrev Shorter : ℕ → Attached → Type 0
  Shorter n a = IsTrue (begins a.path p) → length a.path.steps ≤ n

  abbrev Unbegun : Attached → Type 0
  Unbegun a = begins a.path p ≡ false

  abbrev Found : ℕ × ℕ → Attached → Type 0
  Found found a = IsTrue (begins a.path p) × (length a.path.steps ≡ found.0) × (a.alias ≡ found.1)

  here : (xs : List Attached) (a : Attached) → begins a.path p ≡ true
      → All (λ (c : Attached). IsTrue (begins c.path p) → length c.path.steps ≤ length a.path.steps) xs → Best (xs ++ a ∷ []) (Some (length a.path.steps, a.alias))
  here xs a it less = (Any-push (Found (length a.path.steps, a.alias)) xs a (it, refl, refl), All-push (Shorter (length a.path.steps)) xs a less (λ _. omega arith))

  step_none : (b : Bool) (xs : List Attached) (a : Attached) → begins a.path p ≡ b → Best xs None → Best (xs ++ a ∷ []) (if b && true then Some (length a.path.steps, a.alias) else None)
  step_none true xs a e h = here xs a e (All-weaker (λ (c : Attached). begins c.path p ≡ false) (Shorter (length a.path.steps)) (λ c no it. let clash : true ≡ false = sym it ∙ no in absurd cc) xs h)
  step_none false xs a e h = All-push Unbegun xs a h e

  step_some : (b l : Bool) (xs : List Attached) (found : ℕ × ℕ) (a : Attached) → begins a.path p ≡ b → nat_lt found.0 (length a.path.steps) ≡ l → Best xs (Some found)
      → Best (xs ++ a ∷ []) (if b && l then Some (length a.path.steps, a.alias) else Some found)
  step_some true true xs found a e lt h = here xs a e (All-weaker (Shorter found.0) (Shorter (length a.path.steps)) (λ c le it. omega (arith, le it, (Decides-ltb found.0 (length a.path.steps)).0 lt)) xs h.1)
  step_some true false xs found a e lt h = (any_left (Found found) xs (a ∷ []) h.0, All-push (Shorter found.0) xs a h.1 (λ _. not_longer found.0 (length a.path.steps) lt))
  step_some false l xs found a e lt h = (any_left (Found found) xs (a ∷ []) h.0, All-push (Shorter found.0) xs a h.1 (λ it. let clash : true ≡ false = sym it ∙ e in absurd cc))

  step : (xs : List Attached) (best : Option (ℕ × ℕ)) (a : Attached) → Best xs best → Best (xs ++ a ∷ []) (better p best a)
  step xs None a h = step_none (begins a.path p) xs a refl h
  step xs (Some found) a h = step_some (begins a.path p) (nat_lt found.0 (length a.path.steps)) xs found a refl refl h

  over : (xs more : List Attached) (best : Option (ℕ × ℕ)) → Best xs best → Best (xs ++ more) (fold (better p) best more)
  over xs [] best h = subst (λ l. Best l best) (sym (append-nil xs)) h
  over xs (a ∷ more) best h = subst (λ l. Best l (fold (better p) (better p best a) more)) (append_assoc xs (a ∷ []) more) (over (xs ++ a ∷ []) more (better p best a) (step xs best a h))

  longest : (open_scopes : List (List Attached)) → IsLongestBound open_scopes p (fold (better p) None (attached_in open_scopes))
  longest open_scopes = over [] (attached_in open_scopes) None (All-nil (λ (a : Attached). begins a.path p ≡ false))

  pub ended : (items open_scopes : List (List Attached)) (i : ℕ) (best : Option (ℕ × ℕ)) → length items ≤ i → items ≡ open_scopes
      → fold (better p) best (attached_in (drop i items)) ≡ fold (better p) None (attached_in items) → IsLongestBound open_scopes p best
  ended items open_scopes i best h e kept =
      let is : best ≡ fold (better p) None (attached_in open_scopes) =
      sym (ap (λ l. fold (better p) best (attached_in l)) (drop_all i items h)) ∙ kept ∙ ap (λ l. fold (better p) None (attached_in l)) e in
      subst (λ r. IsLongestBound open_scopes p r) (sym is) (longest open_scopes)
