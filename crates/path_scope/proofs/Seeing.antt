-- Seeing each beginning of a path is seeing the path.
use Rattle.std.proofs.Common.{◌≡◌, ℕ, zero, suc, ◌+◌, ◌≤◌, ◌<◌, ◌==◌, Bool, true, false, length, IsTrue, refl, sym, ap, ◌∙◌, arith, if◌then◌else◌, Option, Some, cond, true≢false}
use Rattle.std.specs.Option.{unwrap_or}
use Rattle.std.proofs.Math.Arith.{le_of_le-suc-ne}
use Rattle.std.proofs.lemmas.Bool.Decides.{Decides-eqb}
use Rattle.std.proofs.lemmas.List.{length-take, length-take-le}
use Rattle.core_ir.specs.declared.path.Path.{Path}
use Rattle.core_ir.specs.Path.{path_eq, prefix, begins}
use Rattle.core_ir.proofs.Paths.{paths}
use Rattle.path_scope.specs.declared.branches.Node.{Node}
use Rattle.path_scope.specs.declared.branches.Onward.{Onward}
use Rattle.path_scope.specs.declared.branches.Seen.{Seen}
use Rattle.path_scope.specs.Branches.{behind, with_path, seeing, seeing_at, nothing}
use Rattle.path_scope.proofs.Common.{starts, begun}

-- what is known of a prefix once the beginnings of no more than n steps are seen
abbrev pub seeing_to : ℕ → Seen → Path → Path → Node → Node
seeing_to zero kind a p known = seeing_at 0 kind a p known
seeing_to (suc n) kind a p known = seeing_at (suc n) kind a p (seeing_to n kind a p known)

-- a beginning of n steps has n steps
long : (n : ℕ) (a p : Path) → n ≤ length a.steps → path_eq (prefix n a) p ≡ true → length p.steps ≡ n
long n a p h e = sym (ap (λ (q : Path). length q.steps) ((paths (prefix n a) p).0 e)) ∙ length-take-le n a.steps h

module _ (kind : Seen) (a p : Path) where
  same_at : (b : Bool) (n : ℕ) (known : Node) → path_eq (prefix n a) p ≡ b → b ≡ false → (if b then with_path kind (behind n a) known else known) ≡ known
  same_at true n known e miss = absurd (true≢false miss)
  same_at false n known e miss = refl

  other : (b : Bool) (n : ℕ) → n ≤ length a.steps → (length p.steps ≡ n → ⊥) → path_eq (prefix n a) p ≡ b → b ≡ false
  other true n h apart e = absurd (apart (long n a p h e))
  other false n h apart e = refl

  unbegun : (b : Bool) (n : ℕ) → n ≤ length a.steps → begins p a ≡ false → path_eq (prefix n a) p ≡ b → b ≡ false
  unbegun true n h miss e =
      let at : prefix n a ≡ p = (paths (prefix n a) p).0 e in
      let clash : true ≡ false = sym (begun p a (sym at ∙ ap (λ k. prefix k a) (sym (long n a p h e)))) ∙ miss in
      absurd (true≢false clash)
  unbegun false n h miss e = refl

  -- beginnings that are not this prefix change nothing
  shorter : (n : ℕ) (known : Node) → n ≤ length a.steps → n < length p.steps → seeing_to n kind a p known ≡ known
  shorter zero known h lt = same_at (path_eq (prefix 0 a) p) 0 known refl (other (path_eq (prefix 0 a) p) 0 h (λ e. absurd (omega (arith, e))) refl)
  shorter (suc n) known h lt =
      same_at (path_eq (prefix (suc n) a) p) (suc n) (seeing_to n kind a p known) refl (other (path_eq (prefix (suc n) a) p) (suc n) h (λ e. absurd (omega (arith, e))) refl)
      ∙ shorter n known (omega arith) (omega arith)

  none : (n : ℕ) (known : Node) → n ≤ length a.steps → begins p a ≡ false → seeing_to n kind a p known ≡ known
  none zero known h miss = same_at (path_eq (prefix 0 a) p) 0 known refl (unbegun (path_eq (prefix 0 a) p) 0 h miss refl)
  none (suc n) known h miss =
      same_at (path_eq (prefix (suc n) a) p) (suc n) (seeing_to n kind a p known) refl (unbegun (path_eq (prefix (suc n) a) p) (suc n) h miss refl)
      ∙ none n known (omega arith) miss

  here : (n : ℕ) (known : Node) → IsTrue (begins p a) → length p.steps ≡ n → seeing_at n kind a p known ≡ with_path kind (behind (length p.steps) a) known
  here n known h e =
      let at : path_eq (prefix n a) p ≡ true = (paths (prefix n a) p).1 (sym (starts p a h ∙ ap (λ k. prefix k a) e)) in
      ap (λ b. if b then with_path kind (behind n a) known else known) at ∙ ap (λ k. with_path kind (behind k a) known) (sym e)

  by_length : (b : Bool) (n : ℕ) (known : Node) → (length p.steps == suc n) ≡ b → IsTrue (begins p a) → suc n ≤ length a.steps → length p.steps ≤ suc n
      → (length p.steps ≤ n → seeing_to n kind a p known ≡ with_path kind (behind (length p.steps) a) known) → seeing_to (suc n) kind a p known ≡ with_path kind (behind (length p.steps) a) known
  by_length true n known e h lt le before =
      let is : length p.steps ≡ suc n = (Decides-eqb (length p.steps) (suc n)).0 e in
      ap (seeing_at (suc n) kind a p) (shorter n known (omega arith) (omega (arith, is))) ∙ here (suc n) known h is
  by_length false n known e h lt le before =
      let apart : length p.steps ≡ suc n → ⊥ = λ is. let clash : true ≡ false = sym ((Decides-eqb (length p.steps) (suc n)).1 is) ∙ e in absurd (true≢false clash) in
      same_at (path_eq (prefix (suc n) a) p) (suc n) (seeing_to n kind a p known) refl (other (path_eq (prefix (suc n) a) p) (suc n) lt apart refl)
      ∙ before (le_of_le-suc-ne le apart)

  found : (n : ℕ) (known : Node) → IsTrue (begins p a) → n ≤ length a.steps → length p.steps ≤ n → seeing_to n kind a p known ≡ with_path kind (behind (length p.steps) a) known
  found zero known h lt le = here 0 known h (omega arith)
  found (suc n) known h lt le = by_length (length p.steps == suc n) n known refl h lt le (λ short. found n known h (omega arith) short)

  whole : (b : Bool) (known : Node) → begins p a ≡ b → seeing_to (length a.steps) kind a p known ≡ (if b then with_path kind (behind (length p.steps) a) known else known)
  whole true known h =
      let size = ap (λ (q : Path). length q.steps) (starts p a h) in
      found (length a.steps) known h (omega arith) (omega (arith, size, length-take (length p.steps) a.steps))
  whole false known h = none (length a.steps) known (omega arith) h

  pub seen : (known : Node) → seeing_to (length a.steps) kind a p known ≡ seeing kind a p known
  seen known = whole (begins p a) known refl

  -- a map that is changed at one beginning
  put_by : (b : Bool) (n : ℕ) (g : Path → Option Node) (v : Node) → path_eq (prefix n a) p ≡ b → v ≡ with_path kind (behind n a) (unwrap_or (g (prefix n a)) nothing)
      → unwrap_or (cond b (Some v) (g p)) nothing ≡ (if b then with_path kind (behind n a) (unwrap_or (g p) nothing) else unwrap_or (g p) nothing)
  put_by true n g v e is = is ∙ ap (λ q. with_path kind (behind n a) (unwrap_or (g q) nothing)) ((paths (prefix n a) p).0 e)
  put_by false n g v e is = refl

  pub put : (n : ℕ) (f g : Path → Option Node) (k : Path) (v : Node) (w : Onward) → f p ≡ cond (path_eq k p) (Some v) (g p) → v ≡ with_path kind w (unwrap_or (g k) nothing) → k ≡ prefix n a → w ≡ behind n a
      → unwrap_or (f p) nothing ≡ seeing_at n kind a p (unwrap_or (g p) nothing)
  put n f g k v w new is key more =
      ap (λ o. unwrap_or o nothing) (new ∙ (λ i. cond (path_eq (key i) p) (Some v) (g p)))
      ∙ put_by (path_eq (prefix n a) p) n g v refl (is ∙ (λ i. with_path kind (more i) (unwrap_or (g (key i)) nothing)))

  pub one_more : (n : ℕ) (known old new : Node) → new ≡ seeing_at (n + 1) kind a p old → old ≡ seeing_to n kind a p known → new ≡ seeing_to (n + 1) kind a p known
  one_more n known old new is before =
      let more : n + 1 ≡ suc n = omega arith in
      is ∙ (λ i. seeing_at (more i) kind a p (before i)) ∙ sym (ap (λ k. seeing_to k kind a p known) more)

  pub ended : (n : ℕ) (known new : Node) → n ≡ length a.steps → new ≡ seeing_to n kind a p known → new ≡ seeing kind a p known
  ended n known new all is = is ∙ ap (λ k. seeing_to k kind a p known) all ∙ seen known
