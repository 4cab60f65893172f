-- The longest common prefix of two paths, by the test and by its meaning.
use Rattle.std.proofs.Common.{◌≡◌, ℕ, suc, ◌+◌, ◌≤◌, Bool, true, false, List, [], ◌∷◌, length, IsTrue, refl, sym, ap, ◌∙◌, arith, if◌then◌else◌}
use Rattle.std.specs.Prelude.{take}
use Rattle.std.proofs.lemmas.List.{length-take, length-take-le, take-take}
use Rattle.std.proofs.lemmas.Bool.Decides.{Decides-and}
use Rattle.core_ir.specs.declared.path.Path.{Path}
use Rattle.core_ir.specs.declared.path.Step.{Step}
use Rattle.core_ir.specs.Path.{root_eq, step_eq, path_eq, alike, prefix, begins}
use Rattle.core_ir.proofs.Paths.{roots, steps, paths}
use Rattle.path_scope.specs.Factored.{is_common}
use Rattle.path_scope.specs.FactoredLaw.{IsLongestCommon}

-- the first steps that two lists have alike are the same, and no longer beginning is in both
alike_by : (b : Bool) (s t : Step) (n : ℕ) (ss ts : List Step) → step_eq s t ≡ b → take n ss ≡ take n ts → take (if b then n + 1 else 0) (s ∷ ss) ≡ take (if b then n + 1 else 0) (t ∷ ts)
alike_by true s t n ss ts e h = let more : n + 1 ≡ suc n = omega arith in rw more (λ i. (steps s t).0 e i ∷ h i)
alike_by false s t n ss ts e h = refl

alike_same : (ss ts : List Step) → take (alike ss ts) ss ≡ take (alike ss ts) ts
alike_same [] ts = refl
alike_same (s ∷ ss) [] = refl
alike_same (s ∷ ss) (t ∷ ts) = alike_by (step_eq s t) s t (alike ss ts) ss ts refl (alike_same ss ts)

within_by : (b : Bool) (n m k : ℕ) → n ≤ m → n ≤ k → (if b then n + 1 else 0) ≤ suc m
within_by true n m k h j = omega arith
within_by false n m k h j = omega arith

alike_within : (ss ts : List Step) → alike ss ts ≤ length ss
alike_within [] ts = omega arith
alike_within (s ∷ ss) [] = omega arith
alike_within (s ∷ ss) (t ∷ ts) = within_by (step_eq s t) (alike ss ts) (length ss) (alike ss ts) (alike_within ss ts) (omega arith)

-- a beginning of both is no longer than what they have alike
longest_by : (b : Bool) (s t : Step) (n k : ℕ) → step_eq s t ≡ b → s ≡ t → k ≤ n → suc k ≤ (if b then n + 1 else 0)
longest_by true s t n k e same h = omega arith
longest_by false s t n k e same h = let clash : true ≡ false = sym ((steps s t).1 same) ∙ e in absurd cc

alike_longest : (ps ss ts : List Step) → ps ≡ take (length ps) ss → ps ≡ take (length ps) ts → length ps ≤ alike ss ts
alike_longest [] ss ts e f = omega arith
alike_longest (p ∷ ps) [] ts e f = absurd cc
alike_longest (p ∷ ps) (s ∷ ss) [] e f = absurd cc
alike_longest (p ∷ ps) (s ∷ ss) (t ∷ ts) e f =
    let heads : s ≡ t = cc in
    let left : ps ≡ take (length ps) ss = cc in
    let right : ps ≡ take (length ps) ts = cc in
    longest_by (step_eq s t) s t (alike ss ts) (length ps) refl heads (alike_longest ps ss ts left right)

take_short : (k n : ℕ) (ss : List Step) → k ≤ n → take k (take n ss) ≡ take k ss
take_short k n ss h = take-take k n ss h

pub starts : (p a : Path) → IsTrue (begins p a) → p ≡ prefix (length p.steps) a
starts p a = (paths p (prefix (length p.steps) a)).0

pub begun : (p a : Path) → p ≡ prefix (length p.steps) a → IsTrue (begins p a)
begun p a = (paths p (prefix (length p.steps) a)).1

module _ (p a b : Path) where
  abbrev n : ℕ
  n = alike a.steps b.steps

  pub is_longest : IsTrue (is_common p a b) → IsLongestCommon p a b
  is_longest h =
      let both = (Decides-and (root_eq a.root b.root) (path_eq p (prefix n a)) (roots a.root b.root) (paths p (prefix n a))).0 h in
      let root_is : a.root ≡ b.root = both.0 in
      let path_is : p ≡ prefix n a = both.1 in
      let long : length p.steps ≡ n = ap (λ (q : Path). length q.steps) path_is ∙ length-take-le n a.steps (alike_within a.steps b.steps) in (
        begun p a (path_is ∙ ap (λ k. prefix k a) (sym long)),
        begun p b (path_is ∙ (λ i. record { root = root_is i; steps = alike_same a.steps b.steps i }) ∙ ap (λ k. prefix k b) (sym long)),
        λ q qa qb.
            let ea : q ≡ prefix (length q.steps) a = starts q a qa in
            let eb : q ≡ prefix (length q.steps) b = starts q b qb in
            let short : length q.steps ≤ n = alike_longest q.steps a.steps b.steps (ap (λ (r : Path). r.steps) ea) (ap (λ (r : Path). r.steps) eb) in
            let again : take (length q.steps) (take n a.steps) ≡ take (length q.steps) a.steps = take_short (length q.steps) n a.steps short in
            begun q p (ea ∙ sym (ap (λ r. prefix (length q.steps) r) path_is ∙ (λ i. record { root = a.root; steps = again i }))),
      )

  pub is_common_by : IsLongestCommon p a b → IsTrue (is_common p a b)
  is_common_by h =
      let ea : p ≡ prefix (length p.steps) a = starts p a h.0 in
      let eb : p ≡ prefix (length p.steps) b = starts p b h.1 in
      let root_is : a.root ≡ b.root = sym (ap (λ (r : Path). r.root) ea) ∙ ap (λ (r : Path). r.root) eb in
      let short : length p.steps ≤ n = alike_longest p.steps a.steps b.steps (ap (λ (r : Path). r.steps) ea) (ap (λ (r : Path). r.steps) eb) in
      let long : length (take n a.steps) ≡ n = length-take-le n a.steps (alike_within a.steps b.steps) in
      let qa : IsTrue (begins (prefix n a) a) = begun (prefix n a) a (ap (λ k. prefix k a) (sym long)) in
      let qb : IsTrue (begins (prefix n a) b) = begun (prefix n a) b ((λ i. record { root = root_is i; steps = alike_same a.steps b.steps i }) ∙ ap (λ k. prefix k b) (sym long)) in
      let eq : prefix n a ≡ prefix (length (take n a.steps)) p = starts (prefix n a) p (h.2 (prefix n a) qa qb) in
      let bound : length (take n a.steps) ≤ length p.steps = let e = ap (λ (r : Path). length r.steps) eq in omega (arith, e, length-take (length (take n a.steps)) p.steps) in
      let same : length p.steps ≡ n = omega arith in
      (Decides-and (root_eq a.root b.root) (path_eq p (prefix n a)) (roots a.root b.root) (paths p (prefix n a))).1 (root_is, ea ∙ ap (λ k. prefix k a) same)
