-- The turns of the loops that add factored prefixes.
use Rattle.std.proofs.Common.{◌≡◌, ℕ, suc, ◌+◌, ◌-◌, ◌<◌, Bool, List, [], ◌∷◌, ◌++◌, length, get_or, drop, refl, ap, sym, ◌∙◌, arith, add-one, drop-cons, if◌then◌else◌}
use Rattle.std.specs.List.{filter, flat_map}
use Rattle.std.proofs.lemmas.List.Elements.{filter-append}
use Rattle.core_ir.specs.declared.tree.Direct.{Direct}
use Rattle.core_ir.specs.declared.tree.Occurrence.{Occurrence}
use Rattle.path_scope.specs.declared.prefix.Prefix.{Prefix}
use Rattle.path_scope.specs.Factored.{prefix_at, beginnings, is_listed, added}

pub added_append : (found xs ys : List Prefix) → added found (xs ++ ys) ≡ added (added found xs) ys
added_append found [] ys = refl
added_append found (x ∷ xs) ys = added_append (if is_listed found x.path then found else found ++ x ∷ []) xs ys

module _ (keep : Prefix → Bool) where
  added_kept : (found xs ys : List Prefix) → added found (filter keep (xs ++ ys)) ≡ added (added found (filter keep xs)) (filter keep ys)
  added_kept found xs ys = ap (added found) (filter-append keep xs ys) ∙ added_append found (filter keep xs) (filter keep ys)

  pub longer : (ds : List Direct) (o : Occurrence) (found more : List Prefix) (i n : ℕ) → i < n → more ≡ added found (filter keep (prefix_at ds o (i + 1) ∷ []))
      → added more (filter keep (beginnings ds o (i + 1 + 1) (n - (i + 1)))) ≡ added found (filter keep (beginnings ds o (i + 1) (n - i)))
  longer ds o found more i n lt is =
      let rest = beginnings ds o (i + 1 + 1) (n - (i + 1)) in
      let left : n - i ≡ suc (n - (i + 1)) = omega arith in
      ap (λ f. added f (filter keep rest)) is
      ∙ sym (added_kept found (prefix_at ds o (i + 1) ∷ []) rest)
      ∙ sym (ap (λ m. added found (filter keep (beginnings ds o (i + 1) m))) left)

  pub further : (g : Occurrence → List Prefix) (os : List Occurrence) (found more : List Prefix) (i : ℕ) (x : Occurrence) → i < length os → x ≡ get_or os i x
      → more ≡ added found (filter keep (g x)) → added more (filter keep (flat_map g (drop (i + 1) os))) ≡ added found (filter keep (flat_map g (drop i os)))
  further g os found more i x lt at is =
      let rest : drop i os ≡ x ∷ drop (suc i) os = drop-cons os i x lt ∙ ap (λ y. y ∷ drop (suc i) os) (sym at) in
      (λ j. added (is j) (filter keep (flat_map g (drop (add-one i j) os))))
      ∙ sym (added_kept found (g x) (flat_map g (drop (suc i) os)))
      ∙ sym (ap (λ l. added found (filter keep (flat_map g l))) rest)
