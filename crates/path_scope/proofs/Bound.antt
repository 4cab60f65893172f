-- The paths that are bound within a scope.
use Rattle.std.proofs.Common.{◌≡◌, List, [], ◌∷◌, ◌++◌, refl, ap, sym, ◌∙◌, append_assoc}
use Rattle.core_ir.specs.declared.path.Path.{Path}
use Rattle.path_scope.specs.declared.prefix.Prefix.{Prefix}
use Rattle.path_scope.specs.Factored.{bound_within}

pub within_last : (fs : List Prefix) (f : Prefix) (bound : List Path) → bound_within (fs ++ f ∷ []) bound ≡ f.path ∷ bound_within fs bound
within_last [] f bound = refl
within_last (g ∷ fs) f bound = within_last fs f (g.path ∷ bound)

within_both : (fs : List Prefix) (new bound : List Path) → bound_within fs (new ++ bound) ≡ bound_within fs new ++ bound
within_both [] new bound = refl
within_both (f ∷ fs) new bound = within_both fs (f.path ∷ new) bound

pub within_apart : (fs : List Prefix) (bound : List Path) → bound_within fs bound ≡ bound_within fs [] ++ bound
within_apart fs bound = within_both fs [] bound

pub shorter : (out more : List Path) (rest before : List Prefix) (last : Prefix) (p : Path) → rest ≡ before ++ last ∷ [] → p ≡ last.path → more ≡ out ++ p ∷ []
    → more ++ bound_within before [] ≡ out ++ bound_within rest []
shorter out more rest before last p split same pushed =
    ap (λ l. l ++ bound_within before []) pushed
    ∙ append_assoc out (p ∷ []) (bound_within before [])
    ∙ (λ i. out ++ same i ∷ bound_within before [])
    ∙ sym (λ i. out ++ within_last before last [] i)
    ∙ sym (λ i. out ++ bound_within (split i) [])
