-- Lists that a loop builds, one step later.
use Rattle.std.proofs.Common.{◌≡◌, ◌<◌, ◌+◌, ◌-◌, ℕ, suc, List, [], ◌∷◌, ◌++◌, reverse, sym, ap, ◌∙◌, arith}
use Rattle.std.proofs.lemmas.List.{append-nil, append_assoc, reverse-append}
use Rattle.core_ir.specs.declared.path.PtrId.{PtrId}
use Rattle.sdl_ast.specs.declared.declaration.Decl.{Decl}
use Rattle.sdl_ast.specs.declared.declaration.FilePart.{FilePart}
use Rattle.schema_build.specs.Made.{numbers_from}
use Rattle.schema_build.specs.Parts.{decls_in, decls_of}

numbers_step : (first place count : ℕ) → place < count
    → numbers_from (first + place) (count - place) ≡ record { 0 = first + place } ∷ numbers_from (first + (place + 1)) (count - (place + 1))
numbers_step first place count h =
    let left : count - place ≡ suc (count - (place + 1)) = omega (arith, h) in
    let next : suc (first + place) ≡ first + (place + 1) = omega arith in
    ap (numbers_from (first + place)) left ∙ ap (λ (n : ℕ). record { 0 = first + place } ∷ numbers_from n (count - (place + 1))) next

pub numbers_added : (done all : List PtrId) (first place count number : ℕ) → number ≡ first + place → place < count → all ≡ done ++ record { 0 = number } ∷ []
    → all ++ numbers_from (first + (place + 1)) (count - (place + 1)) ≡ done ++ numbers_from (first + place) (count - place)
numbers_added done all first place count number is h added =
    ap (λ (x : List PtrId). x ++ numbers_from (first + (place + 1)) (count - (place + 1))) added
    ∙ append_assoc done (record { 0 = number } ∷ []) (numbers_from (first + (place + 1)) (count - (place + 1)))
    ∙ ap (λ (n : ℕ). done ++ record { 0 = n } ∷ numbers_from (first + (place + 1)) (count - (place + 1))) is
    ∙ ap (λ (x : List PtrId). done ++ x) (sym (numbers_step first place count h))

decls_later : (more : List FilePart) (part : FilePart) → decls_of (more ++ part ∷ []) ≡ decls_of more ++ decls_in part
decls_later [] part = append-nil (decls_in part)
decls_later (p ∷ more) part = ap (λ (ds : List Decl). decls_in p ++ ds) (decls_later more part) ∙ sym (append_assoc (decls_in p) (decls_of more) (decls_in part))

pub decls_put : (done all : List Decl) (left more : List FilePart) (part : FilePart) → left ≡ more ++ part ∷ [] → all ≡ done ++ reverse (decls_in part)
    → all ++ reverse (decls_of more) ≡ done ++ reverse (decls_of left)
decls_put done all left more part popped put =
    ap (λ (ds : List Decl). ds ++ reverse (decls_of more)) put
    ∙ append_assoc done (reverse (decls_in part)) (reverse (decls_of more))
    ∙ ap (λ (ds : List Decl). done ++ ds) (sym (reverse-append (decls_of more) (decls_in part)) ∙ ap reverse (sym (decls_later more part)) ∙ ap (λ (ps : List FilePart). reverse (decls_of ps)) (sym popped))
