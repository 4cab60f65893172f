-- Each answer of the code is due.
use Rattle.std.proofs.Common.{◌≡◌, ◌⊎◌, ℕ, Bool, true, false, List, Option, Some, None, Result, Err, inl, inr, refl, sym, ap, subst, ◌∙◌}
use Rattle.std.specs.List.{list_any}
use Rattle.core_ir.specs.declared.path.TypeId.{TypeId}
use Rattle.ev_schema.specs.declared.schema.Schema.{Schema}
use Rattle.sdl_ast.specs.declared.declaration.Decl.{Decl}
use Rattle.sdl_ast.specs.declared.declaration.FilePart.{FilePart}
use Rattle.sdl_ast.specs.declared.declaration.SdlFile.{SdlFile}
use Rattle.schema_build.specs.declared.refusal.Broken.{Broken}
use Rattle.schema_build.specs.declared.refusal.SchemaRefusal.{SchemaRefusal}
use Rattle.schema_build.specs.declared.refusal.SchemaRefusal.TheVariants as refusal
use Rattle.schema_build.specs.Lineage.{bases_of, AreLineages}
use Rattle.schema_build.specs.Least.{least_of}
use Rattle.schema_build.specs.Parts.{decls_of, foreign_module, has_unbuilt}
use Rattle.schema_build.specs.Twice.{type_names}
use Rattle.schema_build.specs.Verdict.{first_verdict, later_verdict, schema_of, IsTold, IsDue, IsLater, IsAnswerOf, IsAnswer}

due_unbuilt : (b : Bool) (first : Option Broken) (ds : List Decl) (types : List (List ℕ)) → b ≡ true → IsDue b first ds types (Err refusal.Unbuilt)
due_unbuilt true first ds types e = refl
due_unbuilt false first ds types e = cc

pub unbuilt_due : (foreign : Option ℕ) (ds : List Decl) (b : Bool) → b ≡ list_any has_unbuilt ds → b ≡ true → IsAnswerOf foreign ds (Err refusal.Unbuilt)
unbuilt_due foreign ds b is holds = inr (due_unbuilt (list_any has_unbuilt ds) (first_verdict foreign ds (type_names ds)) ds (type_names ds) (sym is ∙ holds))

due_first : (b : Bool) (first : Option Broken) (broken : Broken) (ds : List Decl) (types : List (List ℕ)) → b ≡ false → first ≡ Some broken → IsDue b first ds types (Err (refusal.Build broken))
due_first true first broken ds types e f = cc
due_first false None broken ds types e f = cc
due_first false (Some other) broken ds types e f = cc

pub first_due : (foreign : Option ℕ) (ds : List Decl) (b : Bool) (types : List (List ℕ)) (broken : Broken) → b ≡ list_any has_unbuilt ds → b ≡ false
    → types ≡ type_names ds → Some broken ≡ first_verdict foreign ds types → IsAnswerOf foreign ds (Err (refusal.Build broken))
first_due foreign ds b types broken is passes names first =
    inr (due_first (list_any has_unbuilt ds) (first_verdict foreign ds (type_names ds)) broken ds (type_names ds) (sym is ∙ passes)
    (subst (λ (ts : List (List ℕ)). first_verdict foreign ds ts ≡ Some broken) names (sym first)))

pub told_later : (ds : List Decl) (types : List (List ℕ)) (bases lines along : List (List TypeId)) (r : Result Schema SchemaRefusal) → bases ≡ bases_of types ds → AreLineages bases lines
    → along ≡ lines → IsTold (later_verdict ds types along) (schema_of ds types along) r → IsLater ds types r
told_later ds types bases lines along r same held is (inl memory) = inl memory
told_later ds types bases lines along r same held is (inr answer) =
    inr (along, subst (λ (x : List (List TypeId)). AreLineages (bases_of types ds) x) (sym is) (subst (λ (x : List (List TypeId)). AreLineages x lines) same held), answer)

due_later : (b : Bool) (first : Option Broken) (ds : List Decl) (types : List (List ℕ)) (r : Result Schema SchemaRefusal) → b ≡ false → first ≡ None → IsDue false None ds types r → IsDue b first ds types r
due_later true first ds types r e f due = cc
due_later false (Some broken) ds types r e f due = cc
due_later false None ds types r e f due = due

pub later_due : (foreign : Option ℕ) (ds : List Decl) (b : Bool) (types : List (List ℕ)) (r : Result Schema SchemaRefusal)
    → b ≡ list_any has_unbuilt ds → b ≡ false → types ≡ type_names ds → None ≡ first_verdict foreign ds types → IsLater ds types r → IsAnswerOf foreign ds r
later_due foreign ds b types r is passes names first (inl memory) = inl memory
later_due foreign ds b types r is passes names first (inr answer) =
    subst (λ (ts : List (List ℕ)). (r ≡ Err refusal.Memory) ⊎ IsDue (list_any has_unbuilt ds) (first_verdict foreign ds ts) ds ts r) names
    (inr (due_later (list_any has_unbuilt ds) (first_verdict foreign ds types) ds types r (sym is ∙ passes) (sym first) answer))

pub answered : (file : SdlFile) (parts : List FilePart) (ds given : List Decl) (foreign : Option ℕ) (r : Result Schema SchemaRefusal)
    → parts ≡ file.parts → foreign ≡ least_of foreign_module parts → ds ≡ decls_of file.parts → given ≡ ds → IsAnswerOf foreign given r → IsAnswer file r
answered file parts ds given foreign r all found declared same answer =
    subst (λ (f : Option ℕ). IsAnswerOf f (decls_of file.parts) r) (found ∙ ap (least_of foreign_module) all)
    (subst (λ (x : List Decl). IsAnswerOf foreign x r) (same ∙ declared) answer)
