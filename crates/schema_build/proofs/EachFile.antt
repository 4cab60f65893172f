-- Each surface tree of a schema has an answer that is not want of memory.
use Rattle.std.proofs.Common.{◌≡◌, ◌⊎◌, ℕ, zero, suc, ◌<◌, Bool, true, false, List, [], ◌∷◌, ◌++◌, length, Option, Some, None, Result, Err, inl, inr, refl, ap, arith, rules}
use Rattle.std.specs.List.{list_any}
use Rattle.core_ir.specs.declared.path.TypeId.{TypeId}
use Rattle.ev_schema.specs.declared.schema.Schema.{Schema}
use Rattle.sdl_ast.specs.declared.declaration.Decl.{Decl}
use Rattle.sdl_ast.specs.declared.declaration.SdlFile.{SdlFile}
use Rattle.schema_build.specs.declared.lineage.Search.{Search}
use Rattle.schema_build.specs.declared.refusal.Broken.{Broken}
use Rattle.schema_build.specs.declared.refusal.SchemaRefusal.{SchemaRefusal}
use Rattle.schema_build.specs.declared.refusal.SchemaRefusal.TheVariants as refusal
use Rattle.schema_build.specs.Least.{least_of}
use Rattle.schema_build.specs.Lineage.{at, bases_of, IsLineage, AreLineages}
use Rattle.schema_build.specs.Parts.{decls_of, foreign_module, has_unbuilt}
use Rattle.schema_build.specs.Search.{AreWithin, none_found, all_noted, found_from, left_of, IsSearch}
use Rattle.schema_build.specs.Twice.{type_names}
use Rattle.schema_build.specs.Verdict.{first_verdict, later_verdict, schema_of, told, IsDue, HasAnswer}
use Rattle.schema_build.proofs.BaseLaws.{bases_within}
use Rattle.schema_build.proofs.SearchLaws.{begins, goes_on, nearer, finds_lineage, lines_more}

-- ---- lineages

last_or_none : {A : Type 0} (xs : List A) → (xs ≡ []) ⊎ ((front : List A) × (x : A) × (xs ≡ front ++ x ∷ []))
last_or_none [] = inl refl
last_or_none (x ∷ xs) = elim (last_or_none xs) [
  | inl none ↦ inr ([], x, ap (λ ys. x ∷ ys) none)
  | inr is ↦ inr (x ∷ is.0, is.1, ap (λ ys. x ∷ ys) is.2)
]

module _ (bases : List (List TypeId)) (within : AreWithin bases) where
  abbrev Lineage : TypeId → Type 0
  Lineage t = (line : List TypeId) × IsLineage bases t line

  search_on : (t : TypeId) (n : ℕ) (s : Search) → left_of s < suc n → IsSearch bases t s → ((s : Search) → left_of s < n → IsSearch bases t s → Lineage t) → Lineage t
  search_on t n s near held again = elim (last_or_none s.pending) [
    | inl none ↦ (found_from 0 s.found, finds_lineage bases t s held none)
    | inr is ↦
        let p : Search = record { found = s.found; pending = is.0 } in
        again (all_noted p (at bases is.1.0)) (omega (arith, nearer bases is.1 s p refl is.2, near)) (goes_on bases t is.1 s p within refl is.2 held)
  ]

  search_from : (t : TypeId) (n : ℕ) (s : Search) → left_of s < n → IsSearch bases t s → Lineage t
  search_from t zero s near held = absurd (omega (arith, near))
  search_from t (suc n) s near held = search_on t n s near held (search_from t n)

  lineage : (t : TypeId) → Lineage t
  lineage t =
      let s = all_noted (none_found (length bases)) (at bases t.0) in
      search_from t (suc (left_of s)) s (omega arith) (begins bases t within)

  abbrev Lineages : ℕ → Type 0
  Lineages n = (lines : List (List TypeId)) × (length lines ≡ n) × ((a : TypeId) → a.0 < n → IsLineage bases a (at lines a.0))

  one_more : (n : ℕ) → Lineages n → Lineage (record { 0 = n }) → Lineages (suc n)
  one_more n (lines, size, are) (line, is) =
      let more = lines_more bases lines (lines ++ line ∷ []) line n size are is refl in
      (lines ++ line ∷ [], omega (arith, more.0), λ a below. more.1 a (omega (arith, below)))

  first_lineages : (n : ℕ) → Lineages n
  first_lineages zero = ([], refl, λ a below. absurd (omega (arith, below)))
  first_lineages (suc n) = one_more n (first_lineages n) (lineage (record { 0 = n }))

  lineages : (lines : List (List TypeId)) × AreLineages bases lines
  lineages = let all = first_lineages (length bases) in (all.0, (all.1, all.2))

-- ---- answers

told_not_memory : (broken : Option Broken) (schema : Schema) → told broken schema ≡ Err refusal.Memory → ⊥
told_not_memory None schema e = search rules
told_not_memory (Some b) schema e = search rules

build_not_memory : (b : Broken) → ◌≡◌ {A = Result Schema SchemaRefusal} (Err (refusal.Build b)) (Err refusal.Memory) → ⊥
build_not_memory b e = search rules

unbuilt_not_memory : ◌≡◌ {A = Result Schema SchemaRefusal} (Err refusal.Unbuilt) (Err refusal.Memory) → ⊥
unbuilt_not_memory e = search rules

each_due : (unbuilt : Bool) (first : Option Broken) (ds : List Decl) (types : List (List ℕ)) → AreWithin (bases_of types ds)
    → (r : Result Schema SchemaRefusal) × (r ≡ Err refusal.Memory → ⊥) × IsDue unbuilt first ds types r
each_due true first ds types within = (Err refusal.Unbuilt, unbuilt_not_memory, refl)
each_due false (Some b) ds types within = (Err (refusal.Build b), build_not_memory b, refl)
each_due false None ds types within =
    let lines = lineages (bases_of types ds) within in
    (told (later_verdict ds types lines.0) (schema_of ds types lines.0), told_not_memory (later_verdict ds types lines.0) (schema_of ds types lines.0), (lines.0, lines.1, refl))

pub each_file : (file : SdlFile) → HasAnswer file
each_file file =
    let ds = decls_of file.parts in
    let due = each_due (list_any has_unbuilt ds) (first_verdict (least_of foreign_module file.parts) ds (type_names ds)) ds (type_names ds) (bases_within ds) in
    (due.0, due.1, inr due.2)
