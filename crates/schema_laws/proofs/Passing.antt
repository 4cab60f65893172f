-- What no rule that fails says of a schema that is the answer for a text.
use Rattle.std.proofs.Common.{◌≡◌, inl, inr, ℕ, nat_lt, Bool, true, false, List, [], ◌∷◌, Option, Some, None, Ok, cond, refl}
use Rattle.std.specs.List.{list_any}
use Rattle.core_ir.specs.declared.path.TypeId.{TypeId}
use Rattle.ev_schema.specs.declared.schema.Schema.{Schema}
use Rattle.db_store.specs.Fits.{Each}
use Rattle.schema_build.specs.Least.{sooner, at_if, least_of}
use Rattle.schema_build.specs.Lineage.{clashing}
use Rattle.schema_build.specs.Local.{fails_in}
use Rattle.schema_build.specs.Parts.{decls_of, foreign_module, has_unbuilt}
use Rattle.schema_build.specs.Twice.{type_names, repeats}
use Rattle.schema_build.specs.Lineage.{circular}
use Rattle.schema_build.specs.Verdict.{broken, or_else, together, first_verdict, later_verdict, schema_of, told, IsDue, IsAnswerOf, IsAnswer}
use Rattle.schema_build.specs.declared.local.LocalRule.TheVariants as local
use Rattle.schema_build.specs.declared.refusal.Broken.{Broken}
use Rattle.schema_build.specs.declared.refusal.Rule.{Rule}
use Rattle.schema_build.specs.declared.refusal.Rule.TheVariants as rule
use Rattle.sdl_ast.specs.declared.declaration.Decl.{Decl}
use Rattle.sdl_ast.specs.declared.declaration.SdlFile.{SdlFile}

-- ---- bytes

some_if : (b : Bool) (m n : ℕ) → cond b (Some m) (Some n) ≡ None → ⊥
some_if true m n e = cc
some_if false m n e = cc

pub none_sooner : (a b : Option ℕ) → sooner a b ≡ None → (a ≡ None) × (b ≡ None)
none_sooner None b e = (refl, e)
none_sooner (Some a) None e = absurd (cc)
none_sooner (Some a) (Some b) e = absurd (some_if (nat_lt b a) b a e)

pub not_at : (b : Bool) (n : ℕ) → at_if b n ≡ None → b ≡ false
not_at true n e = cc
not_at false n e = refl

pub none_least : {A : Type 0} (fails : A → Option ℕ) (xs : List A) → least_of fails xs ≡ None → Each (λ x. fails x ≡ None) xs
none_least fails [] e = tt
none_least fails (x ∷ more) e = let both = none_sooner (fails x) (least_of fails more) e in (both.0, none_least fails more both.1)

-- ---- phases

neither_phase : (a b : Option Broken) → or_else a b ≡ None → (a ≡ None) × (b ≡ None)
neither_phase None b e = (refl, e)
neither_phase (Some x) b e = absurd (cc)

not_broken : (r : Rule) (o : Option ℕ) → broken r o ≡ None → o ≡ None
not_broken r None e = refl
not_broken r (Some byte) e = cc

module _ (ds : List Decl) (types : List (List ℕ)) where
  known : (foreign : Option ℕ) → first_verdict foreign ds types ≡ None → fails_in types local.M2 ds ≡ None
  known foreign e =
      let first = together (fails_in types local.M10 ds) (sooner foreign (fails_in types local.M11 ds)) in
      let later = neither_phase first (or_else (broken rule.M1 (repeats ds)) (broken rule.M2 (fails_in types local.M2 ds))) e in
      not_broken rule.M2 (fails_in types local.M2 ds) (neither_phase (broken rule.M1 (repeats ds)) (broken rule.M2 (fails_in types local.M2 ds)) later.1).1

  apart : (lines : List (List TypeId)) → later_verdict ds types lines ≡ None → (clashing lines ds ≡ None) × (fails_in types local.M6 ds ≡ None)
  apart lines e =
      let last = or_else (broken rule.M5 (fails_in types local.M5 ds)) (broken rule.M6 (fails_in types local.M6 ds)) in
      let later = neither_phase (broken rule.M3 (circular lines ds)) (or_else (broken rule.M4 (clashing lines ds)) last) e in
      let names = neither_phase (broken rule.M4 (clashing lines ds)) last later.1 in
      let both = neither_phase (broken rule.M5 (fails_in types local.M5 ds)) (broken rule.M6 (fails_in types local.M6 ds)) names.1 in
      (not_broken rule.M4 (clashing lines ds) names.0, not_broken rule.M6 (fails_in types local.M6 ds) both.1)

  told_ok : (o : Option Broken) (due s : Schema) → Ok s ≡ told o due → (o ≡ None) × (s ≡ due)
  told_ok None due s e = let is : s ≡ due = cc in (refl, is)
  told_ok (Some b) due s e = absurd (cc)

  -- the schema is that of the declarations, and no rule that it rests on fails
  abbrev pub IsBuilt : Schema → Type 0
  IsBuilt s = (lines : List (List TypeId)) × (s ≡ schema_of ds types lines) × (fails_in types local.M2 ds ≡ None) × (clashing lines ds ≡ None) × (fails_in types local.M6 ds ≡ None)

  due_ok : (b : Bool) (foreign : Option ℕ) (o : Option Broken) (s : Schema) → first_verdict foreign ds types ≡ o → IsDue b o ds types (Ok s) → IsBuilt s
  due_ok true foreign o s e due = absurd (cc)
  due_ok false foreign (Some b) s e due = absurd (cc)
  due_ok false foreign None s e due =
      let answer = told_ok (later_verdict ds types due.0) (schema_of ds types due.0) s due.2 in
      let both = apart due.0 answer.0 in
      (due.0, answer.1, known foreign e, both.0, both.1)

answer_built : (foreign : Option ℕ) (ds : List Decl) (s : Schema) → IsAnswerOf foreign ds (Ok s) → IsBuilt ds (type_names ds) s
answer_built foreign ds s (inl memory) = absurd (cc)
answer_built foreign ds s (inr due) = due_ok ds (type_names ds) (list_any has_unbuilt ds) foreign (first_verdict foreign ds (type_names ds)) s refl due

pub is_built : (file : SdlFile) (s : Schema) → IsAnswer file (Ok s) → IsBuilt (decls_of file.parts) (type_names (decls_of file.parts)) s
is_built file s answer = answer_built (least_of foreign_module file.parts) (decls_of file.parts) s answer
