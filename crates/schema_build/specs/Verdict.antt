-- Which rule a schema text breaks first, and where.
use Rattle.std.specs.Prelude.{◌≡◌, ◌⊎◌, ℕ, nat_lt, Bool, true, false, List, [], Option, Some, None, Result, Ok, Err, if◌then◌else◌}
use Rattle.std.specs.List.{list_any}
use Rattle.core_ir.specs.declared.path.TypeId.{TypeId}
use Rattle.ev_schema.specs.Facts.{made_of}
use Rattle.ev_schema.specs.declared.schema.Schema.{Schema}
use Rattle.sdl_ast.specs.declared.declaration.Decl.{Decl}
use Rattle.sdl_ast.specs.declared.declaration.SdlFile.{SdlFile}
use Rattle.schema_build.specs.declared.local.LocalRule.TheVariants as local
use Rattle.schema_build.specs.declared.refusal.Rule.{Rule}
use Rattle.schema_build.specs.declared.refusal.Rule.TheVariants as rule
use Rattle.schema_build.specs.declared.refusal.Broken.{Broken}
use Rattle.schema_build.specs.declared.refusal.SchemaRefusal.{SchemaRefusal}
use Rattle.schema_build.specs.declared.refusal.SchemaRefusal.TheVariants as refusal
use Rattle.schema_build.specs.Least.{sooner, least_of}
use Rattle.schema_build.specs.Lineage.{bases_of, AreLineages, circular, clashing, declared_names}
use Rattle.schema_build.specs.Local.{fails_in}
use Rattle.schema_build.specs.Made.{pointers_from, globals_of, declared_numbers, infos_from}
use Rattle.schema_build.specs.Parts.{decls_of, foreign_module, has_unbuilt}
use Rattle.schema_build.specs.Twice.{type_names, repeats}

-- a rule that fails at a byte, if it does
abbrev pub broken : Rule → Option ℕ → Option Broken
broken r None = None
broken r (Some byte) = Some (record { rule = r; byte = byte })

-- the phases in order: what the first tells, and else what the next one does
abbrev pub or_else : Option Broken → Option Broken → Option Broken
or_else (Some b) later = Some b
or_else None later = later

-- M10 and M11 are one phase: the lesser byte is told, and at one byte M10
abbrev pub together : Option ℕ → Option ℕ → Option Broken
together None b = broken rule.M11 b
together (Some a) None = broken rule.M10 (Some a)
together (Some a) (Some b) = if nat_lt b a then broken rule.M11 (Some b) else broken rule.M10 (Some a)

-- The rules that need no types that others extend, where the first module that is not `default` is given.
abbrev pub first_verdict : Option ℕ → List Decl → List (List ℕ) → Option Broken
first_verdict foreign ds types =
    or_else (together (fails_in types local.M10 ds) (sooner foreign (fails_in types local.M11 ds)))
    (or_else (broken rule.M1 (repeats ds)) (broken rule.M2 (fails_in types local.M2 ds)))

-- the rules from M3 on, where the types that each type extends are given
abbrev pub later_verdict : List Decl → List (List ℕ) → List (List TypeId) → Option Broken
later_verdict ds types lines =
    or_else (broken rule.M3 (circular lines ds))
    (or_else (broken rule.M4 (clashing lines ds))
    (or_else (broken rule.M5 (fails_in types local.M5 ds)) (broken rule.M6 (fails_in types local.M6 ds))))

-- the schema of declarations that break no rule
abbrev pub schema_of : List Decl → List (List ℕ) → List (List TypeId) → Schema
schema_of ds types lines =
    made_of (infos_from (declared_numbers 0 (declared_names ds)) lines 0 ds) (pointers_from types 0 ds) (globals_of types ds) []

-- a rule that fails, or else the schema
abbrev pub told : Option Broken → Schema → Result Schema SchemaRefusal
told None schema = Ok schema
told (Some b) schema = Err (refusal.Build b)

-- The first rule that fails is told, and where none does the schema is given; or memory ran out.
abbrev pub IsTold : Option Broken → Schema → Result Schema SchemaRefusal → Type 0
IsTold later schema result = (result ≡ Err refusal.Memory) ⊎ (result ≡ told later schema)

-- What is answered: a text with a computed pointer or a policy is not built yet; else the first rule that fails is told,
-- and where none does the schema is given. The types that each type extends are asked for where M2 passes.
abbrev pub IsDue : Bool → Option Broken → List Decl → List (List ℕ) → Result Schema SchemaRefusal → Type 0
IsDue true first ds types result = result ≡ Err refusal.Unbuilt
IsDue false (Some b) ds types result = result ≡ Err (refusal.Build b)
IsDue false None ds types result =
    (lines : List (List TypeId)) × AreLineages (bases_of types ds) lines × (result ≡ told (later_verdict ds types lines) (schema_of ds types lines))

-- The answer where no rule before M3 fails is due, or memory ran out.
abbrev pub IsLater : List Decl → List (List ℕ) → Result Schema SchemaRefusal → Type 0
IsLater ds types result = (result ≡ Err refusal.Memory) ⊎ IsDue false None ds types result

-- The answer for some declarations is due, or memory ran out.
abbrev pub IsAnswerOf : Option ℕ → List Decl → Result Schema SchemaRefusal → Type 0
IsAnswerOf foreign ds result =
    (result ≡ Err refusal.Memory) ⊎ IsDue (list_any has_unbuilt ds) (first_verdict foreign ds (type_names ds)) ds (type_names ds) result

-- the answer for a text
abbrev pub IsAnswer : SdlFile → Result Schema SchemaRefusal → Type 0
IsAnswer file result = IsAnswerOf (least_of foreign_module file.parts) (decls_of file.parts) result

-- The rules give an answer for a text, and it is not want of memory.
abbrev pub HasAnswer : SdlFile → Type 0
HasAnswer file = (result : Result Schema SchemaRefusal) × (result ≡ Err refusal.Memory → ⊥) × IsAnswer file result
