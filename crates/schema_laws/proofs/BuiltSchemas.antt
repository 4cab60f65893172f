-- A schema that is built from its text has what a store asks of it.
use Rattle.std.proofs.Common.{◌≡◌, ℕ, List, [], None, refl, sym, subst}
use Rattle.core_ir.specs.declared.path.TypeId.{TypeId}
use Rattle.schema_build.specs.Lineage.{clashing}
use Rattle.schema_build.specs.Local.{fails_in}
use Rattle.schema_build.specs.declared.local.LocalRule.TheVariants as rule
use Rattle.sdl_ast.specs.declared.declaration.Decl.{Decl}
use Rattle.schema_build.specs.Parts.{decls_of}
use Rattle.schema_build.specs.Twice.{type_names}
use Rattle.schema_build.specs.Verdict.{schema_of}
use Rattle.db_check.specs.Laws.{IsWellFormedSchema}
use Rattle.db_check.proofs.StoreLaws.{all_fit}
use Rattle.schema_laws.specs.Laws.{BuiltSchemasAreWellFormed, EmptySchemaIsWellFormed, StoresOfTextsFit}
use Rattle.schema_laws.proofs.Passing.{is_built}
use Rattle.schema_laws.proofs.PointerInfos.{infos_sound}
use Rattle.schema_laws.proofs.TypePointers.{pointers_differ}

-- the schema of declarations is well formed where no rule that it rests on fails
declared_well_formed : (ds : List Decl) (types : List (List ℕ)) (lines : List (List TypeId)) → fails_in types rule.M2 ds ≡ None → clashing lines ds ≡ None → fails_in types rule.M6 ds ≡ None → IsWellFormedSchema (schema_of ds types lines)
declared_well_formed ds types lines known once apart = record {
  names = pointers_differ types ds lines once;
  stored = λ p info u k e. (infos_sound types ds known apart p.0 info k).0 u e;
  properties = λ p info k. (infos_sound types ds known apart p.0 info k).1;
}

pub well_formed : BuiltSchemasAreWellFormed
well_formed file s answer =
    let ds = decls_of file.parts in
    let types = type_names ds in
    let built = is_built file s answer in
    subst IsWellFormedSchema (sym built.1) (declared_well_formed ds types built.0 built.2 built.3 built.4)

pub empty_well_formed : EmptySchemaIsWellFormed
empty_well_formed = declared_well_formed [] [] [] refl refl refl

pub stores_fit : StoresOfTextsFit
stores_fit file s answer ds st e = all_fit s (well_formed file s answer) ds st e
