-- What holds of a schema that is built from its text.
use Rattle.std.specs.Prelude.{◌≡◌, List, [], Ok}
use Rattle.ev_schema.specs.Facts.{made_of}
use Rattle.ev_schema.specs.declared.schema.Schema.{Schema}
use Rattle.db_draft.specs.declared.draft.ObjectDraft.{ObjectDraft}
use Rattle.db_store.specs.Fits.{Fits}
use Rattle.schema_build.specs.Verdict.{IsAnswer}
use Rattle.sdl_ast.specs.declared.declaration.SdlFile.{SdlFile}
use Rattle.db_check.specs.Check.{checked}
use Rattle.db_check.specs.Laws.{IsWellFormedSchema}
use Rattle.db_check.specs.declared.store.Store.{Store}

-- a schema that is the answer for a text has what a store asks of it
abbrev pub BuiltSchemasAreWellFormed : Type 0
BuiltSchemasAreWellFormed = (file : SdlFile) (s : Schema) → IsAnswer file (Ok s) → IsWellFormedSchema s

-- the schema without types has it too
abbrev pub EmptySchemaIsWellFormed : Type 0
EmptySchemaIsWellFormed = IsWellFormedSchema (made_of [] [] [] [])

-- the objects of a store fit such a schema
abbrev pub StoresOfTextsFit : Type 0
StoresOfTextsFit = (file : SdlFile) (s : Schema) → IsAnswer file (Ok s) → (ds : List ObjectDraft) (st : Store) → checked s ds ≡ Ok st → Fits s st.objects
