-- The objects that are loaded from a text fit the schema.
use Rattle.std.proofs.Common.{◌≡◌, inl, inr, List, Option, Some, None, Result, Ok, Err}
use Rattle.ev_schema.specs.declared.schema.Schema.{Schema}
use Rattle.db_draft.specs.Told.{told}
use Rattle.db_draft.specs.declared.draft.ObjectDraft.{ObjectDraft}
use Rattle.db_draft.specs.declared.refusal.Broken.{Broken}
use Rattle.db_store.specs.Fits.{Fits}
use Rattle.db_check.specs.Check.{checked}
use Rattle.db_check.specs.Laws.{IsWellFormedSchema}
use Rattle.db_check.specs.declared.store.Store.{Store}
use Rattle.db_check.proofs.StoreLaws.{all_fit}
use Rattle.db_load.specs.Document.{document}
use Rattle.db_load.specs.Data.{stored}
use Rattle.db_load.specs.Laws.{LoadedObjectsFit}

told_ok : (r : Result Store Broken) (st : Store) → Ok st ≡ told r → r ≡ Ok st
told_ok (Ok due) st e = cc
told_ok (Err b) st e = absurd (cc)

module _ (s : Schema) (st : Store) (well : IsWellFormedSchema s) where
  stored_fit : (o : Option (List ObjectDraft)) → Ok st ≡ stored s o → Fits s st.objects
  stored_fit None e = absurd (cc)
  stored_fit (Some ds) e = all_fit s well ds st (told_ok (checked s ds) st e)

pub loaded_fit : LoadedObjectsFit
loaded_fit text s st well (inl memory) = absurd (cc)
loaded_fit text s st well (inr (inl is)) = stored_fit s st well (document is.0) is.2
loaded_fit text s st well (inr (inr none)) = absurd (cc (none.1))
