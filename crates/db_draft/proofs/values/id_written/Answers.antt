use Rattle.std.proofs.Common.{◌≡◌, ℕ, List, Option, Some, None, true≢false, refl, sym}
use Rattle.uuid.specs.Text.{parsed}
use Rattle.db_draft.specs.Values.{id_written}
use Rattle.db_draft.proofs.values.id_written.Goals as goal

pub returns-in-Err : goal.returns-in-Err
returns-in-Err c = by_case (parsed c.args.text.now) refl
  where
    by_case : (o : Option (List ℕ)) → parsed c.args.text.now ≡ o → None ≡ id_written c.args.text.now
    by_case None e = rw e refl
    by_case (Some bytes) e = absurd (true≢false (sym (c.in-Err.ensures.ok.1 (bytes, e))))
