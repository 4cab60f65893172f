use Rattle.std.proofs.Common.{◌≡◌, ℕ, List, Option, Some, None, true≢false, refl, sym}
use Rattle.std.specs.Int.{w128, from_be_bytes}
use Rattle.std.specs.Option.{option_map}
use Rattle.uuid.specs.Text.{parsed}
use Rattle.sql_cursor.proofs.literals.id_read.Goals as goal

pub returns-in-Err : goal.returns-in-Err
returns-in-Err c = by_case (parsed c.args.text.now) refl
  where
    by_case : (o : Option (List ℕ)) → parsed c.args.text.now ≡ o → None ≡ option_map (from_be_bytes w128) (parsed c.args.text.now)
    by_case None e = rw e refl
    by_case (Some bytes) e = absurd (true≢false (sym (c.in-Err.ensures.ok.1 (bytes, e))))
