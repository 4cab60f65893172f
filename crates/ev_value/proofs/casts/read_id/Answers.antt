use Rattle.std.proofs.Common.{◌≡◌, ℕ, List, Option, Some, None, true≢false, refl, sym}
use Rattle.uuid.specs.Text.{parsed}
use Rattle.ev_value.specs.Casts.{id_written, read_item}
use Rattle.ev_value.specs.declared.item.Item.TheVariants as item
use Rattle.ev_value.specs.declared.item.Fault.TheVariants as fault
use Rattle.ev_value.proofs.casts.read_id.Goals as goal

pub returns-in-Err : goal.returns-in-Err
returns-in-Err c = by_case (parsed c.args.text.now) refl
  where
    by_case : (o : Option (List ℕ)) → parsed c.args.text.now ≡ o → read_item (id_written c.args.text.now) ≡ item.Fault fault.CastText
    by_case None e = rw e
    by_case (Some bytes) e = absurd (true≢false (sym (c.in-Err.ensures.ok.1 (bytes, e))))
