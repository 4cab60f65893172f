use Rattle.std.proofs.Common.{sym, ap, ◌∙◌}
use Rattle.db_ids.specs.Heads.{heads}
use Rattle.db_check.specs.Check.{headed, valued}
use Rattle.db_check.proofs.Ruled.{is_told}
use Rattle.db_check.proofs.checking.check.Goals as goal

pub valued_objects-requires-clause-written : goal.valued_objects-requires-clause-written
valued_objects-requires-clause-written c =
    let s = c.args.schema.now in
    let hs = c.in-Ok.heads in
    let types = c.types.result.now in
    let early = c.as_slice.result.now in
    let ds = c.as_slice-in-Ok-orders-2.result.now in
    let same = c.as_slice-in-Ok-orders-2.ensures ∙ sym c.as_slice.ensures in
    let passed = ap (heads s.types) same ∙ ap (λ l. heads l early) (sym c.types.ensures) ∙ is_told (heads types early) hs c.in-Ok.ensures in
    ap (headed s ds) passed
    ∙ ap (λ l. valued s l hs ds) (sym (c.as_slice-in-Ok-orders.ensures ∙ c.in-Ok-orders.ensures))
