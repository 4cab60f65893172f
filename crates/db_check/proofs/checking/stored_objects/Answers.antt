use Rattle.std.proofs.Common.{sym, ap, ◌∙◌}
use Rattle.db_check.specs.Check.{store_of, unless}
use Rattle.db_check.specs.Exclusive.{exclusive}
use Rattle.db_check.proofs.Ruled.{none_ruled}
use Rattle.db_check.proofs.checking.stored_objects.Goals as goal

pub store_of-requires-clause-written : goal.store_of-requires-clause-written
store_of-requires-clause-written c =
    let s = c.args.schema.now in
    let orders = c.args.orders.now in
    let os = c.args.objects in
    let infos = c.pointers-infos.result.now in
    let none = none_ruled (exclusive infos orders c.as_slice.result.now) c.in-Ok.ensures in
    let once = ap (λ l. exclusive l orders os) (sym c.pointers-infos.ensures) ∙ ap (exclusive infos orders) (sym c.as_slice.ensures) ∙ none in
    (c.requires.written.0, c.requires.written.1 ∙ ap (λ o. unless o (store_of s.types os)) once)
