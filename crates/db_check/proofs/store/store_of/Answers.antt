use Rattle.std.proofs.Common.{length, ap, arith}
use Rattle.db_check.proofs.IdOrder.{length_ordered}
use Rattle.db_check.proofs.store.store_of.Goals as goal

pub extents-requires : goal.extents-requires
extents-requires c =
    let slice = ap length c.as_slice.ensures in
    let all = ap length c.in_ok-objects.ensures in
    let few = c.requires.objects in
    omega (arith, slice, all, few, length_ordered c.args.objects)
