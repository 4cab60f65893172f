use Rattle.std.proofs.Common.{arith}
use Rattle.std.proofs.lemmas.Int.{ints}
use Rattle.ev_list.proofs.Sums.{total_drop}
use Rattle.ev_list.proofs.aggregate.sum.Goals as goal

pub loop-value-preserved : goal.loop-value-preserved
loop-value-preserved c = (
  omega (arith, ints, total_drop c.args.values.now c.loop-value.value-index c.value-item.result c.loop-value-test.true c.value-item.is, c.loop-value.invariant.0),
  omega (arith, ints, c.loop-value.invariant.1),
  omega (arith, ints, c.loop-value.invariant.2),
)
