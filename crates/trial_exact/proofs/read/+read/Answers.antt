use Rattle.std.proofs.Common.{rules, arith}
use Rattle.trial_exact.specs.Trees.{too_high}
use Rattle.trial_exact.proofs.Depth.{within_is, inside_is}
use Rattle.trial_exact.proofs.read.+read.Goals as goal

pub part-requires : goal.part-requires
part-requires t c = record {
  callable = λ alloc old part pos. (omega (arith, c.decreases), tt);
  reads = λ alloc old new part r pos post. rw (inside_is too_high c.args.depth pos) (search (rules, post));
}

pub returns : goal.returns
returns t c = rw (within_is too_high c.args.depth) c.part.ensures
