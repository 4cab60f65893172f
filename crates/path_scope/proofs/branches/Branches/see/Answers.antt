use Rattle.std.proofs.Common.{◌≡◌, length, arith}
use Rattle.path_scope.proofs.Seeing.{one_more, ended}
use Rattle.path_scope.proofs.branches.Branches.see.Goals as goal

pub loop-count-preserved : goal.loop-count-preserved
loop-count-preserved c = (omega (arith, c.loop-count-test.true, c.len-count-end.ensures), λ p. one_more c.args.kind c.args.path.now p c.loop-count.count _ _ _ (c.in_ok-see_at-2.ensures p) (c.loop-count.invariant.1 p))

pub returns : goal.returns
returns c =
    let all : c.loop-count.count ≡ length c.args.path.now.steps = omega (arith, c.loop-count-test.false, c.len-count-end.ensures, c.loop-count.invariant.0) in
    λ p. ended c.args.kind c.args.path.now p c.loop-count.count _ _ all (c.loop-count.invariant.1 p)
