use Rattle.std.proofs.Common.{◌∙◌, length, arith}
use Rattle.path_scope.specs.Factored.{binds}
use Rattle.path_scope.proofs.Turns.{longer}
use Rattle.path_scope.proofs.factored.add_prefixes.Goals as goal

pub loop-count-preserved : goal.loop-count-preserved
loop-count-preserved c =
    let s = c.args.around.now in
    let o = c.args.occurrence.now in
    longer (binds s.direct s.all s.bound) s.direct o c.loop-count.found c.add_prefix-in-loop-count.new.found c.loop-count.count (length o.path.steps) (omega arith) c.in_ok-add_prefix-2.ensures ∙ c.loop-count.invariant
