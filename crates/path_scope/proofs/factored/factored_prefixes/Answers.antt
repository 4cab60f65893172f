use Rattle.std.proofs.Common.{◌∙◌, ap}
use Rattle.std.specs.List.{filter}
use Rattle.path_scope.specs.Factored.{binds, prefixes_of, added}
use Rattle.path_scope.specs.Around.{Setting}
use Rattle.path_scope.proofs.Turns.{further}
use Rattle.path_scope.proofs.factored.factored_prefixes.Goals as goal

pub loop-occurrence-preserved : goal.loop-occurrence-preserved
loop-occurrence-preserved c =
    let ds = c.args.direct.now in
    let os = c.args.all.now in
    let o = c.occurrence-item.result in
    let before = c.loop-occurrence.found in
    further (binds ds os c.args.bound.now) (prefixes_of ds) os before c.add_prefixes.new.found c.loop-occurrence.occurrence-index o c.loop-occurrence-test.true c.occurrence-item.is
    (c.in_ok-add_prefixes.ensures ∙ ap (λ (s : Setting). added before (filter (binds s.direct s.all s.bound) (prefixes_of s.direct o))) c.in_ok-around.ensures) ∙ c.loop-occurrence.invariant
