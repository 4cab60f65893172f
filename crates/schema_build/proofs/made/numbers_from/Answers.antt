use Rattle.std.proofs.Common.{◌∙◌, arith}
use Rattle.schema_build.proofs.ListLaws.{numbers_added}
use Rattle.schema_build.proofs.made.numbers_from.Goals as goal

pub loop-place-preserved : goal.loop-place-preserved
loop-place-preserved c =
    numbers_added c.loop-place.numbers c.push.new.self c.args.first c.loop-place.place c.args.count _ (omega (arith, c.requires, c.loop-place-test.true))
    c.loop-place-test.true c.in_ok-push.ensures.ok
    ∙ c.loop-place.invariant
