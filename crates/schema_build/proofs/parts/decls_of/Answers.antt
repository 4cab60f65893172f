use Rattle.std.proofs.Common.{◌∙◌}
use Rattle.schema_build.proofs.ListLaws.{decls_put}
use Rattle.schema_build.proofs.parts.decls_of.Goals as goal

pub loop-part-preserved : goal.loop-part-preserved
loop-part-preserved c =
    decls_put c.loop-part.all.items c.put_part_backward.new.all.items c.loop-part.left c.pop.new.self c.in-Some.part c.in-Some.ensures c.in_ok-put_part_backward.ensures
    ∙ c.loop-part.invariant
