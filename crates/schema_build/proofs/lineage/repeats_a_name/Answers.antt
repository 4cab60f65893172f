use Rattle.std.proofs.Common.{ap, ◌∙◌}
use Rattle.schema_build.proofs.RepeatLaws.{repeats_from, repeats_begins}
use Rattle.schema_build.proofs.lineage.repeats_a_name.Goals as goal

pub loop-name-init : goal.loop-name-init
loop-name-init c = ap (λ seen. repeats_from seen c.args.names.now) c.new-seen.ensures ∙ repeats_begins c.args.names.now
