use Rattle.std.proofs.Common.{◌∙◌, ap, Bool, List}
use Rattle.eql_world.specs.View.{flagged, flag_for}
use Rattle.eql_world.proofs.ViewLaws.{view_flagged}
use Rattle.eql_world.proofs.answers.view_in.Goals as goal

pub returns : goal.returns
returns c =
    c.in_ok-seen.ensures
    ∙ ap (λ (fs : List Bool). flagged (flag_for c.args.world.now.objects.now fs) c.args.world.now.objects.now fs) (c.as_slice.ensures ∙ c.in_ok-flags.ensures)
    ∙ view_flagged c.args.world.now.schema.now c.args.world.now.objects.now c.args.world.now.args.now
