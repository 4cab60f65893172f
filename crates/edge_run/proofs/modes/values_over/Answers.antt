use Rattle.std.proofs.Common.{ap, ◌∙◌}
use Rattle.eql_sem.specs.Forms.{strip}
use Rattle.edge_run.specs.Modes.{items_over}
use Rattle.edge_run.proofs.modes.values_over.Goals as goal

pub returns : goal.returns
unfolding items_over
returns c = c.in_ok-values.ensures ∙ ap strip (c.as_slice.ensures ∙ c.in_ok-items.ensures)
