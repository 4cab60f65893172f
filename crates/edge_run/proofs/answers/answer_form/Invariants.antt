use Rattle.std.proofs.Common.{◌≡◌, ◌++◌, drop}
use Rattle.ev_value.specs.Item.{values}
use Rattle.ev_value.specs.Nested.{scalars}
use Rattle.edge_run.proofs.answers.answer_form.Given as goal

abbrev pub invariant-loop-item : goal.invariant-loop-item
invariant-loop-item l = l.forms ++ scalars (values (drop l.item-index l.items)) ≡ scalars (values l.items)
