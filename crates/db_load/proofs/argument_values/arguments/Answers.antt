use Rattle.std.proofs.Common.{rules}
use Rattle.serde_json.specs.View.{view, members_view}
use Rattle.db_load.proofs.AnswerLaws.{stops_here}
use Rattle.db_load.proofs.argument_values.arguments.Goals as goal

pub returns-in-Err : goal.returns-in-Err
returns-in-Err c =
    stops_here c.args.global c.args.wanted.now c.loop-key.found _ _ (view c.in-Some.value) _ (members_view c.next.new.self) _ c.in-Err.refusal c.new.ensures c.plain_of-plain.ensures
    (search rules) c.in-Err.ensures
