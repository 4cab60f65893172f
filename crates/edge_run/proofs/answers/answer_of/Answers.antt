use Rattle.std.proofs.Common.{rules}
use Rattle.edge_run.proofs.Answered.{answered_fault, answered_text}
use Rattle.edge_run.proofs.answers.answer_of.Goals as goal

pub returns-in-Some : goal.returns-in-Some
returns-in-Some c = answered_fault _ _ _ c.in-Some.ensures.1

pub returns-in-None : goal.returns-in-None
returns-in-None c = answered_text _ _ c.in-None.ensures (search rules)
