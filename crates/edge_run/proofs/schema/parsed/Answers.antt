use Rattle.std.proofs.Common.{rules, inr}
use Rattle.exact.specs.declared.rule.Rule.TheVariants.{Unexpected, TooDeep}
use Rattle.edge_run.proofs.schema.parsed.Goals as goal

pub returns-in-Err-S2 : goal.returns-in-Err-S2
returns-in-Err-S2 c = inr (Unexpected, c.in-Err-S2.token, c.in-Err-S2.ensures.refused Unexpected c.in-Err-S2.token (search rules), search rules)

pub returns-in-Err-S3 : goal.returns-in-Err-S3
returns-in-Err-S3 c = inr (TooDeep, c.in-Err-S3.token, c.in-Err-S3.ensures.refused TooDeep c.in-Err-S3.token (search rules), search rules)
