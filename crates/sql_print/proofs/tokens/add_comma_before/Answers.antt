use Rattle.std.proofs.Common.{ap, ◌∙◌}
use Rattle.sql_print.specs.Printed.{comma_before}
use Rattle.sql_print.proofs.Adding.{no_tokens}
use Rattle.sql_print.proofs.Forms.{comma_left}
use Rattle.sql_print.proofs.tokens.add_comma_before.Goals as goal

pub returns-in-LeftLateral : goal.returns-in-LeftLateral
returns-in-LeftLateral c = no_tokens c.args.all.now _ (ap comma_before c.in-LeftLateral.is ∙ comma_left c.in-LeftLateral.field-0 c.in-LeftLateral.field-1)
