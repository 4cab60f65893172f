use Rattle.std.proofs.Common.{sym}
use Rattle.schema_build.proofs.Forms.{no_value}
use Rattle.schema_build.proofs.literal.bare_literal.Goals as goal

pub returns-in_default : goal.returns-in_default
returns-in_default c = sym (no_value c.args.expr.now c.in_default.not-Int c.in_default.not-Str c.in_default.not-Bool c.in_default.not-Unary)
