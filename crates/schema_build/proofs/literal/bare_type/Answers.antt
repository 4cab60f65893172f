use Rattle.std.proofs.Common.{sym}
use Rattle.schema_build.proofs.Forms.{no_type}
use Rattle.schema_build.proofs.literal.bare_type.Goals as goal

pub returns-in_default : goal.returns-in_default
returns-in_default c = sym (no_type c.args.expr.now c.in_default.not-Int c.in_default.not-Str c.in_default.not-Bool c.in_default.not-Unary)
