use Rattle.std.proofs.Common.{sym}
use Rattle.schema_build.proofs.Forms.{no_digits}
use Rattle.schema_build.proofs.literal.bare_digits.Goals as goal

pub returns-in_default : goal.returns-in_default
returns-in_default c = sym (no_digits c.args.expr.now c.in_default.not-Int)
