use Rattle.std.proofs.Common.{subst, arith}
use Rattle.sql_check.specs.Walk.{IsLeast}
use Rattle.sql_check.proofs.Least.{lesser_byte, kept_byte}
use Rattle.sql_check.proofs.check.lesser.Goals as goal

pub returns-then-byte-least : goal.returns-then-byte-least
returns-then-byte-least c = λ before h. lesser_byte before c.in-Some.least c.args.byte (omega (arith, c.if-byte-least.true)) (subst (λ o. IsLeast o before) c.in-Some.is h)

pub returns-else-byte-least : goal.returns-else-byte-least
returns-else-byte-least c = λ before h. kept_byte before c.in-Some.least c.args.byte (omega (arith, c.if-byte-least.false)) (subst (λ o. IsLeast o before) c.in-Some.is h)
