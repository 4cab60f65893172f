use Rattle.std.proofs.Common.{sym}
use Rattle.sql_lex.proofs.Cuts.{sign_double, sign_single, sign_none}
use Rattle.sql_lex.proofs.sign.sign.Goals as goal

pub returns-in-Some : goal.returns-in-Some
returns-in-Some c = rw c.cut.ensures (sign_double c.args.bytes.now c.in-Some.sign (sym c.in-Some.ensures))

pub returns-in-Some-single_at : goal.returns-in-Some-single_at
returns-in-Some-single_at c = rw c.cut-in-Some-single_at.ensures (sign_single c.args.bytes.now c.in-Some-single_at.sign (sym c.in_default.ensures) (sym c.in-Some-single_at.ensures))

pub returns-in-None : goal.returns-in-None
returns-in-None c = sign_none c.args.bytes.now c.requires (sym c.in_default.ensures) (sym c.in-None.ensures)
