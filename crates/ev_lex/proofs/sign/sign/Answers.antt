use Rattle.std.proofs.Common.{sym, arith}
use Rattle.ev_lex.proofs.Cuts.{above_one, above_two, none_of_three, sign_token, sign_none}
use Rattle.ev_lex.proofs.sign.sign.Goals as goal

pub returns-in-Some : goal.returns-in-Some
returns-in-Some c = rw c.cut.ensures (sign_token c.args.bytes.now 3 c.in-Some.sign (sym c.in-Some.ensures) (omega arith) (λ m p q. absurd (omega arith)))

pub returns-in-Some-sign_at : goal.returns-in-Some-sign_at
returns-in-Some-sign_at c = rw c.cut-in-Some-sign_at.ensures
    (sign_token c.args.bytes.now 2 c.in-Some-sign_at.sign (sym c.in-Some-sign_at.ensures) (omega arith) (above_two c.args.bytes.now (sym c.in_default.ensures)))

pub returns-in-Some-sign_at-2 : goal.returns-in-Some-sign_at-2
returns-in-Some-sign_at-2 c = rw c.cut-in-Some-sign_at-2.ensures
    (sign_token c.args.bytes.now 1 c.in-Some-sign_at-2.sign (sym c.in-Some-sign_at-2.ensures) (omega arith) (above_one c.args.bytes.now (sym c.in_default-sign_at.ensures) (sym c.in_default.ensures)))

pub returns-in-None : goal.returns-in-None
returns-in-None c = sign_none c.args.bytes.now c.requires (none_of_three c.args.bytes.now (sym c.in-None.ensures) (sym c.in_default-sign_at.ensures) (sym c.in_default.ensures))
