use Rattle.std.proofs.Common.{arith}
use Rattle.sql_lex.proofs.Cuts.{closing_more, closing_none}
use Rattle.sql_lex.proofs.literal.closing.Goals as goal

pub loop-at-preserved : goal.loop-at-preserved
loop-at-preserved c = rw c.in_ok-push.ensures.ok (closing_more c.args.bytes.now c.loop-at.text c.loop-at.at c.piece-len.result c.loop-at.invariant.1 c.piece-len.ensures c.if-len-eq0.false)

pub returns : goal.returns
returns c = closing_none c.args.bytes.now c.loop-at.text c.loop-at.at (omega (arith, c.loop-at-test.false)) c.loop-at.invariant.1
