use Rattle.ev_lex.proofs.Cuts.{comment_at}
use Rattle.ev_lex.proofs.separator.separator_len.Goals as goal

pub returns-then-bytes-eq35 : goal.returns-then-bytes-eq35
returns-then-bytes-eq35 c = comment_at c.args.bytes.now c.run.result c.run.ensures.value c.if-bytes-eq35.true c.requires
