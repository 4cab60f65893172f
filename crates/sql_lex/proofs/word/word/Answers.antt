use Rattle.std.proofs.Common.{refl, sym}
use Rattle.sql_lex.proofs.Cuts.{word_token, word_none}
use Rattle.sql_lex.proofs.word.word.Goals as goal

pub returns-in-Some : goal.returns-in-Some
returns-in-Some c = word_token c.args.bytes.now c.run-len.result c.in-Some.keyword c.run-len.ensures.value c.requires ((c.in-Some.ensures.word c.in-Some.keyword).0 refl)

pub returns-in-None : goal.returns-in-None
returns-in-None c = word_none c.args.bytes.now c.run-len.result c.run-len.ensures.value c.requires (sym c.in-None.ensures.value)
