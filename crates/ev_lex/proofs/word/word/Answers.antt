use Rattle.ev_lex.proofs.Cuts.{word_ascii, word_token}
use Rattle.ev_lex.proofs.word.word.Goals as goal

pub ascii-requires : goal.ascii-requires
ascii-requires c = word_ascii c.args.bytes.now c.run-len.result c.run-len.ensures.value

pub returns : goal.returns
returns c = rw (c.in_ok-text.ensures, c.ascii.ensures) (word_token c.args.bytes.now c.run-len.result c.run-len.ensures.value c.requires)
