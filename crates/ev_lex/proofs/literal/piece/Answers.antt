use Rattle.ev_lex.proofs.Closing.{quote_piece, escape_piece, character_piece}
use Rattle.ev_lex.proofs.literal.piece.Goals as goal

pub returns-then-bytes-quote : goal.returns-then-bytes-quote
returns-then-bytes-quote c = quote_piece c.args.quote c.args.bytes.now c.requires.quote c.requires.some c.if-bytes-quote.true

pub returns-then-bytes-eq92 : goal.returns-then-bytes-eq92
returns-then-bytes-eq92 c = escape_piece c.args.quote c.args.bytes.now c.escape.result c.requires.some c.if-bytes-eq92.true c.escape.ensures

pub returns-else-bytes-eq92 : goal.returns-else-bytes-eq92
returns-else-bytes-eq92 c = character_piece c.args.quote c.args.bytes.now c.character.result c.requires.quote c.if-bytes-quote.false c.if-bytes-eq92.false c.character.ensures
