use Rattle.std.proofs.Common.{sym, ◌∙◌}
use Rattle.sql_lex.proofs.Cuts.{piece_doubled}
use Rattle.sql_lex.proofs.literal.piece.Goals as goal

pub returns-then-is_quote_at : goal.returns-then-is_quote_at
returns-then-is_quote_at c = piece_doubled c.args.bytes.now c.args.at c.requires c.if-bytes-at-ne39.false (sym c.is_quote_at.ensures ∙ c.if-is_quote_at.true)
