use Rattle.ev_lex.proofs.EachText.{each_reading}
use Rattle.ev_lex.proofs.laws.each_reading.Goals as goal

pub returns : goal.returns
returns c = each_reading
