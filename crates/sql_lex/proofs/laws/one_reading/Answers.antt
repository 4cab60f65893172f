use Rattle.sql_lex.proofs.Readings.{one_cut}
use Rattle.sql_lex.proofs.laws.one_reading.Goals as goal

pub returns : goal.returns
returns c = one_cut
