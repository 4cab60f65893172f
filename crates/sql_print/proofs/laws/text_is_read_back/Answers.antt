use Rattle.sql_print.proofs.Layouts.{read_back}
use Rattle.sql_print.proofs.laws.text_is_read_back.Goals as goal

pub returns : goal.returns
returns c = read_back
