use Rattle.sql_parse.proofs.ReadBack.{form_is_read_back}
use Rattle.sql_parse.proofs.read_back.printed_form_is_read_back.Goals as goal

pub returns : goal.returns
returns c = form_is_read_back
