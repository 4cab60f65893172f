use Rattle.sql_print.specs.Lists.{tokens_of}
use Rattle.sql_print.specs.Promise.{AreWritable}
use Rattle.sql_spell.specs.Form.{StatementHasForm}
use Rattle.sql_spell.proofs.Formed.{well_formed_good}
use Rattle.sql_parse.proofs.ReadBack.{form_is_read_back}
use Rattle.sql_parse.proofs.read_back.printed_is_read_back.Goals as goal

pub returns : goal.returns
returns c = λ catalog s formed fits.
    let good : StatementHasForm s × AreWritable (tokens_of s) = well_formed_good catalog s formed fits in
    form_is_read_back s good.0 formed.low good.1
