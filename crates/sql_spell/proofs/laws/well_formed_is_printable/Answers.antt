use Rattle.sql_spell.proofs.Formed.{well_formed_good}
use Rattle.sql_spell.proofs.laws.well_formed_is_printable.Goals as goal

pub returns : goal.returns
returns c = well_formed_good
