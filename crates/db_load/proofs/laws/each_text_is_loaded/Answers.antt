use Rattle.db_load.proofs.EachText.{each_data, each_args}
use Rattle.db_load.proofs.laws.each_text_is_loaded.Goals as goal

pub returns-clause-data : goal.returns-clause-data
returns-clause-data c = each_data

pub returns-clause-arguments : goal.returns-clause-arguments
returns-clause-arguments c = each_args
