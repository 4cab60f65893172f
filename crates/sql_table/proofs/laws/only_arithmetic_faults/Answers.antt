use Rattle.sql_table.proofs.Faults.{only_arithmetic}
use Rattle.sql_table.proofs.laws.only_arithmetic_faults.Goals as goal

pub returns : goal.returns
returns c = only_arithmetic
