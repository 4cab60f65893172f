-- What a run of a statement answers.
use Rattle.std.specs.Prelude.{◌≡◌, List, Result, Ok, Err, Contains}
use Rattle.ev_value.specs.Item.{all_of, faults}
use Rattle.ev_value.specs.declared.item.Item.{Item}
use Rattle.sql_table.specs.Names.{Cells}
use Rattle.sql_exec.specs.declared.run.ExecError.{ExecError}
use Rattle.sql_exec.specs.declared.run.ExecError.TheVariants as exec_error

-- the rows, where no fault stands among them; or a fault that stands there; or want of memory
abbrev pub Answers : Result (List Cells) ExecError → List (Item Cells) → Type 0
Answers (Ok rows) due = due ≡ all_of rows
Answers (Err (exec_error.Fault e)) due = Contains (faults due) e
Answers (Err exec_error.Memory) due = Unit {0}
