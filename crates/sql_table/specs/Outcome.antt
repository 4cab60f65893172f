-- How a call tells an item.
use Rattle.std.specs.Prelude.{◌≡◌, Result, Ok, Err}
use Rattle.ev_value.specs.declared.item.Item.{Item}
use Rattle.ev_value.specs.declared.item.Item.TheVariants as item
use Rattle.ev_value.specs.declared.operator.OpError.{OpError}
use Rattle.ev_value.specs.declared.operator.OpError.TheVariants as op_error

-- a call answers with the value or the fault that is due, or wants memory
abbrev pub Gives : {A : Type 0} → Result A OpError → Item A → Type 0
Gives (Ok a) due = due ≡ item.Value a
Gives (Err (op_error.Fault e)) due = due ≡ item.Fault e
Gives (Err op_error.Memory) due = Unit {0}
