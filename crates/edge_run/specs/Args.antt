-- Which texts are arguments for a query without parameters, and why the others are refused.
use Rattle.std.specs.Prelude.{◌≡◌, ℕ, List, [], Result, Ok, Err}
use Rattle.db_load.specs.Arguments.{IsLoaded}
use Rattle.db_load.specs.declared.refusal.ArgsRefusal.TheVariants as load
use Rattle.db_load.specs.declared.refusal.BrokenArgs.{BrokenArgs}
use Rattle.ev_schema.specs.declared.schema.Schema.{Schema}
use Rattle.ev_value.specs.declared.args.Args.{Args}
use Rattle.edge_run.specs.Refusal.{Refusal}
use Rattle.edge_run.specs.Refusal as refused

-- the text is loaded as these arguments: queries have no parameters yet
abbrev pub AreArgs : Schema → List ℕ → Args → Type 0
AreArgs schema text args = IsLoaded text schema [] (Ok args)

-- of the rules on arguments this one fails first
abbrev pub IsRefused : Schema → List ℕ → BrokenArgs → Type 0
IsRefused schema text broken = IsLoaded text schema [] (Err (load.Rule broken))

-- what the rules on arguments decide: the arguments, or a refusal
abbrev pub Decides : Schema → List ℕ → Result Args Refusal → Type 0
Decides schema text (Ok args) = AreArgs schema text args
Decides schema text (Err (refused.Usage u)) = ⊥
Decides schema text (Err (refused.TooLong d)) = ⊥
Decides schema text (Err (refused.Schema r)) = ⊥
Decides schema text (Err (refused.Data b)) = ⊥
Decides schema text (Err (refused.Query r)) = ⊥
Decides schema text (Err (refused.Args broken)) = IsRefused schema text broken
