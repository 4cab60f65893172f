use Rattle.std.proofs.Common.{◌≡◌, []}
use Rattle.serde_json.specs.View.{members_view}
use Rattle.db_load.specs.ArgumentValues.{arguments as arguments_of}
use Rattle.db_load.proofs.argument_values.arguments.Given as goal

-- what is left, behind the arguments so far, gives what the whole does
abbrev pub invariant-loop-key : goal.invariant-loop-key
invariant-loop-key l =
    arguments_of l.global l.wanted l.found (members_view l.key-iterator) ≡ arguments_of l.fn.global l.fn.wanted [] (members_view l.fn.map.entries)
