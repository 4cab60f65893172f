use Rattle.std.proofs.Common.{◌≡◌, drop}
use Rattle.std.specs.List.{list_any}
use Rattle.std.specs.Str.{bytes_eq}
use Rattle.ev_value.specs.declared.args.Argument.{Argument}
use Rattle.db_load.proofs.arguments.has_argument.Given as goal

-- what is left has what the whole has
abbrev pub invariant-loop-argument : goal.invariant-loop-argument
invariant-loop-argument l =
    list_any (λ (a : Argument). bytes_eq a.name l.name) (drop l.argument-index l.found) ≡ list_any (λ (a : Argument). bytes_eq a.name l.fn.name) l.fn.found
