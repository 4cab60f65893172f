-- What was added so far, and what the occurrences that are left begin with.
use Rattle.std.proofs.Common.{◌≡◌, drop}
use Rattle.std.specs.List.{filter, flat_map}
use Rattle.path_scope.specs.Factored.{binds, prefixes_of, added, factored}
use Rattle.path_scope.proofs.factored.factored_prefixes.Given as goal

abbrev pub invariant-loop-occurrence : goal.invariant-loop-occurrence
invariant-loop-occurrence l =
    added l.found (filter (binds l.direct l.all l.bound) (flat_map (prefixes_of l.direct) (drop l.occurrence-index l.all))) ≡ factored l.direct l.all l.bound
