-- What was added so far, and the longer beginnings that are left.
use Rattle.std.proofs.Common.{◌≡◌, ◌+◌, ◌-◌, length}
use Rattle.std.specs.List.{filter}
use Rattle.path_scope.specs.Factored.{binds, beginnings, prefixes_of, added}
use Rattle.path_scope.proofs.factored.add_prefixes.Given as goal

abbrev pub invariant-loop-count : goal.invariant-loop-count
invariant-loop-count l =
    added l.found (filter (binds l.around.direct l.around.all l.around.bound) (beginnings l.around.direct l.occurrence (l.count + 1) (length l.occurrence.path.steps - l.count)))
    ≡ added l.fn.found (filter (binds l.around.direct l.around.all l.around.bound) (prefixes_of l.around.direct l.occurrence))
