use Rattle.path_scope.proofs.Exact.{listed, once, optional}
use Rattle.path_scope.proofs.factored.factored_is_exact.Goals as goal

pub returns : goal.returns
returns c = record { listed = listed; once = once; optional = optional }
