use Rattle.core_ir.proofs.Paths.{roots, steps, paths}
use Rattle.core_ir.proofs.path.paths_are_equal.Goals as goal

pub returns : goal.returns
returns c = record { of_roots = roots; of_steps = steps; of_paths = paths }
