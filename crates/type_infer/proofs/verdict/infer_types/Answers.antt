use Rattle.type_infer.proofs.Promised.{promised}
use Rattle.type_infer.proofs.verdict.infer_types.Goals as goal

pub returns : goal.returns
returns c = promised _ _ c.typed.ensures
