use Rattle.type_infer.proofs.ByCases.{types_are_by_cases}
use Rattle.type_infer.proofs.laws.types_are_by_cases.Goals as goal

pub returns : goal.returns
returns c = types_are_by_cases
