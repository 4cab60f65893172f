use Rattle.std.proofs.Common.{◌∙◌}
use Rattle.sql_check.proofs.PlaceForms.{parts_value}
use Rattle.sql_check.proofs.walk.parts.Goals as goal

pub returns : goal.returns
returns c = c.as_slice.ensures ∙ parts_value c.args.place.now c.parts-1.given.0
