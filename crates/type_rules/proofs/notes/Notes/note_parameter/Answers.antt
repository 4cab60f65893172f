use Rattle.type_rules.proofs.Noting.{parameter_noted}
use Rattle.type_rules.proofs.notes.Notes.note_parameter.Goals as goal

pub returns : goal.returns
returns c =
    parameter_noted c.args.self.now.types c.args.self.now.parameters c.insert.new.self c.in_ok-name.name c.in_ok-kept.kept c.args.parameter.now
    c.in_ok-name.ensures c.in_ok-kept.ensures c.in_ok-insert.ensures.updates.0
