use Rattle.std.proofs.Common.{◌∙◌, ap}
use Rattle.ev_index.specs.Globals.{global_type}
use Rattle.ev_index.proofs.index.Index.global_type.Goals as goal
use Rattle.ev_schema.specs.declared.schema.Schema.{Schema}

pub returns : goal.returns
returns c =
    c.find.ensures ∙ ap (λ f. f c.args.name.now) c.self.invariant.globals ∙ ap (λ (schema : Schema). global_type schema.globals c.args.name.now) c.self.view_is
