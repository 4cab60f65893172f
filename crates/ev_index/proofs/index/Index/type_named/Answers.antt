use Rattle.std.proofs.Common.{◌∙◌, ap}
use Rattle.ev_index.proofs.index.Index.type_named.Goals as goal
use Rattle.ev_schema.specs.Named.{type_named}
use Rattle.ev_schema.specs.declared.schema.Schema.{Schema}

pub returns : goal.returns
returns c =
    c.find.ensures ∙ ap (λ f. f c.args.name.now) c.self.invariant.types ∙ ap (λ (schema : Schema). type_named schema.types c.args.name.now) c.self.view_is
