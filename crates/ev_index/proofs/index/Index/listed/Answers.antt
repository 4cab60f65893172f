use Rattle.std.proofs.Common.{◌∙◌, ap}
use Rattle.ev_index.proofs.Firsts.{found_by, found_by_none}
use Rattle.ev_index.proofs.index.Index.listed.Goals as goal
use Rattle.ev_schema.specs.Pointers.{first_named}
use Rattle.ev_schema.specs.Types.{listed_pointers}
use Rattle.ev_schema.specs.declared.schema.Schema.{Schema}

pub returns-in-Some : goal.returns-in-Some
returns-in-Some c =
    c.find.ensures
    ∙ found_by c.self.inside.schema.now.pointers c.self.inside.schema.now.types c.self.inside.pointers c.args.ty c.args.name.now c.in-Some.found.now c.self.invariant.pointers
    (cc (c.in-Some.ensures, c.as_slice.ensures))
    ∙ ap (λ (schema : Schema). first_named schema.pointers (listed_pointers schema.types c.args.ty) c.args.name.now) c.self.view_is

pub returns-in-None : goal.returns-in-None
returns-in-None c =
    found_by_none c.self.inside.schema.now.pointers c.self.inside.schema.now.types c.self.inside.pointers c.args.ty c.args.name.now c.self.invariant.pointers
    (cc (c.in-None.ensures, c.as_slice.ensures))
    ∙ ap (λ (schema : Schema). first_named schema.pointers (listed_pointers schema.types c.args.ty) c.args.name.now) c.self.view_is
