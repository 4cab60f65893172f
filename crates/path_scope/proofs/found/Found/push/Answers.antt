use Rattle.std.proofs.Common.{◌∙◌, ap, sym}
use Rattle.std.specs.HashSet as set
use Rattle.core_ir.specs.Path.{path_eq}
use Rattle.path_scope.specs.Factored.{is_listed}
use Rattle.path_scope.specs.declared.prefix.Prefix.{Prefix}
use Rattle.path_scope.proofs.Listing.{one_more}
use Rattle.path_scope.proofs.found.Found.push.Goals as goal

pub invariant_of-self-in-Ok : goal.invariant_of-self-in-Ok
invariant_of-self-in-Ok c =
    λ p. one_more (λ (f : Prefix). f.path) (set.contains path_eq c.insert.new.self) (set.contains path_eq c.self.inside.listed) c.args.path c.self.inside.prefixes c.args.prefix p
    (c.in-Ok.ensures.updates.0 p) (sym c.requires) (c.self.invariant p)
    ∙ ap (λ l. is_listed l p) (sym c.in_ok-push.ensures.ok)
