use Rattle.std.proofs.Common.{◌∙◌, ap, List, ℕ}
use Rattle.db_store.specs.declared.object.Object.{Object}
use Rattle.eql_steps.specs.Index.{placed}
use Rattle.eql_steps.proofs.indexed.Indexed.places.Goals as goal

pub returns : goal.returns
returns c = c.at.ensures ∙ ap (λ (f : ℕ → List ℕ). f c.args.id) c.self.invariant.0 ∙ ap (λ (os : List Object). placed os c.args.id) c.self.view_is
