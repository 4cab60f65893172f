use Rattle.std.proofs.Common.{◌∙◌, ap, List, ℕ}
use Rattle.db_store.specs.declared.object.Object.{Object}
use Rattle.eql_steps.specs.declared.source.Source.{Source}
use Rattle.eql_steps.specs.Index.{sourced}
use Rattle.eql_steps.proofs.indexed.Indexed.sources.Goals as goal

pub returns : goal.returns
returns c = c.at.ensures ∙ ap (λ (f : ℕ → List Source). f c.args.id) c.self.invariant.1 ∙ ap (λ (os : List Object). sourced os c.args.id) c.self.view_is
