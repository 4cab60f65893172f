use Rattle.std.proofs.Common.{◌∙◌, ap}
use Rattle.tree_weight.specs.Capped.{capped_sizes}
use Rattle.tree_weight.specs.Heavy.{is_over}
use Rattle.tree_weight.specs.Trees.{measured}
use Rattle.tree_weight.specs.declared.size.Size.{Size}
use Rattle.tree_weight.proofs.Capping.{query_is_over, expression_is_over}
use Rattle.tree_weight.proofs.weights.Weights.is_too_heavy.Goals as goal

pub returns-clause-query : goal.returns-clause-query
returns-clause-query c schema is =
    c.is_over.ensures
    ∙ ap (λ (s : Size). is_over s.weight s.depth) (c.measured.ensures ∙ (λ i. measured capped_sizes (is i) (c.get.ensures i)))
    ∙ query_is_over schema c.args.core.now

pub returns-clause-expression : goal.returns-clause-expression
returns-clause-expression c schema is =
    c.is_over.ensures
    ∙ ap (λ (s : Size). is_over s.weight s.depth) (c.measured.ensures ∙ (λ i. measured capped_sizes (is i) (c.get.ensures i)))
    ∙ expression_is_over schema c.args.core.now
