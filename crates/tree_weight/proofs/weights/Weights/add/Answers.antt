use Rattle.std.proofs.Common.{◌∙◌, ap, sym}
use Rattle.std.proofs.lemmas.Result.{on_ok_weaker}
use Rattle.tree_weight.specs.Brought.{with_computed}
use Rattle.tree_weight.specs.Capped.{capped_sizes}
use Rattle.tree_weight.specs.Measure.{Brought}
use Rattle.tree_weight.specs.declared.size.Size.{Size}
use Rattle.tree_weight.proofs.Adding.{one_more_brought}
use Rattle.tree_weight.proofs.weights.Weights.add.Goals as goal

pub returns : goal.returns
returns c =
    on_ok_weaker c.bring.result
    (λ e schema is. e ∙ ap (λ (b : Brought Size). with_computed capped_sizes b c.args.computed.now) is ∙ sym (one_more_brought capped_sizes schema c.args.computed.now))
    c.bring.ensures
