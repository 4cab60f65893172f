use Rattle.std.proofs.Common.{◌≡◌, ◌++◌, ◌∷◌, drop}
use Rattle.ev_value.specs.Item.{bind}
use Rattle.eql_sem.specs.Parts.{items_in}
use Rattle.eql_sem.specs.declared.binding.Bound.TheVariants as bound
use Rattle.eql_eval.proofs.evaluator.Evaluator.repeat.Given as goal

abbrev pub invariant-loop-item : goal.invariant-loop-item
invariant-loop-item g l = let w = g.W.World.means l.self.world.now in l.all ++ bind (drop l.item-index l.item-items) (λ v. items_in w l.body l.inner (bound.One v ∷ l.bounds)) ≡ bind l.item-items (λ v. items_in w l.body l.inner (bound.One v ∷ l.bounds))
