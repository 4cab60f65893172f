use Rattle.std.proofs.Common.{◌≡◌, ◌++◌, drop, map}
use Rattle.ev_value.specs.declared.value.Val.TheVariants as made
use Rattle.db_store.specs.declared.object.Target.{Target}
use Rattle.db_check.proofs.exclusive.target_values.Given as goal

abbrev pub invariant-loop-target : goal.invariant-loop-target
invariant-loop-target l = l.values ++ map (λ (t : Target). made.Obj t.id) (drop l.target-index l.targets) ≡ map (λ (t : Target). made.Obj t.id) l.targets
