use Rattle.std.proofs.Common.{◌≡◌, ◌++◌, drop, map}
use Rattle.eql_sem.proofs.operation.tuple.Given as goal

abbrev pub invariant-loop-part : goal.invariant-loop-part
invariant-loop-part l = (l.values ++ map (λ x. x.value) (drop l.part-index l.parts) ≡ map (λ x. x.value) l.parts) × (l.forms ++ map (λ x. x.form) (drop l.part-index l.parts) ≡ map (λ x. x.form) l.parts)
