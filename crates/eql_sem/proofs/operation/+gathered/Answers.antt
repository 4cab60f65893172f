use Rattle.std.proofs.lemmas.Result.{IfOk-weaker}
use Rattle.eql_sem.proofs.Products.{gathered_turn}
use Rattle.eql_sem.proofs.operation.+gathered.Goals as goal

pub returns-in_ok-tails-in-Some : goal.returns-in_ok-tails-in-Some
returns-in_ok-tails-in-Some g t c =
    IfOk-weaker _ _ _ (λ xs made. gathered_turn xs _ _ _ _ c.in-Some.ensures.cases.0 c.in_ok-tails-in-Some.ensures made)
    (rw (c.as_slice.ensures, c.as_slice-in-Some.ensures) at c.both_fronts.ensures)
