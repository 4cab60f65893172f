use Rattle.eql_eval.proofs.query.+evaluate_at.Given as goal

abbrev pub decreases-evaluate_at : goal.decreases-evaluate_at
decreases-evaluate_at g l = l.depth
