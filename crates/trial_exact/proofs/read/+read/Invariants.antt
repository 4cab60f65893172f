use Rattle.trial_exact.proofs.read.+read.Given as goal

abbrev pub decreases-read : goal.decreases-read
decreases-read l = l.depth
