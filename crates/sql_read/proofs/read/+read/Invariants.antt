use Rattle.sql_read.proofs.read.+read.Given as goal

abbrev pub decreases-read : goal.decreases-read
decreases-read l = l.depth
