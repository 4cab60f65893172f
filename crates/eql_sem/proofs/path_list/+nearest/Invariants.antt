use Rattle.eql_sem.proofs.path_list.+nearest.Given as goal

abbrev pub decreases-nearest : goal.decreases-nearest
decreases-nearest l = l.count
