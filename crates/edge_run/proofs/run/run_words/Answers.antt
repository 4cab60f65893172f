use Rattle.edge_run.proofs.Clauses.{caused, complete, called}
use Rattle.edge_run.proofs.HeadlineLaws.{headline, exact}
use Rattle.edge_run.proofs.run.run_words.Goals as goal

the_run : goal.returns-clause-runs
the_run g c = record { answer = c.answer.result; went = c.answer.ensures; delivered = c.deliver.ensures }

pub returns-clause-runs : goal.returns-clause-runs
returns-clause-runs g c = the_run g c

pub returns-clause-caused : goal.returns-clause-caused
returns-clause-caused g c = caused _ _ _ _ _ _ _ _ (the_run g c)

pub returns-clause-complete : goal.returns-clause-complete
returns-clause-complete g c = complete _ _ _ _ _ _ _ _ (the_run g c)

pub returns-clause-calls : goal.returns-clause-calls
returns-clause-calls g c = called _ _ _ _ _ _ _ _ (the_run g c)

pub returns-clause-headline : goal.returns-clause-headline
returns-clause-headline g c = headline _ _ _ _ _ _ _ _ (the_run g c)

pub returns-clause-exact : goal.returns-clause-exact
returns-clause-exact g c = exact _ _ _ _ _ _ _ _ (the_run g c)
