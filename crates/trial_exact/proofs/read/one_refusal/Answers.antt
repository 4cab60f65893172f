use Rattle.trial_exact.proofs.Promise.{one_refusal}
use Rattle.trial_exact.proofs.read.one_refusal.Goals as goal

pub returns : goal.returns
returns c = one_refusal
