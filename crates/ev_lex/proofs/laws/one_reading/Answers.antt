use Rattle.ev_lex.proofs.Readings.{one_cut, one_refusal, cut_not_refused}
use Rattle.ev_lex.proofs.laws.one_reading.Goals as goal

pub returns-clause-tokens : goal.returns-clause-tokens
returns-clause-tokens c = one_cut

pub returns-clause-byte : goal.returns-clause-byte
returns-clause-byte c = one_refusal

pub returns-clause-apart : goal.returns-clause-apart
returns-clause-apart c = cut_not_refused
