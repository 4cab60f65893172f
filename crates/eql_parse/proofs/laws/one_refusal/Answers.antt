use Rattle.eql_grammar.proofs.Promise.{one_refusal}
use Rattle.eql_parse.proofs.Queries.{one_refusal_apart}
use Rattle.eql_parse.proofs.laws.one_refusal.Goals as goal

pub returns-clause-once : goal.returns-clause-once
returns-clause-once c = one_refusal

pub returns-clause-apart : goal.returns-clause-apart
returns-clause-apart c = one_refusal_apart
