use Rattle.sdl_grammar.proofs.Promise.{one_refusal, schema_not_refused}
use Rattle.sdl_parse.proofs.laws.one_schema_refusal.Goals as goal

pub returns-clause-once : goal.returns-clause-once
returns-clause-once c = one_refusal

pub returns-clause-apart : goal.returns-clause-apart
returns-clause-apart c = λ ts x rule k is r. schema_not_refused ts rule k x is r
