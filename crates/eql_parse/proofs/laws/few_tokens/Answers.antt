use Rattle.eql_parse.proofs.Few.{few_tokens}
use Rattle.eql_parse.proofs.laws.few_tokens.Goals as goal

pub returns : goal.returns
returns c = few_tokens
