use Rattle.sql_spell.proofs.Statements.{printed_spells}
use Rattle.sql_spell.proofs.laws.printed_tokens_spell.Goals as goal

pub returns : goal.returns
returns c = printed_spells
