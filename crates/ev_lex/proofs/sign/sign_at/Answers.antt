use Rattle.std.proofs.Common.{rules, arith}
use Rattle.std.proofs.lemmas.Grind.{common_steps}
use Rattle.std.proofs.lemmas.Bool.Decides.{nat_tests}
use Rattle.ev_lex.specs.SignTable.{sign_at}
use Rattle.ev_lex.proofs.sign.sign_at.Goals as goal

pub returns-then-len-bytes : goal.returns-then-len-bytes
unfolding sign_at
returns-then-len-bytes c = first_of (search rules, grind (arith, nat_tests, common_steps))

pub returns-else-len-bytes : goal.returns-else-len-bytes
unfolding sign_at
returns-else-len-bytes c = first_of (search rules, grind (arith, nat_tests, common_steps))
