use Rattle.std.proofs.Common.{rules, arith}
use Rattle.eql_eval.proofs.query.+evaluate_at.Goals as goal

pub asked-requires : goal.asked-requires
asked-requires g t c = record {
  callable = λ alloc w x ns b task pos. (omega (arith, c.decreases), search rules);
  answers = λ alloc w x ns b task r pos post. search (rules, post);
}
