use Rattle.std.proofs.Common.{rules}
use Rattle.eql_eval.proofs.query.evaluate.Goals as goal

pub scope_items-requires : goal.scope_items-requires
scope_items-requires g c = record {
  callable = λ alloc w x ns b task pos. tt;
  answers = λ alloc w x ns b task r pos post. search (rules, post);
}
