use Rattle.std.proofs.Common.{◌≡◌, ◌-◌}
use Rattle.sql_grammar.specs.Words.{operator_of}
use Rattle.exact.specs.Reading.{has, chain, chain_from}
use Rattle.sql_grammar.specs.Trees.{too_high}
use Rattle.sql_grammar.specs.Readers as spec
use Rattle.sql_grammar.specs.Readers.{inside}
use Rattle.sql_read.proofs.grammar.Grammar.conjunctions.Given as goal

abbrev pub invariant-loop-turn : goal.invariant-loop-turn
invariant-loop-turn g l =
    chain (has (operator_of 2)) (spec.operation l.self.depth too_high (inside too_high l.self.depth) 2 (spec.negation l.self.depth too_high (inside too_high l.self.depth))) l.fn.first l.fn.tokens
    ≡ chain_from (has (operator_of 2)) (spec.operation l.self.depth too_high (inside too_high l.self.depth) 2 (spec.negation l.self.depth too_high (inside too_high l.self.depth))) (l._turn-end - l._turn) l.all l.tokens
