use Rattle.std.proofs.Common.{◌≡◌, ◌-◌}
use Rattle.eql_grammar.specs.Words.{infix_of}
use Rattle.eql_grammar.specs.Readers.{operations, operation, conjunction, inside}
use Rattle.exact.specs.Reading.{has, chain_from}
use Rattle.eql_grammar.specs.Trees.{too_high}
use Rattle.eql_parse.proofs.grammar.Grammar.disjunctions.Given as goal

abbrev pub invariant-loop-turn : goal.invariant-loop-turn
invariant-loop-turn g l =
    operations l.self.depth too_high (inside too_high l.self.depth) 3 (conjunction l.self.depth too_high (inside too_high l.self.depth)) l.fn.first l.fn.tokens
    ≡ chain_from (has (infix_of 3)) (operation l.self.depth too_high (inside too_high l.self.depth) 3 (conjunction l.self.depth too_high (inside too_high l.self.depth))) (l._turn-end - l._turn) l.left l.tokens
