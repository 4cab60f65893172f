use Rattle.std.proofs.Common.{◌≡◌, ◌-◌}
use Rattle.eql_grammar.specs.Readers.{postfixes, postfix, is_postfix, inside}
use Rattle.exact.specs.Reading.{chain_from}
use Rattle.eql_grammar.specs.Trees.{too_high}
use Rattle.eql_parse.proofs.grammar.Grammar.postfixes.Given as goal

abbrev pub invariant-loop-turn : goal.invariant-loop-turn
invariant-loop-turn g l =
    postfixes l.self.depth too_high (inside too_high l.self.depth) l.fn.first l.fn.tokens
    ≡ chain_from (is_postfix l.self.depth too_high (inside too_high l.self.depth)) (postfix l.self.depth too_high (inside too_high l.self.depth)) (l._turn-end - l._turn) l.base l.tokens
