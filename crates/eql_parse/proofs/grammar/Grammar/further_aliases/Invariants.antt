use Rattle.std.proofs.Common.{◌≡◌, ◌-◌}
use Rattle.eql_grammar.specs.Readers.{further_aliases, next_alias, inside}
use Rattle.exact.specs.Reading.{loop_from, pure}
use Rattle.eql_grammar.specs.Trees.{too_high}
use Rattle.eql_parse.proofs.grammar.Grammar.further_aliases.Given as goal

abbrev pub invariant-loop-turn : goal.invariant-loop-turn
invariant-loop-turn g l =
    further_aliases l.self.depth too_high (inside too_high l.self.depth) l.fn.first l.fn.tokens
    ≡ loop_from pure (next_alias l.self.depth too_high (inside too_high l.self.depth)) (l._turn-end - l._turn) l.all l.tokens
