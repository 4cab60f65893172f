use Rattle.std.proofs.Common.{◌≡◌, ◌-◌}
use Rattle.ev_lex.specs.declared.keyword.Keyword.TheVariants as keyword
use Rattle.eql_grammar.specs.Words.{is_word}
use Rattle.eql_grammar.specs.Readers.{further_keys, next_key, inside}
use Rattle.exact.specs.Reading.{chain_from}
use Rattle.eql_grammar.specs.Trees.{too_high}
use Rattle.eql_parse.proofs.grammar.Grammar.further_keys.Given as goal

abbrev pub invariant-loop-turn : goal.invariant-loop-turn
invariant-loop-turn g l =
    further_keys l.self.depth too_high (inside too_high l.self.depth) l.fn.first l.fn.tokens
    ≡ chain_from (is_word keyword.Then) (next_key l.self.depth too_high (inside too_high l.self.depth)) (l._turn-end - l._turn) l.all l.tokens
