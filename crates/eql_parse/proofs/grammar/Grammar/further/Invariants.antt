use Rattle.std.proofs.Common.{◌≡◌, ◌-◌}
use Rattle.ev_lex.specs.declared.token.Sign.TheVariants as sign
use Rattle.eql_grammar.specs.Words.{is_sign}
use Rattle.eql_grammar.specs.Readers.{further, next_listed, inside}
use Rattle.exact.specs.Reading.{chain_from}
use Rattle.eql_grammar.specs.Trees.{too_high}
use Rattle.eql_parse.proofs.grammar.Grammar.further.Given as goal

abbrev pub invariant-loop-turn : goal.invariant-loop-turn
invariant-loop-turn g l =
    further l.self.depth too_high (inside too_high l.self.depth) l.fn.first l.fn.tokens
    ≡ chain_from (is_sign sign.Comma) (next_listed l.self.depth too_high (inside too_high l.self.depth)) (l._turn-end - l._turn) l.all l.tokens
