use Rattle.std.proofs.Common.{◌≡◌, ◌-◌}
use Rattle.sql_lex.specs.declared.token.Sign.TheVariants as sign
use Rattle.sql_grammar.specs.Words.{is_sign}
use Rattle.exact.specs.Reading.{chain, chain_from}
use Rattle.sql_grammar.specs.Trees.{too_high}
use Rattle.sql_grammar.specs.Trees as t
use Rattle.sql_grammar.specs.Readers as spec
use Rattle.sql_grammar.specs.Readers.{inside}
use Rattle.sql_read.proofs.grammar.Grammar.further_keys.Given as goal

abbrev pub invariant-loop-turn : goal.invariant-loop-turn
invariant-loop-turn g l =
    chain (is_sign sign.Comma) (spec.comma_step (spec.key l.self.depth too_high (inside too_high l.self.depth)) t.with_key) l.fn.first l.fn.tokens
    ≡ chain_from (is_sign sign.Comma) (spec.comma_step (spec.key l.self.depth too_high (inside too_high l.self.depth)) t.with_key) (l._turn-end - l._turn) l.all l.tokens
