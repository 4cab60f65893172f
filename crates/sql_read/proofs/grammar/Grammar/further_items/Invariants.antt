use Rattle.std.proofs.Common.{◌≡◌, ◌-◌}
use Rattle.exact.specs.Reading.{chain, chain_from}
use Rattle.sql_grammar.specs.Trees.{too_high}
use Rattle.sql_grammar.specs.Readers as spec
use Rattle.sql_grammar.specs.Readers.{inside}
use Rattle.sql_read.proofs.grammar.Grammar.further_items.Given as goal

abbrev pub invariant-loop-turn : goal.invariant-loop-turn
invariant-loop-turn g l =
    chain (spec.goes_on_items) (spec.next_item l.self.depth too_high (inside too_high l.self.depth)) l.fn.first l.fn.tokens
    ≡ chain_from (spec.goes_on_items) (spec.next_item l.self.depth too_high (inside too_high l.self.depth)) (l._turn-end - l._turn) l.all l.tokens
