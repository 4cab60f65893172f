use Rattle.std.proofs.Common.{◌≡◌, ◌-◌}
use Rattle.exact.specs.declared.rule.Rule.TheVariants.{Unexpected}
use Rattle.eql_grammar.specs.Readers.{inside_for, turn, inside}
use Rattle.exact.specs.Reading.{loop_from, refuse}
use Rattle.eql_grammar.specs.Trees.{too_high}
use Rattle.eql_parse.proofs.grammar.Grammar.inside_for.Given as goal

abbrev pub invariant-loop-turn : goal.invariant-loop-turn
invariant-loop-turn g l =
    inside_for l.self.depth too_high (inside too_high l.self.depth) l.fn.first l.fn.tokens
    ≡ loop_from (λ heads. refuse Unexpected) (turn l.self.depth too_high (inside too_high l.self.depth)) (l._turn-end - l._turn) l.heads l.tokens
