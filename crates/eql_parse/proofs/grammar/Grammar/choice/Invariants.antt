use Rattle.std.proofs.Common.{◌≡◌, ◌-◌}
use Rattle.exact.specs.declared.rule.Rule.TheVariants.{Unexpected}
use Rattle.eql_parse.specs.Turns.{waiting_of}
use Rattle.eql_grammar.specs.Readers.{choice, if_turn, inside}
use Rattle.exact.specs.Reading.{loop_from, refuse}
use Rattle.eql_grammar.specs.Trees.{too_high}
use Rattle.eql_parse.proofs.grammar.Grammar.choice.Given as goal

abbrev pub invariant-loop-turn : goal.invariant-loop-turn
invariant-loop-turn g l =
    choice l.self.depth too_high (inside too_high l.self.depth) l.fn.tokens
    ≡ loop_from (λ waiting. refuse Unexpected) (if_turn l.self.depth too_high (inside too_high l.self.depth)) (l._turn-end - l._turn) (waiting_of l.waiting) l.tokens
