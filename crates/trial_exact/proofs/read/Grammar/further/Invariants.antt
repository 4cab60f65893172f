use Rattle.std.proofs.Common.{◌≡◌, ◌-◌}
use Rattle.trial_exact.specs.Trees.{too_high}
use Rattle.trial_exact.specs.Readers.{further, next_item, inside}
use Rattle.exact.specs.Reading.{loop_from, pure}
use Rattle.trial_exact.proofs.read.Grammar.further.Given as goal

abbrev pub invariant-loop-turn : goal.invariant-loop-turn
invariant-loop-turn g l =
    further l.self.depth too_high (inside too_high l.self.depth) l.fn.first l.fn.tokens
    ≡ loop_from pure (next_item l.self.depth too_high (inside too_high l.self.depth)) (l._turn-end - l._turn) l.all l.tokens
