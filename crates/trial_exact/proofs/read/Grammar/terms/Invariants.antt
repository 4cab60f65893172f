use Rattle.std.proofs.Common.{◌≡◌, ◌-◌}
use Rattle.trial_exact.specs.declared.token.Sign.TheVariants as sign
use Rattle.trial_exact.specs.Words.{is}
use Rattle.trial_exact.specs.Trees.{too_high}
use Rattle.trial_exact.specs.Readers.{terms, term, inside}
use Rattle.exact.specs.Reading.{chain_from}
use Rattle.trial_exact.proofs.read.Grammar.terms.Given as goal

abbrev pub invariant-loop-turn : goal.invariant-loop-turn
invariant-loop-turn g l =
    terms l.self.depth too_high (inside too_high l.self.depth) l.fn.first l.fn.tokens
    ≡ chain_from (is sign.Plus) (term l.self.depth too_high (inside too_high l.self.depth)) (l._turn-end - l._turn) l.left l.tokens
