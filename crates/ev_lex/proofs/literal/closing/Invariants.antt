use Rattle.std.proofs.Common.{◌-◌, length}
use Rattle.std.specs.Prelude.{string_bytes}
use Rattle.ev_lex.proofs.Closing.{IsReadTo}
use Rattle.ev_lex.proofs.literal.closing.Given as goal

abbrev pub invariant-loop-at : goal.invariant-loop-at
invariant-loop-at l = IsReadTo l.quote l.bytes l.at (string_bytes l.text)

abbrev pub decreases-loop-at : goal.decreases-loop-at
decreases-loop-at l = length l.bytes - l.at
