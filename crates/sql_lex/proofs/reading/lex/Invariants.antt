use Rattle.std.proofs.Common.{◌≤◌, ◌-◌, drop, length}
use Rattle.sql_lex.specs.Reading.{Reads}
use Rattle.sql_lex.proofs.reading.lex.Given as goal

abbrev pub invariant-loop-at : goal.invariant-loop-at
invariant-loop-at l = (l.at ≤ length l.text) × Reads 0 l.text l.tokens l.at (drop l.at l.text)

abbrev pub decreases-loop-at : goal.decreases-loop-at
decreases-loop-at l = length l.text - l.at
