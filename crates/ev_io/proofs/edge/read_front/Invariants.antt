-- The bytes so far are those that the reader gave, and are within the bound.
use Rattle.std.proofs.Common.{◌≤◌, ◌<◌, ◌-◌, length, vec_len}
use Rattle.std.specs.Io.KnownBytes.{Consumes}
use Rattle.ev_io.proofs.edge.read_front.Given as goal

abbrev pub invariant-loop-file : goal.invariant-loop-file
invariant-loop-file g l =
    (0 < vec_len l.block) × (length l.bytes.items ≤ l.most)
    × Consumes (g.F.Read.remaining l.initial.file) (g.F.Read.remaining l.file) l.bytes.items

abbrev pub decreases-loop-file : goal.decreases-loop-file
decreases-loop-file g l = l.most - length l.bytes.items
