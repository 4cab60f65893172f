use Rattle.std.proofs.Common.{◌≡◌, ◌++◌, drop}
use Rattle.eql_sem.specs.Forms.{strip}
use Rattle.eql_sem.proofs.item.strip.Given as goal

abbrev pub invariant-loop-item : goal.invariant-loop-item
invariant-loop-item l = l.all ++ strip (drop l.item-index l.items) ≡ strip l.items
