use Rattle.std.proofs.Common.{◌≡◌, drop}
use Rattle.ev_schema.specs.Pointers.{computed_among}
use Rattle.ev_schema.proofs.schema.Schema.computed.Given as goal

abbrev pub invariant-loop-computed : goal.invariant-loop-computed
invariant-loop-computed l = computed_among (drop l.computed-index l.self.computed) l.pointer ≡ computed_among l.self.computed l.pointer
