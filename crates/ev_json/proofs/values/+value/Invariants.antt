-- The values so far print the components so far.
use Rattle.std.proofs.Common.{map, take}
use Rattle.ev_value.specs.JsonText.{value_text}
use Rattle.ev_json.specs.Printed.{ArePrinted}
use Rattle.ev_json.proofs.values.+value.Given as goal

abbrev pub invariant-values_of-loop-part : goal.invariant-values_of-loop-part
invariant-values_of-loop-part l = ArePrinted l.values.items (map value_text (take l.part-index l.parts))
