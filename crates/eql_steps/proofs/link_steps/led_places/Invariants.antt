use Rattle.std.proofs.Common.{◌≡◌, ◌++◌, drop}
use Rattle.eql_steps.specs.Index.{led_places_of}
use Rattle.eql_steps.proofs.link_steps.led_places.Given as goal

abbrev pub invariant-loop-source : goal.invariant-loop-source
invariant-loop-source l = l.places.items ++ led_places_of l.objects l.link (drop l.source-index l.sources) ≡ led_places_of l.objects l.link l.sources
