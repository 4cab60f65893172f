use Rattle.std.proofs.Common.{◌≡◌, ◌++◌, drop, map, filter}
use Rattle.db_store.specs.declared.object.Entry.{Entry}
use Rattle.eql_world.specs.View.{flag_for, cut_entry, is_filled}
use Rattle.eql_world.proofs.cutting.cut.Given as goal

abbrev pub invariant-loop-entry : goal.invariant-loop-entry
invariant-loop-entry l = l.values ++ filter (λ (e : Entry). is_filled e.value) (map (cut_entry (flag_for l.objects l.flags)) (drop l.entry-index l.object.values)) ≡ filter (λ (e : Entry). is_filled e.value) (map (cut_entry (flag_for l.objects l.flags)) l.object.values)
