use Rattle.std.proofs.Common.{◌≡◌, ◌++◌, length}
use Rattle.std.specs.Vec.Iter.{into_iter_items, into_iter_len}
use Rattle.serde_json.specs.View.{items_view}
use Rattle.db_load.specs.Drafts.{elements_of as elements_of_items}
use Rattle.db_load.proofs.drafts.elements_of.Given as goal

-- the elements so far, and those of what is left
abbrev pub invariant-loop-item : goal.invariant-loop-item
invariant-loop-item l =
    (l.elements ++ elements_of_items (items_view (into_iter_items l.item-iterator)) ≡ elements_of_items (items_view l.fn.items.items))
    × (into_iter_len l.item-iterator ≡ length (into_iter_items l.item-iterator))
